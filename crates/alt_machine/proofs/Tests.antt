-- Lists of tests, and what goes on behind them.
use Rattle.std.proofs.Common.{◌≡◌, refl, ap, Bool, true, false, List, ◌∷◌, Option, Some, None, Result, Ok, Err}
use Rattle.alt_machine.specs.Outcomes.{Outcome, says, refuses, answer_or, unless_refused, with_found}
use Rattle.alt_machine.specs.Refusals.{first_answer, refuse_if, refuse_unless, or_refused}
use Rattle.alt_shape.specs.Refusals.{Answer}
use Rattle.alt_shape.specs.declared.refusal.Refusal.{Refusal}

-- where no test applies, the request goes on; where one does, it answers
pub passed : (tests : List (Option Answer)) (outcome : Outcome) → first_answer tests ≡ None
    → unless_refused tests outcome ≡ outcome
passed tests outcome e = ap (λ o. answer_or o outcome) e

-- the first test that applies gives the answer, whatever comes behind
pub stopped : (tests : List (Option Answer)) (outcome : Outcome) (answer : Answer)
    → first_answer tests ≡ Some answer → unless_refused tests outcome ≡ says answer
stopped tests outcome answer e = ap (λ o. answer_or o outcome) e

-- what was found is handed on, or its refusal is the answer
pub found : {A : Type 0} (r : Result A Answer) (go : A → Outcome) (x : A) → r ≡ Ok x
    → with_found r go ≡ go x
found r go x e = ap (λ q. with_found q go) e

-- where nothing was found, the refusal that stands for it is the answer
pub missed : {A : Type 0} (r : Result A Answer) (go : A → Outcome) (answer : Answer)
    → r ≡ Err answer → with_found r go ≡ says answer
missed r go answer e = ap (λ q. with_found q go) e

-- a look-up that found something, and one that didn't
pub found_some : {A : Type 0} (r : Refusal) (o : Option A) (go : A → Outcome) (x : A) → o ≡ Some x
    → with_found (or_refused r o) go ≡ go x
found_some r o go x e = ap (λ q. with_found (or_refused r q) go) e

-- a look-up that found nothing is refused
pub found_none : {A : Type 0} (r : Refusal) (o : Option A) (go : A → Outcome) → o ≡ None
    → with_found (or_refused r o) go ≡ refuses r
found_none r o go e = ap (λ q. with_found (or_refused r q) go) e

-- a test that doesn't apply is passed over, so that the others tell
pub unless_holds : (b : Bool) (r : Refusal) (tests : List (Option Answer))
    → first_answer (refuse_unless b r ∷ tests) ≡ None → (b ≡ true) × (first_answer tests ≡ None)
unless_holds true r tests e = (refl, e)
unless_holds false r tests e = absurd (let f : ⊥ = cc in f)

-- where a test and those behind it refuse nothing, what it refuses for isn't so
pub if_fails : (b : Bool) (r : Refusal) (tests : List (Option Answer))
    → first_answer (refuse_if b r ∷ tests) ≡ None → (b ≡ false) × (first_answer tests ≡ None)
if_fails true r tests e = absurd (let f : ⊥ = cc in f)
if_fails false r tests e = (refl, e)

-- where no test of a list applies, neither the first does nor any of the others
pub rest_none : (o : Option Answer) (tests : List (Option Answer)) → first_answer (o ∷ tests) ≡ None
    → (o ≡ None) × (first_answer tests ≡ None)
rest_none None tests e = (refl, e)
rest_none (Some a) tests e = absurd (let f : ⊥ = cc in f)
