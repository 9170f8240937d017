-- Whether two items are equal.
use Rattle.std.specs.Prelude.{◌≡◌, List, Bool, true, false, Option}
use Rattle.std.specs.Coded.{Coded, coded_list, coded_option}
use Rattle.std.proofs.Common.{ap}
use base.Stored.{Gv, gnil, gnum, gcons, num}
use native.Mathlib.Decide.{ℕ_discrete}
use mathlib.Core.Logic.{dite}
use Rattle.alt_value.specs.TreeCode.{coded_pair}
use Rattle.alt_value.specs.Tree.{Pair}

-- the first half of a code that is a pair
code_first_half : Gv → Gv
code_first_half gnil = gnil
code_first_half (gnum n) = gnil
code_first_half (gcons a b) = a

-- and the second half
second_of : Gv → Gv
second_of gnil = gnil
second_of (gnum n) = gnil
second_of (gcons a b) = b

-- the codes of data are equal or they aren't
code_equal : (a b : Gv) → Dec (a ≡ b)
unfolding code_first_half second_of
code_equal gnil gnil = yes (λ i. gnil)
code_equal gnil (gnum n) = no (λ e. let f : ⊥ = cc in f)
code_equal gnil (gcons c d) = no (λ e. let f : ⊥ = cc in f)
code_equal (gnum m) gnil = no (λ e. let f : ⊥ = cc in f)
code_equal (gnum m) (gnum n) = dite (ℕ_discrete m n) (λ e. yes (ap gnum e))
    (λ differ. no (λ e. differ (ap num e)))
code_equal (gnum m) (gcons c d) = no (λ e. let f : ⊥ = cc in f)
code_equal (gcons a b) gnil = no (λ e. let f : ⊥ = cc in f)
code_equal (gcons a b) (gnum n) = no (λ e. let f : ⊥ = cc in f)
code_equal (gcons a b) (gcons c d) = dite (code_equal a c)
    (λ e. dite (code_equal b d) (λ f. yes (λ i. gcons (e i) (f i)))
    (λ differ. no (λ g. differ (ap second_of g))))
    (λ differ. no (λ g. differ (ap code_first_half g)))

-- data that has codes is equal or it isn't
equality_decision : {A : Type 0} (c : Coded A) (x y : A) → Dec (x ≡ y)
equality_decision c x y = dite (code_equal (c.code x) (c.code y)) (λ e. yes (c.inj x y e))
    (λ differ. no (λ e. differ (ap c.code e)))

-- what is at a place and what is to be there are equal, or they aren't
pub equality : (old new : Option (List Pair)) → Dec (old ≡ new)
equality old new = equality_decision (coded_option (coded_list coded_pair)) old new

-- which of the two it is
abbrev pub decision_holds : {A : Type 0} → Dec A → Bool
decision_holds (yes fact) = true
decision_holds (no differ) = false

-- whether what is at a place is what is to be there: one item, or none
abbrev pub is_same : Option (List Pair) → Option (List Pair) → Bool
is_same old new = decision_holds (equality old new)
