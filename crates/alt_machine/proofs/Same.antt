-- The decision on items being equal tells whether they are.
use Rattle.std.proofs.Common.{◌≡◌, List, Bool, true, false, Option, refl, sym}
use Rattle.std.specs.Prelude.{◌↔◌, IsTrue}
use Rattle.alt_value.specs.Tree.{Pair}
use Rattle.alt_machine.specs.Same.{decision_holds, is_same, equality}

-- what a decision says holds
holds_so : {A : Type 0} (d : Dec A) → decision_holds d ≡ true → A
holds_so (yes x) e = x
holds_so (no f) e = absurd (let g : ⊥ = cc in g)

-- and it says so of what holds
so_holds : {A : Type 0} (d : Dec A) → A → decision_holds d ≡ true
so_holds (yes x) a = refl
so_holds (no f) a = absurd (f a)

-- items that are told to be equal are
pub same_is : (old new : Option (List Pair)) → is_same old new ≡ true → old ≡ new
same_is old new e = holds_so (equality old new) e

-- and those that are equal are told to be
pub is_same-equal : (old new : Option (List Pair)) → old ≡ new → is_same old new ≡ true
is_same-equal old new e = so_holds (equality old new) e

-- a test of equality is the decision
pub same_by : (old new : Option (List Pair)) (b : Bool) → IsTrue b ↔ (old ≡ new)
    → b ≡ is_same old new
same_by old new true h = sym (is_same-equal old new (h.0 refl))
same_by old new false h = elim (is_same old new) as (λ r. is_same old new ≡ r → false ≡ r) [
  | true ↦ λ e. absurd (no_truth (h.1 (same_is old new e)))
  | false ↦ λ e. refl
] refl
  where
    no_truth : IsTrue false → ⊥
    no_truth t = cc
