-- Whether a family has many files.
use Rattle.std.proofs.Common.{length, cond, Bool, true, false, ℕ, List, [], ◌∷◌, arith}
use Rattle.std.specs.Prelude.{Some}
use Rattle.std.specs.List.{AllByRecursion}
use Rattle.std.specs.Map.{lookup, values_of}
use Rattle.alt_families.specs.Families.{files_in}
use Rattle.alt_families.specs.declared.family.Family.{Family}
use Rattle.alt_hand.specs.Merging.{AreMany}

-- None that a map finds has many files where none of all has.
pub found_few : (test : ℕ → Bool) (es : List (ℕ × Family)) (merge : ℕ)
    → AllByRecursion (λ (f : Family). AreMany merge (length f.files.items) → ⊥) (values_of es)
    → AreMany merge (length (files_in (lookup test es))) → ⊥
found_few test [] merge all many = let some = many.0 in omega (arith, some)
found_few test (e ∷ es) merge all many =
    here (test e.0) (found_few test es merge all.1) many
  where
    here : (t : Bool) → (AreMany merge (length (files_in (lookup test es))) → ⊥)
        → AreMany merge (length (files_in (cond t (Some e.1) (lookup test es)))) → ⊥
    here true rest many = all.0 many
    here false rest many = rest many
