-- Tests of the words that a list of texts points to.
use Rattle.std.proofs.Common.{◌≡◌, refl, ap, Bool, List, [], ◌∷◌, map}
use Rattle.std.specs.Prelude.{◌&&◌, ◌||◌}
use Rattle.std.specs.List.{list_any, list_all}

-- some element passes a test of what it is mapped to exactly where one of the mapped list passes it
pub any_mapped : {A B : Type 0} (f : A → B) (p : B → Bool) (xs : List A)
    → list_any (λ x. p (f x)) xs ≡ list_any p (map f xs)
any_mapped f p [] = refl
any_mapped f p (x ∷ xs) = ap (λ b. p (f x) || b) (any_mapped f p xs)

-- and so do all of them
pub all_mapped : {A B : Type 0} (f : A → B) (p : B → Bool) (xs : List A)
    → list_all (λ x. p (f x)) xs ≡ list_all p (map f xs)
all_mapped f p [] = refl
all_mapped f p (x ∷ xs) = ap (λ b. p (f x) && b) (all_mapped f p xs)
