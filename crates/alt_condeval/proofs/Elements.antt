-- A test of the elements from a place on, where one stands there.
use Rattle.std.proofs.Common.{◌≡◌, sym, ap, ◌∙◌, ℕ, zero, suc, ◌+◌, Bool, true, false, ◌||◌, List, [], ◌∷◌, drop, Some, add-one}
use Rattle.std.specs.Prelude.{slice_get}
use Rattle.std.specs.List.{list_any}
use Rattle.std.proofs.lemmas.Option.{same_Some}

module _ {X : Type 0} (f : X → Bool) where
  from : (xs : List X) (i : ℕ) (x : X) → Some x ≡ slice_get xs i
      → list_any f (drop i xs) ≡ (f x || list_any f (drop (suc i) xs))
  from [] i x e = cc
  from (y ∷ ys) zero x e = ap (λ z. f z || list_any f ys) (sym (same_Some x y e))
  from (y ∷ ys) (suc i) x e = from ys i x e

  next : (xs : List X) (i : ℕ) (x : X) → Some x ≡ slice_get xs i
      → list_any f (drop i xs) ≡ (f x || list_any f (drop (i + 1) xs))
  next xs i x e = from xs i x e ∙ ap (λ j. f x || list_any f (drop j xs)) (sym (add-one i))

  -- one that passes settles it
  pub any_here : (xs : List X) (i : ℕ) (x : X) → list_any f xs ≡ list_any f (drop i xs)
      → Some x ≡ slice_get xs i → f x ≡ true → list_any f xs ≡ true
  any_here xs i x so e good = so ∙ next xs i x e ∙ ap (λ b. b || list_any f (drop (i + 1) xs)) good

  -- one that doesn't leaves it to those behind
  pub any_later : (xs : List X) (i : ℕ) (x : X) → list_any f xs ≡ list_any f (drop i xs)
      → Some x ≡ slice_get xs i → f x ≡ false
      → list_any f xs ≡ list_any f (drop (i + 1) xs)
  any_later xs i x so e bad = so ∙ next xs i x e ∙ ap (λ b. b || list_any f (drop (i + 1) xs)) bad
