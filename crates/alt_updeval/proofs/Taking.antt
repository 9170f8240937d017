-- One element more of a list.
use Rattle.std.proofs.Common.{◌≡◌, refl, sym, ap, ◌∙◌, ℕ, zero, suc, ◌+◌, List, [], ◌∷◌, ◌++◌, take, Some, None, add-one}
use Rattle.std.specs.Prelude.{slice_get}
use Rattle.std.proofs.lemmas.List.{append_assoc}
use Rattle.std.proofs.lemmas.Option.{same_Some}

module _ {X : Type 0} where
  upto : (xs : List X) (i : ℕ) (x : X) → Some x ≡ slice_get xs i
      → take (suc i) xs ≡ take i xs ++ x ∷ []
  upto [] i x e = cc
  upto (y ∷ ys) zero x e = ap (λ z. z ∷ []) (sym (same_Some x y e))
  upto (y ∷ ys) (suc i) x e = ap (λ (l : List X). y ∷ l) (upto ys i x e)

  -- where one stands there
  pub take-one_more : (xs : List X) (i : ℕ) (x : X) → Some x ≡ slice_get xs i
      → take (i + 1) xs ≡ take i xs ++ x ∷ []
  take-one_more xs i x e = ap (λ n. take n xs) (add-one i) ∙ upto xs i x e

  -- past its end nothing more is taken of a list
  past : (xs : List X) (i : ℕ) → None ≡ slice_get xs i → take (suc i) xs ≡ take i xs
  past [] zero e = refl
  past [] (suc i) e = refl
  past (y ∷ ys) zero e = cc
  past (y ∷ ys) (suc i) e = ap (λ (l : List X). y ∷ l) (past ys i e)

  -- where none does
  pub take-no_more : (xs : List X) (i : ℕ) → None ≡ slice_get xs i → take (i + 1) xs ≡ take i xs
  take-no_more xs i e = ap (λ n. take n xs) (add-one i) ∙ past xs i e

  -- one element more behind others
  pub copied_more : (first before now xs : List X) (i : ℕ) (t u : X) → now ≡ before ++ u ∷ []
      → u ≡ t → Some t ≡ slice_get xs i → before ≡ first ++ take i xs
      → now ≡ first ++ take (i + 1) xs
  copied_more first before now xs i t u put same stands was =
      put ∙ ap (λ x. before ++ x ∷ []) same ∙ ap (λ l. l ++ t ∷ []) was
      ∙ append_assoc first (take i xs) (t ∷ [])
      ∙ ap (λ l. first ++ l) (sym (take-one_more xs i t stands))
