-- A test of the elements of a list, one after the other.
use Rattle.std.proofs.Common.{◌≡◌, ◌<◌, ◌≤◌, ◌+◌, refl, sym, ap, ◌∙◌, ℕ, zero, suc, Bool, true, false, ◌&&◌, List, [], ◌∷◌, take, length, Some, None, add-one, arith}
use Rattle.std.specs.Prelude.{slice_get}
use Rattle.std.specs.List.{list_all}
use Rattle.std.proofs.lemmas.List.{take_all}
use Rattle.std.proofs.Math.Bool.{and-false}

-- where one doesn't pass not all do
pub not_all : {A : Type 0} (p : A → Bool) (xs : List A) (n : ℕ) (x : A) → slice_get xs n ≡ Some x
    → p x ≡ false → list_all p xs ≡ false
not_all p [] n x at fails = absurd (let no : None ≡ Some x = at in cc no)
not_all p (y ∷ ys) zero x at fails =
    let same : y ≡ x = cc in
    ap (λ b. b && list_all p ys) (ap p same ∙ fails)
not_all p (y ∷ ys) (suc n) x at fails = ap (λ b. p y && b) (not_all p ys n x at fails)
    ∙ and-false (p y)

-- those before the next one pass, and so does it
more_suc : {A : Type 0} (p : A → Bool) (xs : List A) (n : ℕ) (x : A) → slice_get xs n ≡ Some x
    → p x ≡ true → list_all p (take n xs) ≡ true → list_all p (take (suc n) xs) ≡ true
more_suc p [] n x at passes all = refl
more_suc p (y ∷ ys) zero x at passes all =
    let same : y ≡ x = cc in
    ap (λ b. b && true) (ap p same ∙ passes)
more_suc p (y ∷ ys) (suc n) x at passes all = by (p y) (more_suc p ys n x at passes) all
  where
    by : (b : Bool) → (list_all p (take n ys) ≡ true → list_all p (take (suc n) ys) ≡ true)
        → (b && list_all p (take n ys)) ≡ true → (b && list_all p (take (suc n) ys)) ≡ true
    by true more e = more e
    by false more e = e

-- the first of a list pass, with one more that does
pub all_more : {A : Type 0} (p : A → Bool) (xs : List A) (n : ℕ) (x : A) → slice_get xs n ≡ Some x
    → p x ≡ true → list_all p (take n xs) ≡ true → list_all p (take (n + 1) xs) ≡ true
all_more p xs n x at passes all = rw add-one (more_suc p xs n x at passes all)

-- all of a list do where those of a front do that isn't shorter
pub all_taken : {A : Type 0} (p : A → Bool) (xs : List A) (n : ℕ) → length xs ≤ n
    → list_all p (take n xs) ≡ true → list_all p xs ≡ true
all_taken p xs n long all = ap (list_all p) (sym (take_all n xs long)) ∙ all

-- where there are more there is one
pub none_past : {A : Type 0} (xs : List A) (n : ℕ) → n < length xs → slice_get xs n ≡ None → ⊥
none_past [] n h e = omega arith
none_past (x ∷ xs) zero h e = let no : Some x ≡ None = e in cc no
none_past (x ∷ xs) (suc n) h e = none_past xs n (omega arith) e
