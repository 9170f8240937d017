-- Fronts of lists of so many elements.
use Rattle.std.proofs.Common.{◌≡◌, ◌≤◌, refl, ap, ◌∙◌, ℕ, zero, suc, List, [], ◌∷◌, ◌++◌, take, length, append_assoc, append-nil, arith}
use Rattle.std.proofs.Math.Seq.{take-append_seam}
use Rattle.std.proofs.lemmas.List.{take_all}

-- what is taken of a front and more is taken of the whole and more
pub take_front : {A : Type 0} (n : ℕ) (xs ys : List A) → take n (take n xs ++ ys) ≡ take n (xs ++ ys)
take_front zero xs ys = refl
take_front (suc n) [] ys = refl
take_front (suc n) (x ∷ xs) ys = ap (λ l. x ∷ l) (take_front n xs ys)

-- a front isn't longer
pub take_few : {A : Type 0} (n : ℕ) (xs : List A) → length (take n xs) ≤ n
take_few zero xs = omega arith
take_few (suc n) [] = omega arith
take_few (suc n) (x ∷ xs) = omega (arith, take_few n xs)

-- of as many as are taken nothing goes, and nothing comes to them
pub take_full : {A : Type 0} (n : ℕ) (xs ys : List A) → length xs ≤ n → n ≤ length xs
    → take n (xs ++ ys) ≡ xs
take_full n xs ys few many =
    let same : n ≡ length xs = omega (arith, few, many) in
    ap (λ k. take k (xs ++ ys)) same ∙ take-append_seam xs ys

-- few are all taken
pub take_whole : {A : Type 0} (n : ℕ) (xs : List A) → length xs ≤ n → take n (xs ++ []) ≡ xs
take_whole n xs few = ap (take n) (append-nil xs) ∙ take_all n xs few

-- one more step over a list of lists
pub take_step : {A : Type 0} (n : ℕ) (out xs ys next : List A) → next ≡ take n (out ++ xs)
    → take n (next ++ ys) ≡ take n (out ++ (xs ++ ys))
take_step n out xs ys next is = ap (λ l. take n (l ++ ys)) is ∙ take_front n (out ++ xs) ys
    ∙ ap (take n) (append_assoc out xs ys)
