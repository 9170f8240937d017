-- Digits in pairs, and bytes subtracted from 255.
use Rattle.std.proofs.Common.{◌≡◌, ℕ, zero, suc, ◌+◌, ◌-◌, ◌*◌, ◌<◌, ◌≤◌, List, [], ◌∷◌, ◌++◌, length, get_or, take, drop, refl, sym, ap, ◌∙◌, arith, append_assoc, length-take}
use Rattle.std.proofs.Math.ListN.{set}
use Rattle.std.proofs.Math.Seq.{take-suc-set}
use Rattle.std.proofs.lemmas.List.{take_more}
use Rattle.std.proofs.lemmas.Slice.{take-put_mid}
use borrow.Rule.Slice.PartMut.{put_mid}
use Rattle.alt_decimal.specs.Spelled.{digit_pairs, complement}

-- digits behind whole pairs
pub pairs-append : (n : ℕ) (xs ys : List ℕ) → length xs ≡ 2 * n
    → digit_pairs (xs ++ ys) ≡ digit_pairs xs ++ digit_pairs ys
pairs-append zero [] ys e = refl
pairs-append zero (a ∷ xs) ys e = absurd (omega arith)
pairs-append (suc n) [] ys e = absurd (omega arith)
pairs-append (suc n) (a ∷ []) ys e = absurd (omega arith)
pairs-append (suc n) (a ∷ b ∷ xs) ys e = ap (λ ps. (10 * a + b + 1) ∷ ps)
    (pairs-append n xs ys (omega arith))

-- a last single digit is filled with 0
pub pairs-filled : (n : ℕ) (xs : List ℕ) → length xs ≡ 2 * n + 1 → digit_pairs (xs ++ 0 ∷ []) ≡ digit_pairs xs
pairs-filled n [] e = absurd (omega arith)
pairs-filled n (a ∷ []) e = ap (λ p. p ∷ []) (omega arith)
pairs-filled zero (a ∷ b ∷ xs) e = absurd (omega arith)
pairs-filled (suc n) (a ∷ b ∷ xs) e = ap (λ ps. (10 * a + b + 1) ∷ ps)
    (pairs-filled n xs (omega arith))

-- so many pairs as half the digits
pub length-pairs : (n : ℕ) (xs : List ℕ) → length xs ≡ 2 * n → length (digit_pairs xs) ≡ n
length-pairs zero [] e = refl
length-pairs zero (a ∷ xs) e = absurd (omega arith)
length-pairs (suc n) [] e = absurd (omega arith)
length-pairs (suc n) (a ∷ []) e = absurd (omega arith)
length-pairs (suc n) (a ∷ b ∷ xs) e = ap suc (length-pairs n xs (omega arith))

-- one more pair
pub pairs_step : (out ds : List ℕ) (i v : ℕ) → take i out ≡ digit_pairs (take (2 * i) ds) → i < length out
    → length ds ≡ 2 * length out
    → v ≡ 10 * get_or ds (2 * i) 0 + get_or ds (2 * i + 1) 0 + 1
    → take (i + 1) (set out i v) ≡ digit_pairs (take (2 * (i + 1)) ds)
pairs_step out ds i v written within even is =
    let two : 2 * (i + 1) ≡ 2 * i + 1 + 1 = omega arith in
    let a = get_or ds (2 * i) 0 in
    let b = get_or ds (2 * i + 1) 0 in
    let digits : take (2 * (i + 1)) ds ≡ take (2 * i) ds ++ a ∷ b ∷ [] =
    ap (λ n. take n ds) two ∙ take_more ds (2 * i + 1) 0 (omega arith)
    ∙ ap (λ ts. ts ++ b ∷ []) (take_more ds (2 * i) 0 (omega arith))
    ∙ append_assoc (take (2 * i) ds) (a ∷ []) (b ∷ []) in
    let len : length (take (2 * i) ds) ≡ 2 * i = omega (arith, length-take (2 * i) ds) in
    let next : i + 1 ≡ suc i = omega arith in
    ap (λ n. take n (set out i v)) next ∙ take-suc-set out i v within
    ∙ ap (λ ts. ts ++ v ∷ []) written ∙ ap (λ x. digit_pairs (take (2 * i) ds) ++ x ∷ []) is
    ∙ sym (pairs-append i (take (2 * i) ds) (a ∷ b ∷ []) len) ∙ ap digit_pairs (sym digits)

-- one more byte is flipped
pub flip_step : (init : List ℕ) (i : ℕ) → i < length init
    → set (complement (take i init) ++ drop i init) i
    (255 - get_or (complement (take i init) ++ drop i init) i 0)
    ≡ complement (take (suc i) init) ++ drop (suc i) init
flip_step [] i h = absurd (omega arith)
flip_step (x ∷ xs) zero h = refl
flip_step (x ∷ xs) (suc i) h = ap (λ ts. (255 - x) ∷ ts) (flip_step xs i (omega arith))

-- the bytes flipped so far, and the next
pub flip_next : (init bytes : List ℕ) (i : ℕ) → i < length init
    → bytes ≡ complement (take i init) ++ drop i init
    → set bytes i (255 - get_or bytes i 0) ≡ complement (take (i + 1) init) ++ drop (i + 1) init
flip_next init bytes i h e =
    let next : suc i ≡ i + 1 = omega arith in
    rw e (flip_step init i h ∙ ap (λ n. complement (take n init) ++ drop n init) next)

-- a sign, a first digit's place and pairs, one after the other
pub spelled_parts : (buf1 buf2 ps qs : List ℕ) (sign first r at count : ℕ)
    → take at buf1 ≡ sign ∷ first ∷ [] → at ≤ length buf1 → length qs ≡ count → ps ≡ qs
    → take r buf2 ≡ take (at + count) (put_mid at (at + count - at) buf1 ps) ++ 0 ∷ []
    → take r buf2 ≡ sign ∷ first ∷ (qs ++ 0 ∷ [])
spelled_parts buf1 buf2 ps qs sign first r at count front long some same e =
    let len : length ps ≡ count = ap length same ∙ some in
    e ∙ ap (λ ts. ts ++ 0 ∷ []) (take-put_mid at (at + count - at) buf1 ps (at + count)
    (omega (arith, len)) long ∙ ap (λ ts. ts ++ ps) front)
    ∙ ap (λ ts. sign ∷ first ∷ (ts ++ 0 ∷ [])) same
