-- The last digits of numbers, and the digits of a number as its last ones.
use Rattle.std.proofs.Common.{◌≡◌, ℕ, zero, suc, ◌+◌, ◌-◌, ◌*◌, ◌/◌, ◌%◌, ◌^◌, ◌<◌, ◌≤◌, List, [], ◌∷◌, ◌++◌, length, take, drop, length-take, length-drop, refl, sym, ap, ◌∙◌, arith, replicate, length-append, append_assoc, inl, inr}
use Rattle.std.proofs.Math.Nat.{pow-suc, div-div-eq-div-mul, div-one, div-eq_of_lt}
use Rattle.std.proofs.lemmas.Nat.{div-add-mod'}
use Rattle.std.proofs.lemmas.List.{append-nil, drop-set, replicate_more, map-append, length-map}
use Rattle.std.proofs.Math.ListN.{set, length-set}
use Rattle.std.proofs.Math.Seq.{take-append_seam}
use borrow.Rule.Slice.PartMut.{put_mid}
use Rattle.std.proofs.lemmas.Bool.{cases_lt}
use Rattle.std.specs.Int.Digits.{digits_of}
use Rattle.std.proofs.lemmas.Int.Digits.{digits_of_step, length-digits_of_step}
use Rattle.alt_base.proofs.Lists.{length-zero}
use Rattle.alt_decimal.specs.Digits.{padded, width, glyphs}
use Rattle.alt_decimal.specs.Normal.{ten_pow_pos, mul-ten_pow}
use Rattle.alt_decimal.proofs.Widths.{width-zero}

-- no digits
pub padded-none : (n : ℕ) → padded 0 n ≡ []
unfolding padded
padded-none n = refl

-- the last digit is split off
pub padded-last : (k n : ℕ) → padded (suc k) n ≡ padded k (n / 10) ++ n % 10 ∷ []
unfolding padded
padded-last k n = refl

-- so many digits
pub length-padded : (k n : ℕ) → length (padded k n) ≡ k
unfolding padded
length-padded zero n = refl
length-padded (suc k) n = length-append (padded k (n / 10)) (n % 10 ∷ [])
    ∙ omega (arith, length-padded k (n / 10))

-- a shift by k digits, and one more
shifted : (n k : ℕ) → n / 10 / 10 ^ k ≡ n / 10 ^ suc k
shifted n k = div-div-eq-div-mul n 10 (10 ^ k) ∙ ap (λ m. n / m) (omega (arith, pow-suc 10 k))

-- one more shift
pub shifted_last : (n k : ℕ) → n / 10 ^ k / 10 ≡ n / 10 ^ suc k
shifted_last n k = div-div-eq-div-mul n (10 ^ k) 10 ∙ ap (λ m. n / m) (sym (pow-suc 10 k))

-- the first digit is split off
pub padded-first : (k n : ℕ) → padded (suc k) n ≡ (n / 10 ^ k % 10) ∷ padded k n
padded-first zero n = padded-last 0 n ∙ rw (padded-none (n / 10), padded-none n, div-one n) refl
padded-first (suc k) n =
    padded-last (suc k) n ∙ ap (λ ds. ds ++ n % 10 ∷ []) (padded-first k (n / 10))
    ∙ rw (shifted n k, padded-last k n) refl

-- the digits before the last ones, and those
pub padded-append : (j k n : ℕ) → padded (j + k) n ≡ padded j (n / 10 ^ k) ++ padded k n
padded-append j zero n = rw (padded-none n, append-nil, div-one n)
    (ap (λ i. padded i n) (omega arith))
padded-append j (suc k) n =
    let e : j + suc k ≡ suc (j + k) = omega arith in
    ap (λ i. padded i n) e ∙ padded-last (j + k) n
    ∙ ap (λ ds. ds ++ n % 10 ∷ []) (padded-append j k (n / 10))
    ∙ rw (shifted n k, padded-last k n) (append_assoc (padded j (n / 10 ^ suc k))
    (padded k (n / 10)) (n % 10 ∷ []))

-- what stands before the last k digits does not matter
pub padded-low : (k q r : ℕ) → padded k (q * 10 ^ k + r) ≡ padded k r
padded-low zero q r = padded-none _ ∙ sym (padded-none r)
padded-low (suc k) q r =
    let e : q * 10 ^ suc k ≡ q * 10 ^ k * 10 = mul-ten_pow q k in
    let high : (q * 10 ^ suc k + r) / 10 ≡ q * 10 ^ k + r / 10 = omega (arith, e) in
    let low : (q * 10 ^ suc k + r) % 10 ≡ r % 10 = omega (arith, e) in
    padded-last k (q * 10 ^ suc k + r) ∙ rw (high, low)
    (ap (λ ds. ds ++ r % 10 ∷ []) (padded-low k q (r / 10))) ∙ sym (padded-last k r)

-- digits before the last ones don't matter
pub padded-mod : (k n : ℕ) → padded k (n % 10 ^ k) ≡ padded k n
padded-mod k n =
    let p : 0 < 10 ^ k = ten_pow_pos k in
    let e : n ≡ n / 10 ^ k * 10 ^ k + n % 10 ^ k = sym (div-add-mod' n (10 ^ k)) in
    sym (ap (padded k) e ∙ padded-low k (n / 10 ^ k) (n % 10 ^ k))

-- the digits of zero
pub padded-zero : (k : ℕ) → padded k 0 ≡ replicate k 0
padded-zero zero = padded-none 0
padded-zero (suc k) =
    let e : k + 1 ≡ suc k = omega arith in
    let one_more : replicate (k + 1) 0 ≡ replicate (suc k) 0 = ap (λ i. replicate i 0) e in
    padded-last k 0 ∙ ap (λ ds. ds ++ 0 ∷ []) (padded-zero k) ∙ replicate_more k 0 ∙ one_more

-- the last digits behind which zeros stand
pub padded-mul : (k c : ℕ) → padded k (c * 10 ^ k) ≡ replicate k 0
padded-mul k c = ap (padded k) (sym plus_none) ∙ padded-low k c 0 ∙ padded-zero k
  where
    plus_none : c * 10 ^ k + 0 ≡ c * 10 ^ k
    plus_none = omega arith

-- zeros before a number that has fewer digits
pub padded-wide : (j k n : ℕ) → n < 10 ^ k → padded (j + k) n ≡ replicate j 0 ++ padded k n
padded-wide j k n h =
    let none : n / 10 ^ k ≡ 0 = div-eq_of_lt h in
    padded-append j k n ∙ ap (λ ds. ds ++ padded k n) (ap (padded j) none ∙ padded-zero j)

-- what has a digit is above zero
above_none : (n k : ℕ) → width n ≡ suc k → 0 < n
above_none n k e = elim (cases_lt 0 n) [
  | inl above ↦ above
  | inr none ↦ let z : n ≡ 0 = omega arith in absurd (omega (arith, ap width z, width-zero, e))
]

width-step : (n : ℕ) → 0 < n → width n ≡ width (n / 10) + 1
unfolding width
width-step n h = length-digits_of_step 10 n (omega arith) h

-- a number's digits are its last ones, as many as it has
digits_of-padded_at : (k n : ℕ) → width n ≡ k → digits_of 10 n ≡ padded k n
digits_of-padded_at zero n e =
    length-zero (digits_of 10 n) (unfold width in e) ∙ sym (padded-none n)
digits_of-padded_at (suc k) n e =
    let above : 0 < n = above_none n k e in
    let two : 2 ≤ 10 = omega arith in
    let shorter : width (n / 10) ≡ k = omega (arith, e, width-step n above) in
    digits_of_step 10 n two above ∙ ap (λ ds. ds ++ n % 10 ∷ [])
    (digits_of-padded_at k (n / 10) shorter) ∙ sym (padded-last k n)

-- a number's digits are its last ones
pub digits_of-padded : (n : ℕ) → digits_of 10 n ≡ padded (width n) n
digits_of-padded n = digits_of-padded_at (width n) n refl

-- ---- glyphs

-- digits as bytes, of two lists
pub glyphs-append : (z : ℕ) (xs ys : List ℕ) → glyphs z (xs ++ ys) ≡ glyphs z xs ++ glyphs z ys
unfolding glyphs
glyphs-append z xs ys = map-append (λ d. z + d) xs ys

-- of a first digit
pub glyphs-cons : (z x : ℕ) (xs : List ℕ) → glyphs z (x ∷ xs) ≡ (z + x) ∷ glyphs z xs
unfolding glyphs
glyphs-cons z x xs = refl

-- of none
pub glyphs-none : (z : ℕ) → glyphs z [] ≡ []
unfolding glyphs
glyphs-none z = refl

-- as many as digits
pub length-glyphs : (z : ℕ) (xs : List ℕ) → length (glyphs z xs) ≡ length xs
unfolding glyphs
length-glyphs z xs = length-map xs (λ d. z + d)

-- one more digit is written before the last ones
pub put_step : (z n at v : ℕ) (out : List ℕ) → 0 < at → at ≤ length out
    → drop at out ≡ glyphs z (padded (length out - at) n)
    → v ≡ z + n / 10 ^ (length out - at) % 10
    → drop (at - 1) (set out (at - 1) v) ≡ glyphs z
    (padded (length (set out (at - 1) v) - (at - 1)) n)
put_step z n at v out some within written is =
    let k = length out - at in
    let next : at - 1 + 1 ≡ at = omega arith in
    let count : length (set out (at - 1) v) - (at - 1) ≡ suc k =
    omega (arith, length-set out (at - 1) v) in
    drop-set out (at - 1) v (omega arith)
    ∙ ap (λ i. v ∷ drop i out) next ∙ ap (λ ds. v ∷ ds) written
    ∙ ap (λ d. d ∷ glyphs z (padded k n)) is
    ∙ sym (glyphs-cons z (n / 10 ^ k % 10) (padded k n)) ∙ ap (glyphs z) (sym (padded-first k n))
    ∙ ap (λ i. glyphs z (padded i n)) (sym count)

-- nothing was put yet
pub none_put : (z n : ℕ) (out : List ℕ) → drop (length out) out
    ≡ glyphs z (padded (length out - length out) n)
none_put z n out =
    let none : length out - length out ≡ 0 = omega arith in
    length-zero (drop (length out) out) (omega (arith, length-drop (length out) out))
    ∙ sym (ap (λ k. glyphs z (padded k n)) none ∙ ap (glyphs z) (padded-none n) ∙ glyphs-none z)

-- and all is left
pub none_left : (n k : ℕ) → n ≡ n / 10 ^ (k - k)
none_left n k = let none : k - k ≡ 0 = omega arith in rw (none, div-one n) refl

-- and what is left is one digit shorter
pub left_step : (n at v : ℕ) (out : List ℕ) → 0 < at → at ≤ length out
    → n / 10 ^ (length out - at) / 10 ≡ n / 10 ^ (length (set out (at - 1) v) - (at - 1))
left_step n at v out some within =
    let k = length out - at in
    let count : suc k ≡ length (set out (at - 1) v) - (at - 1) =
    omega (arith, length-set out (at - 1) v) in
    shifted_last n k ∙ ap (λ i. n / 10 ^ i) count

-- the two halves of 38 digits
pub halves : (xs zs ys : List ℕ) → length xs ≡ 19 → length zs ≡ 19
    → put_mid 19 19 (xs ++ zs) ys ≡ xs ++ ys
halves xs zs ys ex ez =
    let front : take 19 (xs ++ zs) ≡ xs = ap (λ n. take n (xs ++ zs)) (sym ex)
    ∙ take-append_seam xs zs in
    let behind = drop 19 (drop 19 (xs ++ zs)) in
    let end : behind ≡ [] =
    length-zero behind (omega (
      arith,
      length-drop 19 (drop 19 (xs ++ zs)),
      length-drop 19 (xs ++ zs),
      length-append xs zs,
    )) in
    ap (λ ts. ts ++ (ys ++ behind)) front ∙ ap (λ ts. xs ++ (ys ++ ts)) end
    ∙ ap (λ ts. xs ++ ts) (append-nil ys)

-- both halves are the whole
pub spread_is : (z n : ℕ) (xs zs ys : List ℕ) → length zs ≡ 19
    → xs ≡ glyphs z (padded 19 (n / 10 ^ 19))
    → ys ≡ glyphs z (padded (length (take 19 (drop 19 (xs ++ zs)))) (n % 10 ^ 19))
    → put_mid 19 19 (xs ++ zs) ys ≡ glyphs z (padded 38 n)
spread_is z n xs zs ys ez ex ey =
    let first : length xs ≡ 19 = ap length ex ∙ length-glyphs z (padded 19 (n / 10 ^ 19))
    ∙ length-padded 19 (n / 10 ^ 19) in
    let room : length (take 19 (drop 19 (xs ++ zs))) ≡ 19 =
    omega (
      arith,
      length-take 19 (drop 19 (xs ++ zs)),
      length-drop 19 (xs ++ zs),
      length-append xs zs,
    ) in
    let second : ys ≡ glyphs z (padded 19 n) =
    ey ∙ ap (λ k. glyphs z (padded k (n % 10 ^ 19))) room ∙ ap (glyphs z) (padded-mod 19 n) in
    halves xs zs ys first ez ∙ ap (λ ts. ts ++ ys) ex
    ∙ ap (λ ts. glyphs z (padded 19 (n / 10 ^ 19)) ++ ts) second
    ∙ sym (glyphs-append z (padded 19 (n / 10 ^ 19)) (padded 19 n))
    ∙ ap (glyphs z) (sym (padded-append 19 19 n))
