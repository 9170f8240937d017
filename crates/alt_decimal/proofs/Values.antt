-- The number that digits write: parts one after another, zeros before and behind, the first digit and the last.
use Rattle.std.proofs.Common.{◌≡◌, ◌≢◌, ℕ, zero, suc, ◌+◌, ◌*◌, ◌%◌, ◌^◌, ◌<◌, ◌≤◌, List, [], ◌∷◌, ◌++◌, length, get_or, refl, ap, ◌∙◌, arith, replicate, length-append, inl, inr}
use Rattle.std.proofs.Math.Nat.{pow-suc, mul-le-mul_right, mul-le-mul_left}
use Rattle.std.proofs.lemmas.Bool.{cases_lt}
use Rattle.std.proofs.lemmas.Nat.{pow-add}
use Rattle.std.specs.Char.{digit_value}
use Rattle.std.specs.Str.Parse.{AllDigits, digits_value, digits_value_after}
use Rattle.std.proofs.lemmas.Str.{digit_value_digit}
use Rattle.std.proofs.lemmas.Str.Parse.{digit_from_value}
use Rattle.std.proofs.lemmas.Int.Digits.{digits_value-lt}
use Rattle.alt_decimal.specs.Normal.{ten_pow_pos}
use Rattle.alt_decimal.proofs.Widths.{ten_pow-le}

-- a digit is its byte less 48
pub digit_is : (c : ℕ) → digit_value c < 10 → digit_value c + 48 ≡ c
digit_is c h = digit_value_digit c (digit_from_value c h)

-- digits behind a number shift it
pub value_after : (c : ℕ) (ds : List ℕ) → digits_value_after 10 c ds
    ≡ c * 10 ^ length ds + digits_value 10 ds
value_after c [] = omega arith
value_after c (d ∷ ds) =
    let p : c * 10 ^ suc (length ds) ≡ c * (10 ^ length ds * 10) =
    ap (λ q. c * q) (pow-suc 10 (length ds)) in
    omega (
      arith,
      p,
      value_after (c * 10 + digit_value d) ds,
      value_after (0 * 10 + digit_value d) ds,
    )

-- the number of digits behind others
pub value_append : (c : ℕ) (xs ys : List ℕ) → digits_value_after 10 c (xs ++ ys)
    ≡ digits_value_after 10 (digits_value_after 10 c xs) ys
value_append c [] ys = refl
value_append c (x ∷ xs) ys = value_append (c * 10 + digit_value x) xs ys

-- zeros behind a number
value_zeros : (c k : ℕ) → digits_value_after 10 c (replicate k 48) ≡ c * 10 ^ k
value_zeros c zero = omega arith
value_zeros c (suc k) = value_zeros (c * 10 + 0) k ∙ omega (arith, ap (λ q. c * q) (pow-suc 10 k))

-- and behind digits
pub value_zeros_behind : (ds : List ℕ) (k : ℕ)
    → digits_value 10 (ds ++ replicate k 48) ≡ digits_value 10 ds * 10 ^ k
value_zeros_behind ds k = value_append 0 ds (replicate k 48) ∙ value_zeros (digits_value 10 ds) k

-- what the digits of two lists are, they are of one after the other
pub AllDigits-append : (xs ys : List ℕ) → AllDigits 10 xs → AllDigits 10 ys
    → AllDigits 10 (xs ++ ys)
AllDigits-append [] ys p q = q
AllDigits-append (x ∷ xs) ys p q = (p.0, AllDigits-append xs ys p.1 q)

-- parts of digits are digits
pub AllDigits-front : (xs ys : List ℕ) → AllDigits 10 (xs ++ ys) → AllDigits 10 xs
AllDigits-front [] ys p = tt
AllDigits-front (x ∷ xs) ys p = (p.0, AllDigits-front xs ys p.1)

-- and so is the rest
pub AllDigits-back : (xs ys : List ℕ) → AllDigits 10 (xs ++ ys) → AllDigits 10 ys
AllDigits-back [] ys p = p
AllDigits-back (x ∷ xs) ys p = AllDigits-back xs ys p.1

-- with a first digit above 0 all digits count
pub value_first : (ds : List ℕ) (n : ℕ) → AllDigits 10 ds → length ds ≡ suc n → get_or ds 0 0 ≢ 48
    → 10 ^ n ≤ digits_value 10 ds
value_first [] n all e first = absurd (omega arith)
value_first (d ∷ ds) n all e first =
    let above : 1 ≤ digit_value d = omega (arith, digit_is d all.0, first) in
    let same : length ds ≡ n = omega arith in
    rw (← same) (omega (
      arith,
      value_after (0 * 10 + digit_value d) ds,
      mul-le-mul_right (10 ^ length ds) above,
    ))

-- the last digit is the one that stands last
value_last_after : (c : ℕ) (ds : List ℕ) (n : ℕ) → AllDigits 10 ds → length ds ≡ suc n
    → digits_value_after 10 c ds % 10 ≡ digit_value (get_or ds n 0)
value_last_after c [] n all h = absurd (omega arith)
value_last_after c (d ∷ []) zero all h = omega (arith, all.0)
value_last_after c (d ∷ []) (suc n) all h = absurd (omega arith)
value_last_after c (d ∷ e ∷ ds) zero all h = absurd (omega arith)
value_last_after c (d ∷ e ∷ ds) (suc n) all h =
    value_last_after (c * 10 + digit_value d) (e ∷ ds) n all.1 (omega arith)

-- the digit at a place
pub AllDigits-at : (ds : List ℕ) (n : ℕ) → AllDigits 10 ds → n < length ds
    → digit_value (get_or ds n 0) < 10
AllDigits-at [] n all h = absurd (omega arith)
AllDigits-at (d ∷ ds) zero all h = all.0
AllDigits-at (d ∷ ds) (suc n) all h = AllDigits-at ds n all.1 (omega arith)

-- a last digit that isn't 0
pub value_last : (ds : List ℕ) (n : ℕ) → AllDigits 10 ds → length ds ≡ suc n → get_or ds n 0 ≢ 48
    → 0 < digits_value 10 ds % 10
value_last ds n all h last =
    omega (
      arith,
      value_last_after 0 ds n all h,
      digit_is (get_or ds n 0) (AllDigits-at ds n all (omega arith)),
      last,
    )

-- ---- room for 38 digits

-- the number before the digits and one more, with zeros for the digits, is at most 10^38
abbrev pub HasRoom : ℕ → List ℕ → Type 0
HasRoom c ds = (c + 1) * 10 ^ length ds ≤ 10 ^ 38

-- where there is room, there are few digits
pub few_digits : (c : ℕ) (ds : List ℕ) → HasRoom c ds → length ds ≤ 38
few_digits c ds room = elim (cases_lt 38 (length ds)) [
  | inl lt ↦
      let p : 1 * 10 ^ length ds ≤ (c + 1) * 10 ^ length ds =
      mul-le-mul_right (10 ^ length ds) (omega arith) in
      absurd (omega (arith, room, p, ten_pow-le 39 (length ds) lt))
  | inr le ↦ le
]

-- there is room for a part
pub HasRoom-front : (c : ℕ) (xs ys : List ℕ) → HasRoom c (xs ++ ys) → HasRoom c xs
HasRoom-front c xs ys room =
    let e : 10 ^ length (xs ++ ys) ≡ 10 ^ length xs * 10 ^ length ys =
    ap (λ k. 10 ^ k) (length-append xs ys) ∙ pow-add 10 (length xs) (length ys) in
    let p : (c + 1) * 10 ^ length xs * 1 ≤ (c + 1) * 10 ^ length xs * 10 ^ length ys =
    mul-le-mul_left ((c + 1) * 10 ^ length xs) (ten_pow_pos (length ys)) in
    omega (arith, room, p, ap (λ q. (c + 1) * q) e)

-- and for the rest behind it
pub HasRoom-back : (c : ℕ) (xs ys : List ℕ) → AllDigits 10 xs → HasRoom c (xs ++ ys)
    → HasRoom (digits_value_after 10 c xs) ys
HasRoom-back c xs ys all room =
    let e : 10 ^ length (xs ++ ys) ≡ 10 ^ length xs * 10 ^ length ys =
    ap (λ k. 10 ^ k) (length-append xs ys) ∙ pow-add 10 (length xs) (length ys) in
    let v : digits_value_after 10 c xs + 1 ≤ (c + 1) * 10 ^ length xs =
    omega (arith, value_after c xs, digits_value-lt 10 xs all) in
    let p = mul-le-mul_right (10 ^ length ys) v in
    omega (arith, room, p, ap (λ q. (c + 1) * q) e)

-- few digits have room
pub HasRoom-few : (ds : List ℕ) → length ds ≤ 38 → HasRoom 0 ds
HasRoom-few ds few = omega (arith, ten_pow-le (length ds) 38 few)
