-- Pairs of digits are read back.
use Rattle.std.proofs.Common.{◌≡◌, ℕ, zero, suc, ◌+◌, ◌-◌, ◌*◌, ◌/◌, ◌%◌, ◌^◌, ◌<◌, ◌≤◌, Bool, List, [], ◌∷◌, ◌++◌, length, get_or, take, refl, sym, ap, ◌∙◌, arith, inl, inr}
use Rattle.std.proofs.Math.Nat.{mul-le-mul_right}
use Rattle.std.proofs.lemmas.Nat.{pow-add, div-mul-add, div-add-mod', mod_below, div_below}
use Rattle.std.proofs.lemmas.List.{take_more, get_or-map}
use Rattle.std.proofs.lemmas.Bool.{cases_order}
use Rattle.alt_decimal.specs.Digits.{padded}
use Rattle.alt_decimal.specs.Spelled.{digit_pairs}
use Rattle.alt_decimal.specs.Unspelled.{raw, raws, pairs_value_after, IsPair, Ends}
use Rattle.alt_decimal.specs.Normal.{ten_pow_pos}
use Rattle.alt_decimal.proofs.Widths.{ten_pow-le}
use Rattle.alt_decimal.proofs.Padded.{padded-append, padded-low, padded-mod, padded-last, padded-none}

-- each byte is that of a pair
abbrev pub IsPairs : List ℕ → Type 0
IsPairs [] = Unit {0}
IsPairs (b ∷ bs) = IsPair b × IsPairs bs

-- one pair more is a factor of a hundred
pub hundred : (n : ℕ) → 10 ^ (2 * suc n) ≡ 10 ^ (2 * n) * 100
hundred n = let e : 2 * suc n ≡ 2 * n + 2 = omega arith in ap (λ i. 10 ^ i) e ∙ pow-add 10 (2 * n) 2

-- pairs behind a number shift it
pub pairs_after : (c : ℕ) (bs : List ℕ) → pairs_value_after c bs
    ≡ c * 10 ^ (2 * length bs) + pairs_value_after 0 bs
pairs_after c [] = omega arith
pairs_after c (b ∷ bs) =
    let p : c * 10 ^ (2 * suc (length bs)) ≡ c * (10 ^ (2 * length bs) * 100) =
    ap (λ q. c * q) (hundred (length bs)) in
    omega (arith, p, pairs_after (c * 100 + (b - 1)) bs, pairs_after (0 * 100 + (b - 1)) bs)

-- the number of pairs behind others
pub pairs_after-append : (c : ℕ) (xs ys : List ℕ)
    → pairs_value_after c (xs ++ ys) ≡ pairs_value_after (pairs_value_after c xs) ys
pairs_after-append c [] ys = refl
pairs_after-append c (x ∷ xs) ys = pairs_after-append (c * 100 + (x - 1)) xs ys

-- pairs have as many digits as they
pub pairs_below : (bs : List ℕ) → IsPairs bs → pairs_value_after 0 bs < 10 ^ (2 * length bs)
pairs_below [] h = omega arith
pairs_below (b ∷ bs) h =
    let p : (b - 1) * 10 ^ (2 * length bs) ≤ 99 * 10 ^ (2 * length bs) =
    mul-le-mul_right (10 ^ (2 * length bs)) (omega (arith, h.0)) in
    omega (arith, pairs_after (0 * 100 + (b - 1)) bs, pairs_below bs h.1, hundred (length bs), p)

-- two digits
two_digits : (v : ℕ) → padded 2 v ≡ (v / 10 % 10) ∷ (v % 10) ∷ []
two_digits v = padded-last 1 v ∙ ap (λ ds. ds ++ v % 10 ∷ [])
    (padded-last 0 (v / 10) ∙ ap (λ ds. ds ++ v / 10 % 10 ∷ []) (padded-none (v / 10 / 10)))

-- the first two of the last 2 n + 2 digits, and the others
cut_two : (n v : ℕ) → padded (2 * suc n) v ≡ (v / 10 ^ (2 * n) / 10 % 10) ∷ (v / 10 ^
    (2 * n) % 10) ∷ padded (2 * n) v
cut_two n v =
    let e : 2 * suc n ≡ 2 + 2 * n = omega arith in
    ap (λ i. padded i v) e ∙ padded-append 2 (2 * n) v
    ∙ ap (λ ds. ds ++ padded (2 * n) v) (two_digits (v / 10 ^ (2 * n)))

-- the digits of what pairs write are these pairs
pub pairs_padded : (bs : List ℕ) → IsPairs bs
    → digit_pairs (padded (2 * length bs) (pairs_value_after 0 bs)) ≡ bs
pairs_padded [] h = ap digit_pairs (padded-none 0)
pairs_padded (b ∷ bs) h =
    let n = length bs in
    let low = pairs_value_after 0 bs in
    let v : pairs_value_after 0 (b ∷ bs) ≡ (b - 1) * 10 ^ (2 * n) + low =
    omega (arith, pairs_after (0 * 100 + (b - 1)) bs) in
    let high : ((b - 1) * 10 ^ (2 * n) + low) / 10 ^ (2 * n) ≡ b - 1 =
    div-mul-add (b - 1) (10 ^ (2 * n)) low (pairs_below bs h.1) in
    let pair : 10 * ((b - 1) / 10 % 10) + (b - 1) % 10 + 1 ≡ b = omega (arith, h.0) in
    ap (λ m. digit_pairs (padded (2 * suc n) m)) v ∙ ap digit_pairs (cut_two n ((b - 1) * 10 ^ (2 * n) + low))
    ∙ ap (λ q. (10 * (q / 10 % 10) + q % 10 + 1) ∷ digit_pairs
    (padded (2 * n) ((b - 1) * 10 ^ (2 * n) + low))) high
    ∙ ap (λ p. p ∷ digit_pairs (padded (2 * n) ((b - 1) * 10 ^ (2 * n) + low))) pair
    ∙ ap (λ ds. b ∷ digit_pairs ds) (padded-low (2 * n) (b - 1) low)
    ∙ ap (λ ps. b ∷ ps) (pairs_padded bs h.1)

-- and the pairs of digits write their number
pub record AreOf (n v : ℕ) (bs : List ℕ) : Type 0 where
  pub all : IsPairs bs
  pub count : length bs ≡ n
  pub value : pairs_value_after 0 bs ≡ v

-- the pairs of a number have that number
pub pairs_of : (n v : ℕ) → v < 10 ^ (2 * n) → AreOf n v (digit_pairs (padded (2 * n) v))
pairs_of zero v h =
    let none : padded (2 * 0) v ≡ [] = padded-none v in
    rw none (record { all = tt; count = refl; value = omega (arith, h) })
pairs_of (suc n) v h =
    let k = 10 ^ (2 * n) in
    let q = v / k in
    let r = v % k in
    let rest : digit_pairs (padded (2 * n) v) ≡ digit_pairs (padded (2 * n) r) =
    ap digit_pairs (sym (padded-mod (2 * n) v)) in
    let ih : AreOf n r (digit_pairs (padded (2 * n) r)) =
    pairs_of n r (mod_below v k (ten_pow_pos (2 * n))) in
    let small : q < 100 = div_below v k 100 (ten_pow_pos (2 * n)) (omega (arith, h, hundred n)) in
    let b = 10 * (q / 10 % 10) + q % 10 + 1 in
    let b_is : b ≡ q + 1 = omega (arith, small) in
    let shape : digit_pairs (padded (2 * suc n) v) ≡ b ∷ digit_pairs (padded (2 * n) r) =
    ap digit_pairs (cut_two n v) ∙ ap (λ ps. b ∷ ps) rest in
    let parts : q * k + r ≡ v = div-add-mod' v k in
    let first : 0 * 100 + (b - 1) ≡ q = omega (arith, b_is) in
    let shifted : 10 ^ (2 * length (digit_pairs (padded (2 * n) r))) ≡ k =
    ap (λ i. 10 ^ (2 * i)) ih.count in
    rw shape (record {
      all = ((omega arith, omega (arith, b_is, small)), ih.all);
      count = omega (arith, ih.count);
      value = pairs_after (0 * 100 + (b - 1)) (digit_pairs (padded (2 * n) r))
          ∙ rw (first, shifted, ih.value) parts;
    })

-- ---- the loop over the bytes

-- a byte as it was, at its place
pub raws-at : (negative : Bool) (bytes : List ℕ) (i : ℕ) → i < length bytes
    → get_or (raws negative bytes) i 0 ≡ raw negative (get_or bytes i 0)
raws-at negative bytes i h = get_or-map (raw negative) bytes i 0 0 h

-- no 0 stands behind a byte that is no pair
pub no_end : (bs : List ℕ) (i : ℕ) → ((k : ℕ) → k < i → IsPair (get_or bs k 0))
    → 100 < get_or bs i 0 → (n : ℕ) → Ends bs n → ⊥
no_end bs i pairs_before over n e = elim (cases_order n i) [
  | inl same ↦ omega (arith, over, e.at_end, ap (λ k. get_or bs k 0) same)
  | inr other ↦ elim other [
    | inl before ↦ omega (arith, (pairs_before n before).0, e.at_end)
    | inr behind ↦ omega (arith, (e.pairs i behind).1, over)
  ]
]

-- one more pair is read
pub pairs_more : (bs : List ℕ) (i c p : ℕ) → i < length bs → p ≡ get_or bs i 0
    → c ≡ pairs_value_after 0 (take i bs) → c * 100 + (p - 1)
    ≡ pairs_value_after 0 (take (i + 1) bs)
pairs_more bs i c p h at value =
    let more : pairs_value_after 0 (take (i + 1) bs)
    ≡ pairs_value_after (pairs_value_after 0 (take i bs)) (get_or bs i 0 ∷ []) =
    ap (pairs_value_after 0) (take_more bs i 0 h)
    ∙ pairs_after-append 0 (take i bs) (get_or bs i 0 ∷ []) in
    ap (λ v. v * 100 + (p - 1)) value ∙ ap (λ q. pairs_value_after 0 (take i bs) * 100 + (q - 1)) at
    ∙ sym more

-- one pair more has two digits more
pub below_more_pairs : (i c p : ℕ) → c < 10 ^ (2 * i) → p ≤ 100 → 0 < p
    → c * 100 + (p - 1) < 10 ^ (2 * (i + 1))
below_more_pairs i c p h most some =
    let next : i + 1 ≡ suc i = omega arith in
    let e : 10 ^ (2 * (i + 1)) ≡ 10 ^ (2 * i) * 100 = ap (λ k. 10 ^ (2 * k)) next ∙ hundred i in
    omega (arith, e, h)

-- and there is room for it
pub room_more : (i c : ℕ) → c < 10 ^ (2 * i) → i < 19 → c < 10 ^ 36
room_more i c h few = omega (arith, h, ten_pow-le (2 * i) 36 (omega arith))
