-- A coefficient and its halves of 19 digits.
use Rattle.std.proofs.Common.{◌≡◌, ℕ, ◌+◌, ◌-◌, ◌*◌, ◌%◌, ◌^◌, ◌<◌, sym, ap, ◌∙◌, arith}
use Rattle.std.proofs.lemmas.Nat.{pow-add}
use Rattle.std.proofs.Math.Nat.{mul_assoc}

-- the zeros behind the high half, where the low half is 0
pub strip_low : (high c z : ℕ) → high ≡ c * 10 ^ z → high * 10 ^ 19 ≡ c * 10 ^ (z + 19)
strip_low high c z e = rw (e, pow-add 10 z 19) (mul_assoc c (10 ^ z) (10 ^ 19))

-- the zeros behind the low half
pub strip_high : (high low c z : ℕ) → low ≡ c * 10 ^ z → z < 19
    → high * 10 ^ 19 + low ≡ (high * 10 ^ (19 - z) + c) * 10 ^ z
strip_high high low c z e h =
    let all : 19 - z + z ≡ 19 = omega arith in
    let p : 10 ^ 19 ≡ 10 ^ (19 - z) * 10 ^ z = ap (λ k. 10 ^ k) (sym all) ∙ pow-add 10 (19 - z) z in
    let q : high * 10 ^ 19 ≡ high * (10 ^ (19 - z) * 10 ^ z) = ap (λ k. high * k) p in
    omega (arith, q, e)

-- and its last digit
pub last_high : (high c z : ℕ) → 0 < c % 10 → z < 19 → 0 < (high * 10 ^ (19 - z) + c) % 10
last_high high c z last h =
    let more : 19 - z ≡ 18 - z + 1 = omega arith in
    let p : 10 ^ (19 - z) ≡ 10 ^ (18 - z) * 10 = ap (λ k. 10 ^ k) more ∙ pow-add 10 (18 - z) 1 in
    let q : high * 10 ^ (19 - z) ≡ high * 10 ^ (18 - z) * 10 =
    ap (λ k. high * k) p ∙ sym (mul_assoc high (10 ^ (18 - z)) 10) in
    omega (arith, q)
