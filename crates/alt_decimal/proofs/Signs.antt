-- Sums of magnitudes with their signs.
use Rattle.std.proofs.Common.{◌≡◌, ◌≢◌, ℕ, ◌+◌, ◌-◌, ◌*◌, ◌≤◌, Bool, true, false, refl, ap, ◌∙◌, arith}
use Rattle.std.specs.Prelude.{ℤ, pos, ◌+ℤ◌}
use Rattle.std.proofs.lemmas.Int.{ints}
use Rattle.std.proofs.Math.Nat.{mul-le-mul_right}
use Rattle.std.proofs.Math.Bool.{beq}
use Rattle.alt_decimal.specs.Number.{with_sign}

-- zero and a number
pub zero_plus : (z : ℤ) → pos 0 +ℤ z ≡ z
zero_plus z = omega (arith, ints)

-- a number and zero
pub plus_zero : (z : ℤ) → z +ℤ pos 0 ≡ z
plus_zero z = omega (arith, ints)

-- of one sign
pub sum-same : (negative : Bool) (x y : ℕ) → with_sign negative x +ℤ with_sign negative y
    ≡ with_sign negative (x + y)
sum-same false x y = refl
sum-same true x y = omega (arith, ints)

-- of two signs, the greater first
pub sum-unlike : (a b : Bool) (x y : ℕ) → a ≢ b → y ≤ x
    → with_sign a x +ℤ with_sign b y ≡ with_sign a (x - y)
sum-unlike false false x y h le = absurd (h refl)
sum-unlike true true x y h le = absurd (h refl)
sum-unlike false true x y h le = omega (arith, ints)
sum-unlike true false x y h le = omega (arith, ints)

-- and last
pub sum-unlike_second : (a b : Bool) (x y : ℕ) → a ≢ b → x ≤ y
    → with_sign a x +ℤ with_sign b y ≡ with_sign b (y - x)
sum-unlike_second false false x y h le = absurd (h refl)
sum-unlike_second true true x y h le = absurd (h refl)
sum-unlike_second false true x y h le = omega (arith, ints)
sum-unlike_second true false x y h le = omega (arith, ints)

-- the same at every scale, by what the code tests
pub scaled_same : (a b : Bool) (x y s p : ℕ) → beq a b ≡ true → s ≡ x + y
    → with_sign a (x * p) +ℤ with_sign b (y * p) ≡ with_sign a (s * p)
scaled_same false false x y s p h e = rw e (omega (arith, ints))
scaled_same true true x y s p h e = rw e (omega (arith, ints))
scaled_same false true x y s p h e = cc
scaled_same true false x y s p h e = cc

-- signs that are told to differ do
beq-unlike : (a b : Bool) → beq a b ≡ false → a ≢ b
beq-unlike false false h e = cc
beq-unlike true true h e = cc
beq-unlike false true h e = cc
beq-unlike true false h e = cc

sub-mul : (x y p : ℕ) → y ≤ x → x * p - y * p ≡ (x - y) * p
sub-mul x y p le =
    let d : x ≡ y + (x - y) = omega arith in
    let e : x * p ≡ (y + (x - y)) * p = ap (λ k. k * p) d in
    omega (arith, e)

-- numbers of unlike signs, at one place
pub scaled_unlike : (a b : Bool) (x y p : ℕ) → beq a b ≡ false → y ≤ x
    → with_sign a (x * p) +ℤ with_sign b (y * p) ≡ with_sign a ((x - y) * p)
scaled_unlike a b x y p h le =
    let e : x * p - y * p ≡ (x - y) * p = sub-mul x y p le in
    sum-unlike a b (x * p) (y * p) (beq-unlike a b h) (mul-le-mul_right p le) ∙ ap (with_sign a) e

-- the second of which is the greater
pub scaled_unlike_second : (a b : Bool) (x y p : ℕ) → beq a b ≡ false → x ≤ y
    → with_sign a (x * p) +ℤ with_sign b (y * p) ≡ with_sign b ((y - x) * p)
scaled_unlike_second a b x y p h le =
    let e : y * p - x * p ≡ (y - x) * p = sub-mul y x p le in
    sum-unlike_second a b (x * p) (y * p) (beq-unlike a b h) (mul-le-mul_right p le)
    ∙ ap (with_sign b) e
