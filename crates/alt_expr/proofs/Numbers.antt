-- Nine digits fit into 32 bits.
use Rattle.std.proofs.Common.{ℕ, ◌+◌, ◌*◌, ◌^◌, ◌<◌, ◌≤◌, arith}
use Rattle.std.proofs.Math.Nat.{pow-le-pow_right}
use Rattle.std.proofs.lemmas.Grind.{pow_more}

-- one digit more
pub one_digit : (value digit i : ℕ) → value + 1 ≤ 10 ^ i → digit ≤ 9
    → value * 10 + digit + 1 ≤ 10 ^ (i + 1)
one_digit value digit i bound small = omega (arith, pow_more 10 i)

-- before the ninth digit
pub eight_digits : (value i : ℕ) → value + 1 ≤ 10 ^ i → i < 9 → value < 100000000
eight_digits value i bound few =
    let p : 10 ^ i ≤ 10 ^ 8 =
    pow-le-pow_right {n = 10} (omega arith) {i = i} {j = 8} (omega (arith, few)) in
    omega (arith, p)
