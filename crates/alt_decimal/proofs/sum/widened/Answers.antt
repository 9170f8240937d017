use Rattle.std.proofs.Common.{◌≤◌, ◌*◌, ◌^◌, arith}
use Rattle.std.proofs.Math.Nat.{mul-le-mul_right}
use Rattle.alt_decimal.proofs.Widths.{ten_pow-le}
use Rattle.alt_decimal.proofs.sum.widened.Goals as goal

pub returns-else-zeros-le38 : goal.returns-else-zeros-le38
returns-else-zeros-le38 c =
    let p : 10 ^ 39 ≤ 10 ^ c.args.zeros = ten_pow-le 39 c.args.zeros (omega arith) in
    let q : 1 * 10 ^ c.args.zeros ≤ c.args.a * 10 ^ c.args.zeros =
    mul-le-mul_right (10 ^ c.args.zeros) c.requires in
    omega (arith, p, q)
