use Rattle.std.proofs.Common.{◌≤◌, ◌^◌, arith}
use Rattle.std.proofs.Math.Nat.{pow-le-pow_right}
use Rattle.alt_decimal.proofs.digits.power.Goals as goal

pub pow-requires : goal.pow-requires
pow-requires c = let p : 10 ^ c.args.k ≤ 10 ^ 38 = pow-le-pow_right (omega arith) c.requires in
    omega (arith, p)
