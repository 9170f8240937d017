use Rattle.std.proofs.Common.{◌<◌, ◌*◌, ◌^◌, arith}
use Rattle.alt_decimal.proofs.Widths.{mul-lt}
use Rattle.alt_decimal.proofs.digits.filled.Goals as goal

pub overflow_mul-result : goal.overflow_mul-result
overflow_mul-result c =
    let below : c.args.n * 10 ^ c.args.zeros < 10 ^ 38 =
    mul-lt c.args.n c.args.zeros 38 c.requires in
    rw c.power.ensures (omega (arith, below))
