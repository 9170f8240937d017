use Rattle.std.proofs.Common.{arith}
use Rattle.alt_decimal.proofs.Pairs.{flip_next}
use Rattle.alt_decimal.proofs.spell.flip.Goals as goal

pub loop-byte-preserved : goal.loop-byte-preserved
loop-byte-preserved c = flip_next c.args.bytes.now c.loop-byte.bytes c.loop-byte.byte-index
    (omega arith) c.loop-byte.invariant
