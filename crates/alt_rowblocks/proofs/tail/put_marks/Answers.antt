-- One mark more.
use Rattle.std.proofs.Common.{arith}
use Rattle.alt_rowblocks.specs.Format.{mark_bytes}
use Rattle.alt_rowblocks.proofs.Loops.{spelled_more}
use Rattle.alt_rowblocks.proofs.tail.put_marks.Goals as goal

pub loop-mark-preserved : goal.loop-mark-preserved
loop-mark-preserved c =
    spelled_more mark_bytes c.args.marks.now c.loop-mark.mark-index c.mark-item.result
    c.loop-mark.out.items c.put_mark.new.out.items _ (omega (arith, c.loop-mark-test.true))
    c.mark-item.is c.in_ok-put_mark.ensures c.loop-mark.invariant
