-- The rows so far, and what is left.
use Rattle.std.proofs.Common.{length}
use Rattle.alt_rowblocks.proofs.DecodeLaws.{RowsSoFar}
use Rattle.alt_rowblocks.proofs.decode.decode.Given as goal

abbrev pub invariant-rows : goal.invariant-rows
invariant-rows l = RowsSoFar l.bytes l.rest l.before l.rows.items

abbrev pub decreases-rows : goal.decreases-rows
decreases-rows l = length l.rest
