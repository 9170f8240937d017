-- The block is between the two.
use Rattle.std.proofs.Common.{◌-◌}
use Rattle.alt_rowblocks.proofs.SearchLaws.{Halves}
use Rattle.alt_rowblocks.proofs.search.blocks_up_to.Given as goal

abbrev pub invariant-halves : goal.invariant-halves
invariant-halves l = Halves l.marks l.key l.low l.high

abbrev pub decreases-halves : goal.decreases-halves
decreases-halves l = l.high - l.low
