-- The writes that were read so far, and the tokens behind them.
use Rattle.std.proofs.Common.{length}
use Rattle.alt_readahead.proofs.Batches.{WritesSoFar}
use Rattle.alt_readahead.proofs.batch.writes_ahead.Given as goal

abbrev pub invariant-writes : goal.invariant-writes
invariant-writes l = WritesSoFar l.depth l.initial.reader l.reader l.writes.items

abbrev pub decreases-writes : goal.decreases-writes
decreases-writes l = length l.reader
