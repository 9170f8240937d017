-- The elements that were read so far, and the tokens behind them.
use Rattle.std.proofs.Common.{length}
use Rattle.alt_codec.specs.Scalars.{binary_in}
use Rattle.alt_readahead.proofs.Loops.{ElementsSoFar}
use Rattle.alt_readahead.proofs.sets_ahead.binaries_ahead.Given as goal

abbrev pub invariant-binaries : goal.invariant-binaries
invariant-binaries l = ElementsSoFar binary_in l.depth l.initial.reader l.reader l.binaries.items

abbrev pub decreases-binaries : goal.decreases-binaries
decreases-binaries l = length l.reader
