-- The elements that were read so far, and the tokens behind them.
use Rattle.std.proofs.Common.{length}
use Rattle.alt_codec.specs.Scalars.{number_in}
use Rattle.alt_readahead.proofs.Loops.{ElementsSoFar}
use Rattle.alt_readahead.proofs.sets_ahead.numbers_ahead.Given as goal

abbrev pub invariant-numbers : goal.invariant-numbers
invariant-numbers l = ElementsSoFar number_in l.depth l.initial.reader l.reader l.numbers.items

abbrev pub decreases-numbers : goal.decreases-numbers
decreases-numbers l = length l.reader
