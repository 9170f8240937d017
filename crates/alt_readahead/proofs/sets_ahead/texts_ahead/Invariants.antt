-- The elements that were read so far, and the tokens behind them.
use Rattle.std.proofs.Common.{length}
use Rattle.alt_codec.specs.Scalars.{text_in}
use Rattle.alt_readahead.proofs.Loops.{ElementsSoFar}
use Rattle.alt_readahead.proofs.sets_ahead.texts_ahead.Given as goal

abbrev pub invariant-texts : goal.invariant-texts
invariant-texts l = ElementsSoFar text_in l.depth l.initial.reader l.reader l.texts.items

abbrev pub decreases-texts : goal.decreases-texts
decreases-texts l = length l.reader
