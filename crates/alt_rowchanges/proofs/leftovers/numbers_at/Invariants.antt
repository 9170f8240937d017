-- The numbers of the rows so far are read.
use Rattle.alt_rowchanges.specs.Trims.{AreNumbersOf}
use Rattle.alt_rowchanges.proofs.leftovers.numbers_at.Given as goal

abbrev pub invariant-loop-row : goal.invariant-loop-row
invariant-loop-row l = AreNumbersOf l.yielded l.numbers.items
