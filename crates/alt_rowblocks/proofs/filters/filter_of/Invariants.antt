-- The keys so far.
use Rattle.std.proofs.Common.{take}
use Rattle.alt_rowblocks.specs.Filtering.{FilterHoldsRows}
use Rattle.alt_rowblocks.proofs.filters.filter_of.Given as goal

abbrev pub invariant-loop-entry : goal.invariant-loop-entry
invariant-loop-entry l = FilterHoldsRows l.filter (take l.entry-index l.rows)
