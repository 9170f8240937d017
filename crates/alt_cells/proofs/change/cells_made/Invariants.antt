-- The columns so far are given their values.
use Rattle.std.proofs.Common.{◌≡◌, map}
use Rattle.alt_cells.specs.Changes.{with_value}
use Rattle.alt_cells.proofs.change.cells_made.Given as goal

abbrev pub invariant-loop-name : goal.invariant-loop-name
invariant-loop-name l = l.cells ≡ map with_value l.yielded
