-- The cells of the columns so far.
use Rattle.std.proofs.Common.{◌≡◌, map, take}
use Rattle.alt_cells.specs.Changes.{with_value}
use Rattle.alt_cells.proofs.OfChange.{entry_given}
use Rattle.alt_cells.proofs.change.column_cells.Given as goal

abbrev pub invariant-loop-name : goal.invariant-loop-name
invariant-loop-name l =
    l.cells.items ≡ map (entry_given 0) (map with_value (take l.name-index l.columns))
