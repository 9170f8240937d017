-- The row has the columns that were met behind its own.
use Rattle.std.proofs.Common.{◌≡◌, ◌++◌, take}
use Rattle.std.specs.FinMap.{entries}
use Rattle.alt_tablerows.proofs.building.push_all.Given as goal

abbrev pub invariant-loop-column : goal.invariant-loop-column
invariant-loop-column l =
    entries l.row ≡ entries l.fn.row ++ take l.column-index l.columns
