-- The columns so far stand behind what was there.
use Rattle.std.proofs.Common.{◌≡◌, ◌++◌, map, take}
use Rattle.alt_cells.specs.Changes.{with_value}
use Rattle.alt_cells.proofs.change.give_all.Given as goal

abbrev pub invariant-loop-name : goal.invariant-loop-name
invariant-loop-name l = l.cells ≡ l.fn.cells ++ map with_value (take l.name-index l.name-items)
