-- The changed columns so far stand behind what was there.
use Rattle.std.proofs.Common.{◌≡◌, ◌++◌, map, take}
use Rattle.std.specs.FinMap.Entries.{where_key}
use Rattle.alt_cells.specs.Keys.{key_cmp}
use Rattle.alt_cells.specs.Changes.{with_value, is_changed}
use Rattle.alt_cells.proofs.change.give_changed.Given as goal

abbrev pub invariant-loop-name : goal.invariant-loop-name
invariant-loop-name l = l.cells
    ≡ l.fn.cells ++ map with_value
    (where_key key_cmp (is_changed l.old l.new) (take l.name-index l.name-items))
