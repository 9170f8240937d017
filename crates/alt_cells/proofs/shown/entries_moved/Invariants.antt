-- The columns shown so far, and those to come.
use Rattle.std.proofs.Common.{◌≡◌, ◌++◌}
use Rattle.std.specs.Vec.Iter.{into_iter_items}
use Rattle.alt_cells.specs.Shown.{entries_shown}
use Rattle.alt_cells.proofs.shown.entries_moved.Given as goal

-- what is out and what the cells that are left show stay together
abbrev pub invariant-loop-name : goal.invariant-loop-name
invariant-loop-name l =
    l.out.items ++ entries_shown l.gone (into_iter_items l.name-iterator)
    ≡ entries_shown l.gone l.fn.cells.items
