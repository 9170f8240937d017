-- The rows so far are hidden.
use Rattle.std.proofs.Common.{◌≡◌, ◌++◌, map, take}
use Rattle.alt_changes.specs.TrimRows.{hidden}
use Rattle.alt_changes.proofs.trimming.hide_rows.Given as goal

abbrev pub invariant-loop-number : goal.invariant-loop-number
invariant-loop-number l =
    l.batch ≡ l.fn.batch ++ map (hidden l.family) (take l.number-index l.numbers)
