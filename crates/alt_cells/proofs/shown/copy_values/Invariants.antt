-- The copies so far.
use Rattle.std.proofs.Common.{◌≡◌, take}
use Rattle.alt_cells.proofs.shown.copy_values.Given as goal

-- so far the entries are copied
abbrev pub invariant-loop-name : goal.invariant-loop-name
invariant-loop-name l = l.out.items ≡ take l.name-index l.entries
