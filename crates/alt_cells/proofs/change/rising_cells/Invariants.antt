-- The cells of the names so far.
use Rattle.std.proofs.Common.{◌≡◌, map, take}
use Rattle.alt_cells.proofs.OfChange.{entry_given}
use Rattle.alt_cells.proofs.change.rising_cells.Given as goal

abbrev pub invariant-loop-name : goal.invariant-loop-name
invariant-loop-name l = l.cells.items ≡ map (entry_given l.number) (take l.name-index l.given)
