-- The bytes so far, and those to come.
use Rattle.std.proofs.Common.{◌≡◌, ◌++◌, drop}
use Rattle.alt_writes.specs.Bytes.{columns_bytes, AreShortCells}
use Rattle.alt_writes.proofs.format.put_cells.Given as goal

-- what is out and the bytes of the cells from here on stay together, and if those from here on fit, all do
abbrev pub invariant-loop-cell : goal.invariant-loop-cell
invariant-loop-cell l = record {
  together : l.out.items ++ columns_bytes (drop l.cell-index l.cells)
      ≡ l.fn.out.items ++ columns_bytes l.cells;
  held : AreShortCells (drop l.cell-index l.cells) → AreShortCells l.cells;
}
