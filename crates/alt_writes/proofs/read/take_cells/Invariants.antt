-- The columns so far, and the bytes behind them.
use Rattle.std.proofs.Common.{◌≡◌, ◌++◌, length}
use Rattle.alt_writes.specs.Bytes.{columns_bytes, AreShortCells}
use Rattle.alt_writes.proofs.read.take_cells.Given as goal

abbrev pub invariant-loop-done : goal.invariant-loop-done
invariant-loop-done l = record {
  count : length l.cells ≡ l._done;
  short : AreShortCells l.cells;
  bytes : l.bytes ≡ columns_bytes l.cells ++ l.rest;
}
