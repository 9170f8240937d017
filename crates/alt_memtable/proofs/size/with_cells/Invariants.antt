-- The bytes of the cells so far are counted.
use Rattle.std.proofs.Common.{◌≡◌, ◌≤◌, length, take}
use Rattle.std.specs.List.{flat_map}
use Rattle.alt_cells.specs.Format.{cell_bytes}
use Rattle.alt_memtable.specs.Rows.{most_bytes, more_bytes}
use Rattle.alt_memtable.proofs.size.with_cells.Given as goal

abbrev pub invariant-loop-entry : goal.invariant-loop-entry
invariant-loop-entry l = record {
  within : l.count ≤ most_bytes;
  counted : l.count ≡ more_bytes l.fn.count (length
      (flat_map cell_bytes (take l.entry-index l.cells)));
}
