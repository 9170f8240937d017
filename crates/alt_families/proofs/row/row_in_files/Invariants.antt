-- What is still to be asked, joined to what was found, is what is looked for.
use Rattle.std.proofs.Common.{◌≡◌, ◌≤◌, ◌+◌, List, drop}
use Rattle.std.specs.Prelude.{IsTrue}
use Rattle.alt_disk.specs.Disk.{Goes}
use Rattle.alt_disk.specs.Runs.{Quiet}
use Rattle.alt_layout.specs.Layout.{RowMap}
use Rattle.alt_merge.specs.Merges.{Each2, all_rows}
use Rattle.alt_families.specs.Opened.{IsOpen}
use Rattle.alt_families.proofs.OpenLaws.{RowLeft}
use Rattle.alt_families.proofs.row.row_in_files.Given as goal

abbrev pub invariant-loop-file : goal.invariant-loop-file
invariant-loop-file g l = record {
  left : IsTrue (g.D.Disk.state l.fn.disk).tells → (maps : List RowMap)
      → Each2 (IsOpen (g.D.Disk.state l.fn.disk)) l.family.files.items maps
      → RowLeft (g.D.Disk.state l.fn.disk) (drop l.file-index l.family.files.items) l.key l.row
      (all_rows maps);
  quiet : IsTrue (g.D.Disk.state l.fn.disk).tells
      → Quiet (g.D.Disk.state l.fn.disk) (g.D.Disk.state l.disk);
  goes : Goes (g.D.Disk.state l.fn.disk) (g.D.Disk.state l.disk);
  reads : (g.D.Disk.state l.disk).reads ≤ (g.D.Disk.state l.fn.disk).reads + l.file-index;
  well : (g.D.Disk.state l.disk).faults ≡ (g.D.Disk.state l.fn.disk).faults;
}
