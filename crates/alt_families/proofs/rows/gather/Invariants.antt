-- What was given, and what is still to be given of the rows ahead.
use Rattle.std.proofs.Common.{◌≡◌, ◌<◌, ℕ, Bool, List}
use Rattle.std.specs.Prelude.{IsTrue}
use Rattle.alt_base.specs.Prefix.{IsPrefix}
use Rattle.alt_cells.specs.Changes.{Columns}
use Rattle.alt_cells.specs.Walks.{RowMap}
use Rattle.alt_disk.specs.Disk.{Goes}
use Rattle.alt_disk.specs.Runs.{Quiet}
use Rattle.alt_merge.specs.Whole.{merge_holds}
use Rattle.alt_families.specs.Paying.{IsPaid}
use Rattle.alt_families.specs.Ranges.{Ahead}
use Rattle.alt_families.specs.Reads.{is_passed}
use Rattle.alt_families.specs.Sources.{source_holds}
use Rattle.alt_families.proofs.GatherLaws.{StillToGive}
use Rattle.alt_families.proofs.rows.gather.Given as goal

abbrev pub invariant-rows : goal.invariant-rows
invariant-rows g l = record {
  rows : IsTrue (g.D.Disk.state l.fn.disk).tells → (p : List ℕ → Bool) (bound : ℕ)
      → (shows : List (List ℕ × Columns)) → (0 < l.fn.most → (key : List ℕ)
      → is_passed l.forward l.range.from l.range.to l.fn.most shows key ≡ p key)
      → Ahead (IsPaid p bound (g.D.Disk.state l.fn.disk) l.fn.walk l.forward) l.forward
      l.range.from l.range.to shows
      → StillToGive (λ left more. Ahead (IsPaid p bound (g.D.Disk.state l.disk) l.walk l.forward)
      l.forward l.range.from l.range.to more × (0 < left → (key : List ℕ)
      → is_passed l.forward l.range.from l.range.to left more key ≡ p key))
      l.fn.out.items l.fn.most shows l.out.items l.left;
  begun : IsPrefix l.fn.out.items l.out.items;
  holds : IsTrue (g.D.Disk.state l.fn.disk).tells → (rows : RowMap)
      → merge_holds source_holds (g.D.Disk.state l.fn.disk) l.fn.walk rows
      → merge_holds source_holds (g.D.Disk.state l.disk) l.walk rows;
  quiet : IsTrue (g.D.Disk.state l.fn.disk).tells
      → Quiet (g.D.Disk.state l.fn.disk) (g.D.Disk.state l.disk);
  goes : Goes (g.D.Disk.state l.fn.disk) (g.D.Disk.state l.disk);
  well : (g.D.Disk.state l.disk).faults ≡ (g.D.Disk.state l.fn.disk).faults;
}
