-- The families so far show no row.
use Rattle.std.proofs.Common.{◌≡◌, ◌≤◌, ℕ, List}
use Rattle.std.specs.Prelude.{IsTrue}
use Rattle.std.specs.BTreeMap.{get as tree_get}
use Rattle.std.specs.Ordering.{nat_cmp}
use Rattle.alt_disk.specs.Disk.{Goes}
use Rattle.alt_disk.specs.Runs.{Quiet}
use Rattle.alt_layout.specs.Layout.{RowMap}
use Rattle.alt_families.specs.Opened.{FamilyReads}
use Rattle.alt_families.proofs.FirstLaws.{AreFrom, shown_among, shown_at}
use Rattle.alt_families.proofs.first.first_shown.Given as goal

abbrev pub invariant-loop-number : goal.invariant-loop-number
invariant-loop-number g l = record {
  rest : IsTrue (g.D.Disk.state l.fn.disk).tells → (rows : ℕ → RowMap)
      → ((f : ℕ) → FamilyReads (g.D.Disk.state l.fn.disk) (tree_get nat_cmp l.families f) (rows f))
      → (f : ℕ) (k : List ℕ) → l.family ≤ f
      → shown_at (rows f) k ≡ shown_among (λ h. shown_at (rows h)) l.ahead f k;
  from : AreFrom l.family l.ahead;
  quiet : IsTrue (g.D.Disk.state l.fn.disk).tells
      → Quiet (g.D.Disk.state l.fn.disk) (g.D.Disk.state l.disk);
  goes : Goes (g.D.Disk.state l.fn.disk) (g.D.Disk.state l.disk);
  well : (g.D.Disk.state l.disk).faults ≡ (g.D.Disk.state l.fn.disk).faults;
}
