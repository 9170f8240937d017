-- Those so far are gone, and no file of the store was touched.
use Rattle.std.proofs.Common.{◌≡◌, ℕ, take}
use Rattle.std.specs.Prelude.{IsTrue, None}
use Rattle.alt_disk.specs.Disk.{IsTrusted, Goes}
use Rattle.alt_disk.specs.Runs.{Spans}
use Rattle.alt_layout.specs.Files.{IsOf}
use Rattle.alt_flush.specs.Drafts.{IsLeftOver}
use Rattle.alt_flush.proofs.remove.remove_left_over.Given as goal

abbrev pub invariant-loop-file : goal.invariant-loop-file
invariant-loop-file g l = record {
  spans : IsTrusted (g.D.Disk.state l.fn.disk)
      → Spans (g.D.Disk.state l.fn.disk) (g.D.Disk.state l.disk) (IsLeftOver l.files l.version)
      (λ t image. Unit {0});
  gone : IsTrue (g.D.Disk.state l.fn.disk).tells → (f : ℕ)
      → IsLeftOver (take l.file-index l.files) l.version f → (g.D.Disk.state l.disk).file f ≡ None;
  kept : IsTrue (g.D.Disk.state l.fn.disk).tells → (f : ℕ) → IsOf l.version f
      → (g.D.Disk.state l.disk).file f ≡ (g.D.Disk.state l.fn.disk).file f;
  none : IsTrue (g.D.Disk.state l.fn.disk).tells → (f : ℕ)
      → (g.D.Disk.state l.fn.disk).file f ≡ None → (g.D.Disk.state l.disk).file f ≡ None;
  goes : Goes (g.D.Disk.state l.fn.disk) (g.D.Disk.state l.disk);
  well : (g.D.Disk.state l.disk).faults ≡ (g.D.Disk.state l.fn.disk).faults;
}
