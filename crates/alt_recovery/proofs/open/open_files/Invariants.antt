-- The files so far were opened.
use Rattle.std.proofs.Common.{◌≡◌, IsTrue, take}
use Rattle.alt_disk.specs.Disk.{Goes}
use Rattle.alt_disk.specs.Runs.{Quiet}
use Rattle.alt_recovery.proofs.OpenLaws.{OpenedSoFar}
use Rattle.alt_recovery.proofs.open.open_files.Given as goal

abbrev pub invariant-loop-f : goal.invariant-loop-f
invariant-loop-f g l = let state = g.D.Disk.state in record {
  goes : Goes (state l.fn.disk) (state l.disk);
  well : (state l.disk).faults ≡ (state l.fn.disk).faults;
  quiet : IsTrue (state l.fn.disk).tells → Quiet (state l.fn.disk) (state l.disk);
  done : IsTrue (state l.fn.disk).tells
      → OpenedSoFar (state l.disk) l.flushed (take l.f-index l.files) l.opened.items;
}
