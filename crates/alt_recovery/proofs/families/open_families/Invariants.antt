-- The last families so far were opened.
use Rattle.std.proofs.Common.{◌≡◌, ◌-◌, IsTrue, drop, length}
use Rattle.alt_disk.specs.Disk.{Goes}
use Rattle.alt_disk.specs.Runs.{Quiet}
use Rattle.alt_recovery.proofs.HeldLaws.{FamiliesSoFar}
use Rattle.alt_recovery.proofs.families.open_families.Given as goal

abbrev pub invariant-loop-i : goal.invariant-loop-i
invariant-loop-i g l = let state = g.D.Disk.state in record {
  goes : Goes (state l.fn.disk) (state l.disk);
  well : (state l.disk).faults ≡ (state l.fn.disk).faults;
  quiet : IsTrue (state l.fn.disk).tells → Quiet (state l.fn.disk) (state l.disk);
  done : IsTrue (state l.fn.disk).tells → FamiliesSoFar (state l.disk)
      (drop (length l.families - l.i) l.families) l.opened;
}
