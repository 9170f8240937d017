-- The segments so far were replayed.
use Rattle.std.proofs.Common.{◌≡◌, IsTrue, take}
use Rattle.alt_disk.specs.Disk.{Goes}
use Rattle.alt_disk.specs.Runs.{Quiet}
use Rattle.alt_recovery.proofs.SegmentReplays.{SegmentsSoFar}
use Rattle.alt_recovery.proofs.replay.replay_firsts.Given as goal

abbrev pub invariant-loop-f : goal.invariant-loop-f
invariant-loop-f g l = let state = g.D.Disk.state in record {
  goes : Goes (state l.fn.disk) (state l.disk);
  well : (state l.disk).faults ≡ (state l.fn.disk).faults;
  quiet : IsTrue (state l.fn.disk).tells → Quiet (state l.fn.disk) (state l.disk);
  done : IsTrue (state l.fn.disk).tells → SegmentsSoFar (state l.fn.disk).file l.fn.replay l.replay
      (take l.f-index l.segments);
}
