-- The entries so far were replayed.
use Rattle.std.proofs.Common.{◌≡◌, ℕ, List, IsTrue, take}
use Rattle.alt_disk.specs.Disk.{Goes}
use Rattle.alt_disk.specs.Runs.{Quiet}
use Rattle.alt_gatelog.specs.InHand.{form_of, ReadsEntries}
use Rattle.alt_recovery.proofs.ReplayLaws.{ReplayedSoFar}
use Rattle.alt_recovery.proofs.replay.replay_log.Given as goal

abbrev pub invariant-loop-i : goal.invariant-loop-i
invariant-loop-i g l = let state = g.D.Disk.state in record {
  log : l.log ≡ l.fn.log;
  goes : Goes (state l.fn.disk) (state l.disk);
  well : (state l.disk).faults ≡ (state l.fn.disk).faults;
  quiet : IsTrue (state l.fn.disk).tells → Quiet (state l.fn.disk) (state l.disk);
  done : IsTrue (state l.fn.disk).tells → (entries : List (List ℕ))
      → ReadsEntries (state l.fn.disk) l.fn.log entries
      → ReplayedSoFar (form_of l.fn.log) l.fn.replay l.replay (take l.i entries);
}
