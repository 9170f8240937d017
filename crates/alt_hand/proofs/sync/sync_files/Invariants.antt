-- The files so far were synced.
use Rattle.std.proofs.Common.{◌≡◌, ℕ, IsTrue, take}
use Rattle.alt_disk.specs.Disk.{IsTrusted, Goes}
use Rattle.alt_hand.specs.Syncing.{Narrows, AreSynced}
use Rattle.alt_hand.proofs.sync.sync_files.Given as goal

abbrev pub invariant-loop-f : goal.invariant-loop-f
invariant-loop-f g l =
    let state = g.D.Disk.state in
    record {
      goes : Goes (state l.fn.disk) (state l.disk);
      well : (state l.disk).faults ≡ (state l.fn.disk).faults;
      files : IsTrue (state l.fn.disk).tells → (f : ℕ)
          → (state l.disk).file f ≡ (state l.fn.disk).file f;
      narrows : IsTrusted (state l.fn.disk) → Narrows (state l.fn.disk) (state l.disk);
      done : IsTrusted (state l.fn.disk) → AreSynced (state l.disk) (take l.f-index l.list);
    }
