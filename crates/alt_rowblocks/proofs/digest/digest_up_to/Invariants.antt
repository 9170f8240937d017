-- The bytes so far were read and hashed, and nothing changed.
use Rattle.std.proofs.Common.{◌≡◌, ◌≤◌, ◌-◌, IsTrue, take}
use Rattle.sha2.specs.Hashers.{Holds256}
use Rattle.alt_disk.specs.Disk.{Goes, contents}
use Rattle.alt_disk.specs.Runs.{Quiet}
use Rattle.alt_rowblocks.proofs.digest.digest_up_to.Given as goal

abbrev pub invariant-pieces : goal.invariant-pieces
invariant-pieces g l =
    let state = g.D.Disk.state in
    record {
      within : l.at ≤ l.end;
      well : (state l.disk).faults ≡ (state l.fn.disk).faults;
      goes : Goes (state l.fn.disk) (state l.disk);
      quiet : IsTrue (state l.fn.disk).tells → Quiet (state l.fn.disk) (state l.disk);
      holds : IsTrue (state l.fn.disk).tells
          → Holds256 l.hasher (take l.at (contents (state l.fn.disk) l.f));
    }

abbrev pub decreases-pieces : goal.decreases-pieces
decreases-pieces g l = l.end - l.at
