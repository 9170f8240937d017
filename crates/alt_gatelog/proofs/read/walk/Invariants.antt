use Rattle.std.proofs.Common.{◌≡◌, ◌≤◌, ◌<◌, ◌^◌, ◌-◌, IsTrue}
use Rattle.std.specs.List.{All}
use Rattle.alt_disk.specs.Disk.{Goes, contents}
use Rattle.alt_disk.specs.Runs.{Quiet}
use Rattle.alt_gatelog.proofs.Entries.{ReadSoFar}
use Rattle.alt_gatelog.proofs.read.walk.Given as goal

-- the entries so far were read, and nothing changed
abbrev pub invariant-gates : goal.invariant-gates
invariant-gates g l =
    let state = g.D.Disk.state in
    record {
      within : l.at ≤ l.size;
      small : All (λ at. at < 2 ^ 62) l.places.items;
      well : (state l.disk).faults ≡ (state l.fn.disk).faults;
      goes : Goes (state l.fn.disk) (state l.disk);
      quiet : IsTrue (state l.fn.disk).tells → Quiet (state l.fn.disk) (state l.disk);
      read : IsTrue (state l.fn.disk).tells → ReadSoFar l.fn.form
          (contents (state l.fn.disk) l.f) l.at l.places.items;
    }

-- the bytes that are left
abbrev pub decreases-gates : goal.decreases-gates
decreases-gates g l = l.size - l.at
