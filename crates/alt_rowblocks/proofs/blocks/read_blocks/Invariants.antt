-- The blocks so far, and what is left.
use Rattle.std.proofs.Common.{◌≡◌, ◌≤◌, ◌-◌, IsTrue, take, drop, length}
use Rattle.alt_disk.specs.Disk.{Goes, contents}
use Rattle.alt_disk.specs.Runs.{Quiet}
use Rattle.alt_rowblocks.proofs.BlockRuns.{BlocksSoFar}
use Rattle.alt_rowblocks.proofs.blocks.read_blocks.Given as goal

abbrev pub invariant-each : goal.invariant-each
invariant-each g l =
    let state = g.D.Disk.state in
    record {
      within : l.at ≤ l.end;
      few : l.rows ≤ l.at;
      well : (state l.disk).faults ≡ (state l.fn.disk).faults;
      goes : Goes (state l.fn.disk) (state l.disk);
      quiet : IsTrue (state l.fn.disk).tells → Quiet (state l.fn.disk) (state l.disk);
      read : IsTrue (state l.fn.disk).tells → l.end ≤ length (contents (state l.fn.disk) l.f)
          → BlocksSoFar (drop 8 (take l.end (contents (state l.fn.disk) l.f)))
          (drop l.at (take l.end (contents (state l.fn.disk) l.f)))
          l.at l.after l.marks.items l.rows l.summary l.filters.items;
    }

abbrev pub decreases-each : goal.decreases-each
decreases-each g l = l.end - l.at
