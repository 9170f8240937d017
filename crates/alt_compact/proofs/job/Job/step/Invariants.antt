use Rattle.std.proofs.Common.{◌≡◌, ◌++◌, take, drop}
use Rattle.alt_disk.specs.Disk.{IsTrusted}
use Rattle.alt_cells.specs.Walks.{RowList}
use Rattle.alt_compact.specs.Jobs.{IsUnderWay, TakesRows, MovesOnlyTouched}
use Rattle.alt_compact.proofs.job.Job.step.Given as goal

abbrev pub invariant-loop-i : goal.invariant-loop-i
invariant-loop-i g l =
    let state = g.D.Disk.state in
    let s = g.S.RowSource in
    let w = g.W.RowWriter in
    record {
      moves : MovesOnlyTouched (w.writes l.fn.into) (state l.fn.disk) (state l.disk);
      reads : s.reads l.source ≡ s.reads l.fn.source;
      files : w.writes l.into ≡ w.writes l.fn.into;
      purge : l.self.purge ≡ l.fn.self.purge;
      well : (state l.disk).faults ≡ (state l.fn.disk).faults;
      so_far : IsTrusted (state l.fn.disk) → (taken left : RowList)
          → IsUnderWay s.holds s.reads w.written w.writes (state l.fn.disk) l.fn.self l.fn.source
          l.fn.into taken left
          → TakesRows s.holds s.reads s.left w.written w.writes (state l.disk) l.self l.source
          l.into (taken ++ take l.i left) (drop l.i left);
    }
