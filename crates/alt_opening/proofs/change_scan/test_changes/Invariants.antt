-- The rows so far are those of changes that the table may keep, and the engine reads as it read.
use Rattle.std.proofs.Common.{IsTrue}
use Rattle.alt_engine.specs.InHand.{ReadsLayout}
use Rattle.alt_layout.specs.Layout.{Layout}
use Rattle.alt_opening.specs.Scans.{IsAhead, IsBelow, Walked}
use Rattle.alt_opening.specs.StreamScans.{ChangesWhere}
use Rattle.alt_opening.proofs.change_scan.test_changes.Given as goal

abbrev pub invariant-rows : goal.invariant-rows
invariant-rows g l = record {
  walked : Walked (g.D.Disk.state l.fn.disk) (g.D.Disk.state l.disk) l.fn.engine l.engine;
  changes : IsTrue (g.D.Disk.state l.fn.disk).tells → (layout : Layout)
      → ReadsLayout (g.D.Disk.state l.fn.disk) l.fn.engine layout
      → ChangesWhere (λ k. IsBelow k l.from) layout l.schema l.next l.trimmed l.family;
  ahead : IsTrue (g.D.Disk.state l.fn.disk).tells → (layout : Layout)
      → ReadsLayout (g.D.Disk.state l.fn.disk) l.fn.engine layout
      → IsAhead layout l.family l.from l.ahead.items;
}
