-- The tables of the rows so far are known, and the engine reads as it read.
use Rattle.std.proofs.Common.{IsTrue}
use Rattle.alt_engine.specs.InHand.{ReadsLayout}
use Rattle.alt_layout.specs.Layout.{Layout}
use Rattle.alt_opening.specs.private.Opening.{IsReadUpTo}
use Rattle.alt_opening.specs.Scans.{IsAhead, Walked}
use Rattle.alt_opening.specs.StateRows.{catalog_family}
use Rattle.alt_opening.proofs.opened.read_catalog.Given as goal

abbrev pub invariant-rows : goal.invariant-rows
invariant-rows g l = record {
  walked : Walked (g.D.Disk.state l.fn.disk) (g.D.Disk.state l.disk) l.fn.engine l.engine;
  known : IsTrue (g.D.Disk.state l.fn.disk).tells → (layout : Layout)
      → ReadsLayout (g.D.Disk.state l.fn.disk) l.fn.engine layout
      → IsReadUpTo layout l.family l.from l.catalog;
  ahead : IsTrue (g.D.Disk.state l.fn.disk).tells → (layout : Layout)
      → ReadsLayout (g.D.Disk.state l.fn.disk) l.fn.engine layout
      → IsAhead layout catalog_family l.from l.ahead.items;
}
