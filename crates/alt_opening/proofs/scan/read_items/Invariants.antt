-- The items of the rows so far are read, none has more bytes than the largest, and the engine reads as it read.
use Rattle.std.proofs.Common.{IsTrue}
use Rattle.alt_engine.specs.InHand.{ReadsLayout}
use Rattle.alt_layout.specs.Layout.{Layout}
use Rattle.alt_opening.specs.Scans.{IsAhead, IsBelow, ItemsWhere, RowsWhere, Walked}
use Rattle.alt_tablerows.specs.ItemTests.{IsWithin}
use Rattle.alt_opening.proofs.scan.read_items.Given as goal

abbrev pub invariant-rows : goal.invariant-rows
invariant-rows g l = record {
  walked : Walked (g.D.Disk.state l.fn.disk) (g.D.Disk.state l.disk) l.fn.engine l.engine;
  items : IsTrue (g.D.Disk.state l.fn.disk).tells → (layout : Layout)
      → ReadsLayout (g.D.Disk.state l.fn.disk) l.fn.engine layout
      → ItemsWhere (λ k. IsBelow k l.from) layout l.schema;
  sized : IsTrue (g.D.Disk.state l.fn.disk).tells → (layout : Layout)
      → ReadsLayout (g.D.Disk.state l.fn.disk) l.fn.engine layout
      → RowsWhere (λ k. IsBelow k l.from) layout l.schema.family (IsWithin l.largest);
  ahead : IsTrue (g.D.Disk.state l.fn.disk).tells → (layout : Layout)
      → ReadsLayout (g.D.Disk.state l.fn.disk) l.fn.engine layout
      → IsAhead layout l.schema.family l.from l.ahead.items;
}
