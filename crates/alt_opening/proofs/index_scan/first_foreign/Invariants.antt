-- The rows so far are those of items, and the engine reads as it read.
use Rattle.std.proofs.Common.{◌≡◌, IsTrue, Some}
use Rattle.alt_engine.specs.InHand.{ReadsLayout}
use Rattle.alt_layout.specs.Layout.{Layout}
use Rattle.alt_machine.specs.Sources.{index_at}
use Rattle.alt_machine.specs.Valid.{IsMade}
use Rattle.alt_schema.specs.declared.schema.IndexSchema.{IndexSchema}
use Rattle.alt_opening.specs.private.IndexScans.{AreOwn}
use Rattle.alt_opening.specs.Scans.{IsAhead, IsBelow, ItemsRead, Walked}
use Rattle.alt_opening.proofs.index_scan.first_foreign.Given as goal

abbrev pub invariant-rows : goal.invariant-rows
invariant-rows g l = record {
  walked : Walked (g.D.Disk.state l.fn.disk) (g.D.Disk.state l.disk) l.fn.engine l.engine;
  own : IsTrue (g.D.Disk.state l.fn.disk).tells → (layout : Layout) (i : IndexSchema)
      → ReadsLayout (g.D.Disk.state l.fn.disk) l.fn.engine layout
      → index_at l.schema (Some l.number) ≡ Some i → IsMade l.schema → ItemsRead layout l.schema
      → AreOwn (λ key. IsBelow key l.from) layout l.schema i;
  ahead : IsTrue (g.D.Disk.state l.fn.disk).tells → (layout : Layout)
      → ReadsLayout (g.D.Disk.state l.fn.disk) l.fn.engine layout
      → IsAhead layout l.family l.from l.ahead.items;
}
