-- The least missing key of the items so far, and the engine reads as it read.
use Rattle.std.proofs.Common.{◌≡◌, IsTrue, Some}
use Rattle.alt_engine.specs.InHand.{ReadsLayout}
use Rattle.alt_layout.specs.Layout.{Layout}
use Rattle.alt_machine.specs.Sources.{index_at}
use Rattle.alt_schema.specs.declared.schema.IndexSchema.{IndexSchema}
use Rattle.alt_opening.specs.private.IndexScans.{IsLeastMissing}
use Rattle.alt_opening.specs.Scans.{IsAhead, IsBelow, ItemsRead, Walked}
use Rattle.alt_opening.proofs.index_scan.least_missing.Given as goal

abbrev pub invariant-rows : goal.invariant-rows
invariant-rows g l = record {
  walked : Walked (g.D.Disk.state l.fn.disk) (g.D.Disk.state l.disk) l.fn.engine l.engine;
  least : IsTrue (g.D.Disk.state l.fn.disk).tells → (layout : Layout) (i : IndexSchema)
      → ReadsLayout (g.D.Disk.state l.fn.disk) l.fn.engine layout
      → index_at l.schema (Some l.number) ≡ Some i → ItemsRead layout l.schema
      → IsLeastMissing (λ place. IsBelow place l.from) layout l.schema i l.least;
  ahead : IsTrue (g.D.Disk.state l.fn.disk).tells → (layout : Layout)
      → ReadsLayout (g.D.Disk.state l.fn.disk) l.fn.engine layout
      → IsAhead layout l.schema.family l.from l.ahead.items;
}
