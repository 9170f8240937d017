-- The indexes so far are read, and the engine reads as it read.
use Rattle.std.proofs.Common.{◌<◌, IsTrue}
use Rattle.alt_engine.specs.InHand.{ReadsLayout}
use Rattle.alt_layout.specs.Layout.{Layout}
use Rattle.alt_machine.specs.Valid.{IsMade}
use Rattle.alt_opening.specs.private.IndexScans.{IndexesWhere}
use Rattle.alt_opening.specs.Scans.{ItemsRead, Walked}
use Rattle.alt_opening.proofs.index_scan.read_own_indexes.Given as goal

abbrev pub invariant-indexes : goal.invariant-indexes
invariant-indexes g l = record {
  walked : Walked (g.D.Disk.state l.fn.disk) (g.D.Disk.state l.disk) l.fn.engine l.engine;
  read : IsTrue (g.D.Disk.state l.fn.disk).tells → (layout : Layout)
      → ReadsLayout (g.D.Disk.state l.fn.disk) l.fn.engine layout
      → IsMade l.schema → ItemsRead layout l.schema
      → IndexesWhere (λ n. n < l.number) layout l.schema;
}
