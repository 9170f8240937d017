-- The items of the tables up to this family are read, and none has more bytes than the largest.
use Rattle.std.proofs.Common.{◌<◌, ◌-◌, ◌^◌, ℕ, IsTrue}
use Rattle.alt_engine.specs.InHand.{ReadsLayout}
use Rattle.alt_layout.specs.Layout.{Layout}
use Rattle.alt_opening.specs.private.Opening.{IsCatalog}
use Rattle.alt_opening.specs.Scans.{Walked}
use Rattle.alt_opening.specs.private.RowSizes.{RowsAreWithin}
use Rattle.alt_opening.proofs.TableSteps.{AreUpTo, ReadUpTo}
use Rattle.alt_opening.proofs.recover.read_tables.Given as goal

abbrev pub invariant-tables : goal.invariant-tables
invariant-tables g l = record {
  walked : Walked (g.D.Disk.state l.fn.disk) (g.D.Disk.state l.disk) l.fn.engine l.engine;
  read : IsTrue (g.D.Disk.state l.fn.disk).tells → (layout : Layout) (next : ℕ)
      → ReadsLayout (g.D.Disk.state l.fn.disk) l.fn.engine layout
      → IsCatalog layout next l.catalog → ReadUpTo layout l.catalog l.family;
  sized : IsTrue (g.D.Disk.state l.fn.disk).tells → (layout : Layout) (next : ℕ)
      → ReadsLayout (g.D.Disk.state l.fn.disk) l.fn.engine layout
      → IsCatalog layout next l.catalog
      → AreUpTo (RowsAreWithin layout l.largest) l.catalog l.family;
  small : l.family < 2 ^ 32;
}

abbrev pub decreases-tables : goal.decreases-tables
decreases-tables g l = 2 ^ 32 - l.family
