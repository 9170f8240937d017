-- The streams of the tables up to this family are read, and what was trimmed of them is known.
use Rattle.std.proofs.Common.{◌<◌, ◌-◌, ◌^◌, ℕ, IsTrue}
use Rattle.alt_engine.specs.InHand.{ReadsLayout}
use Rattle.alt_layout.specs.Layout.{Layout}
use Rattle.alt_opening.specs.private.Opening.{AreTablesRead, AreTrimmedUpTo}
use Rattle.alt_opening.specs.Scans.{Walked}
use Rattle.alt_opening.proofs.TableSteps.{ChangesUpTo}
use Rattle.alt_opening.proofs.recover.read_streams.Given as goal

abbrev pub invariant-tables : goal.invariant-tables
invariant-tables g l = record {
  walked : Walked (g.D.Disk.state l.fn.disk) (g.D.Disk.state l.disk) l.fn.engine l.engine;
  read : IsTrue (g.D.Disk.state l.fn.disk).tells → (layout : Layout) (next : ℕ)
      → ReadsLayout (g.D.Disk.state l.fn.disk) l.fn.engine layout
      → AreTablesRead layout next l.catalog → ChangesUpTo layout l.catalog l.family;
  trimmed : IsTrue (g.D.Disk.state l.fn.disk).tells → (layout : Layout) (next : ℕ)
      → ReadsLayout (g.D.Disk.state l.fn.disk) l.fn.engine layout
      → AreTablesRead layout next l.catalog
      → AreTrimmedUpTo layout l.catalog l.family l.known.items;
  small : l.family < 2 ^ 32;
}

abbrev pub decreases-tables : goal.decreases-tables
decreases-tables g l = 2 ^ 32 - l.family
