-- Faults of families as those of the engine, and what a call that only reads leaves.
use Rattle.std.specs.Prelude.{◌≡◌}
use Rattle.alt_disk.specs.Disk.{DiskState}
use Rattle.alt_faults.specs.Faults as view
use Rattle.alt_layout.specs.Layout.{Layout}
use Rattle.alt_hand.specs.Faults.{told_by_engine}
use Rattle.alt_hand.specs.InHand.{HandReadsLayout, HandStandsForLayout, next_of}
use Rattle.alt_hand.specs.declared.hand.Hand.{Hand}
use Rattle.alt_drafts.specs.declared.fault.EngineFault.{EngineFault}
pub use Rattle.alt_drafts.specs.Faults.{of_source}

-- The fault tells of no damage.
abbrev pub EngineFaultIsUndamaged : EngineFault → Type 0
EngineFaultIsUndamaged f = view.IsUndamaged (told_by_engine f)

-- The fault tells of no spent number.
abbrev pub EngineFaultIsUnspent : EngineFault → Type 0
EngineFaultIsUnspent f = view.IsUnspent (told_by_engine f)

-- After a call that only reads the engine is that of the layouts that it was that of, as the disk is then, and so it stands for what it stood for.
pub record HandStaysOn (a b : DiskState) (old new : Hand) : Type 0 where
  pub next : next_of new ≡ next_of old
  pub reads : (l : Layout) → HandReadsLayout a old l → HandReadsLayout b new l
  pub stands : (l : Layout) → HandStandsForLayout a old l → HandStandsForLayout b new l
