-- What a call that only reads leaves.
use Rattle.std.specs.Prelude.{◌≡◌}
use Rattle.alt_disk.specs.Disk.{DiskState}
use Rattle.alt_layout.specs.Layout.{Layout}
use Rattle.alt_engine.specs.InHand.{ReadsLayout, StandsForLayout, next_write_of_engine}
use Rattle.alt_engine.specs.declared.engine.Engine.{Engine}

-- After it the engine is that of the layouts that it was that of, as the disk is then, and so it stands for what it stood for.
pub record StaysOn (a b : DiskState) (old new : Engine) : Type 0 where
  pub next : next_write_of_engine new ≡ next_write_of_engine old
  pub reads : (l : Layout) → ReadsLayout a old l → ReadsLayout b new l
  pub stands : (l : Layout) → StandsForLayout a old l → StandsForLayout b new l
