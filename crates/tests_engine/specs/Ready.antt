-- An engine that a write may be asked of.
use Rattle.alt_disk.specs.Disk.{DiskState, IsTrusted}
use Rattle.alt_engine.specs.InHand.{StandsForLayout}
use Rattle.alt_layout.specs.Layout.{Layout}
use Rattle.alt_engine.specs.declared.engine.Engine.{Engine}

-- on a disk that can be relied on it stands for rows
abbrev pub IsReady : DiskState → Engine → Type 0
IsReady disk engine = IsTrusted disk → (l : Layout) × StandsForLayout disk engine l
