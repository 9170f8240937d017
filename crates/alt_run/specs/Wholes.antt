-- Disks whose stops leave stores, and what the next program finds behind a stop.
use Rattle.std.specs.Prelude.{◌≤◌, ℕ}
use Rattle.alt_disk.specs.Disk.{DiskState, IsImage, IsTrusted}
use Rattle.alt_talks.specs.Stops.{Image}
use Rattle.alt_run.specs.Endings.{IsReadable}

-- A disk that can be relied on, and whatever a stop at that moment leaves of it stands for a state, though not always for the same.
pub record DiskIsWhole (disk : DiskState) (t : ℕ) : Type 0 where
  pub trusted : IsTrusted disk
  pub each : (image : Image) → IsImage disk t image → IsReadable image

-- What the next program finds behind a stop at a moment: a disk that can be relied on, of which a stop leaves nothing that one couldn't
-- leave then, and which reads as something of that. Behind a power cut that is one image alone; behind a kill all of them may still come.
pub record IsFoundBehind (old : DiskState) (t : ℕ) (next : DiskState) : Type 0 where
  pub trusted : IsTrusted next
  pub left : (image : Image) → IsImage next next.moment image → IsImage old t image
  pub reads : IsImage next next.moment next.file

-- Where a disk was whole as a run began, it is at each moment of the run, and so is what the next program finds behind a stop then.
abbrev pub StaysWhole : DiskState → DiskState → Type 0
StaysWhole old new = DiskIsWhole old old.moment → (t : ℕ) → old.moment ≤ t → t ≤ new.moment
    → DiskIsWhole new t
    × ((next : DiskState) → IsFoundBehind new t next → DiskIsWhole next next.moment)
