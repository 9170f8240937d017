-- A store on a disk, and what a stop may leave of its layout.
use Rattle.std.specs.Prelude.{◌≡◌, ◌⊎◌, ℕ, List}
use Rattle.alt_disk.specs.Disk.{DiskState, IsSettled}
use Rattle.alt_layout.specs.Layout.{Layout}
use Rattle.alt_writes.specs.Writes.{Write}
use Rattle.alt_layout.specs.Fresh.{versions_file}
use Rattle.alt_manifest.specs.Versions.{HasVersion}
use Rattle.alt_manifest.specs.declared.version.Version.{Version}
use Rattle.alt_layout.specs.Families.{Held}
use Rattle.alt_layout.specs.Files.{Image, IsLayout, IsOf, Stored}

-- As the disk reads, the last version is this one and the files that it names hold these rows and writes; and of each of these files a stop now leaves
-- what reads give.
pub record Lies (s : DiskState) (v : Version) (held : Held)
    (parts : List (List Write)) : Type 0 where
  pub last : HasVersion v (s.file versions_file)
  pub stored : Stored s.file v held parts
  pub settled : (f : ℕ) → IsOf v f → IsSettled s f

-- The image has this layout.
abbrev pub Has : Layout → ℕ → Image → Type 0
Has l t image = IsLayout image l

-- The image has the layout before or the one after.
abbrev pub HasEither : Layout → Layout → ℕ → Image → Type 0
HasEither l m t image = IsLayout image l ⊎ IsLayout image m

-- The file is this one.
abbrev pub IsIt : ℕ → ℕ → Type 0
IsIt f g = g ≡ f
