-- The version that work adds, as the disk reads: the files that it names, and what becomes of the others.
use Rattle.std.specs.Prelude.{◌≡◌, ◌⊎◌, ◌<◌, ◌≤◌, ◌-◌, ◌++◌, ℕ, List, [], ◌∷◌, length, None}
use Rattle.std.specs.FinMap.{entries}
use Rattle.alt_disk.specs.Disk.{DiskState}
use Rattle.alt_layout.specs.Families.{files_of}
use Rattle.alt_layout.specs.Files.{Image}
use Rattle.alt_layout.specs.Fresh.{versions_file}
use Rattle.alt_manifest.specs.Versions.{HasVersion, IsIn, numbers_of}
use Rattle.alt_manifest.specs.declared.version.Version.{Version}
use Rattle.alt_merging.specs.HandAdding.{IsLeftOut, IsThere}
use Rattle.alt_merging.specs.HandDrafting.{files_for}
use Rattle.alt_merging.specs.HandInHand.{family_of, next_of}
use Rattle.alt_merging.specs.HandMerging.{memory_at}
use Rattle.alt_merging.specs.HandWorking.{HasEntries, most_entries}
use Rattle.alt_merging.specs.HandDeclaredHand.{Hand}
use Rattle.alt_engine.specs.InHand.{hand_of, limits_of_engine}
use Rattle.alt_engine.specs.declared.engine.Engine.{Engine}
use Rattle.alt_engine.specs.declared.work.Task.{Task}
use Rattle.alt_engine.specs.declared.work.Task.TheVariants.{Step, FlushAll, MergeAll}

-- The family has the files that it had and, where it had rows in memory, one more.
pub record GetsFile (old : Hand) (v w : Version) (family : ℕ) : Type 0 where
  pub more : List ℕ
  pub files : files_of w.families family ≡ files_of v.families family ++ more
  pub count : length more ≡ files_for (entries (memory_at old family))

-- A version of a flush of all: it names a new and empty segment alone, of each live family its old files and the one for its rows in memory, and no
-- family that isn't live. The old segments are gone.
pub record HasNewLog (a b : Image) (live : List ℕ) (old : Hand) (v w : Version) : Type 0 where
  pub segment : ℕ
  pub segments : w.segments ≡ segment ∷ []
  pub new : a segment ≡ None
  pub empty : (n : ℕ) → HasEntries b n → n ≡ 0
  pub files : (family : ℕ) → IsIn live family → GetsFile old v w family
  pub only : (family : ℕ) → IsIn (numbers_of w.families) family → IsIn live family
  pub gone : (f : ℕ) → IsIn v.segments f → b f ≡ None

-- Any other version: it names the segments that the last one names, and those families that aren't live, and that the last one names or that have rows in
-- memory, without files, and flushed up to the last write.
pub record HasOldLog (live : List ℕ) (old : Hand) (v w : Version) : Type 0 where
  pub segments : w.segments ≡ v.segments
  pub dead : (family : ℕ) → (IsIn live family → ⊥) → IsThere v (family_of old family) family
      → IsLeftOut w family (next_of old - 1)

-- The last version after a flush of all, and after work of any other kind.
abbrev pub IsNewLog : DiskState → DiskState → List ℕ → Engine → Type 0
IsNewLog a b live old = (v w : Version) → HasVersion v (a.file versions_file)
    → HasVersion w (b.file versions_file) → HasNewLog a.file b.file live (hand_of old) v w

abbrev pub IsWithoutDead : DiskState → DiskState → List ℕ → Engine → Type 0
IsWithoutDead a b live old = (v w : Version) → HasVersion v (a.file versions_file)
    → HasVersion w (b.file versions_file) → HasOldLog live (hand_of old) v w

-- Which it is, once a task is done: of a step the first where the log was long.
abbrev pub IsAfter : Task → DiskState → DiskState → List ℕ → Engine → Type 0
IsAfter Step a b live old =
    (((n : ℕ) → HasEntries a.file n → most_entries (limits_of_engine old).flush ≤ n)
    × IsNewLog a b live old)
    ⊎ (((n : ℕ) → HasEntries a.file n → n < most_entries (limits_of_engine old).flush)
    × IsWithoutDead a b live old)
IsAfter FlushAll a b live old = IsNewLog a b live old
IsAfter MergeAll a b live old = IsWithoutDead a b live old
