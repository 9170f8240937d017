-- A merge of a family's oldest files under way, as the engine sees it.
use Rattle.std.specs.Prelude.{◌≡◌, ◌<◌, ◌≤◌, ◌++◌, ◌∷◌, ℕ, List, length, Option, Some, None}
use Rattle.std.specs.List.{AllByRecursion}
use Rattle.alt_disk.specs.Disk.{DiskState}
use Rattle.alt_flush.specs.Drafts.{renumbered}
use Rattle.alt_layout.specs.Layout.{RowMap}
use Rattle.alt_manifest.specs.InHand.{version_of}
use Rattle.alt_manifest.specs.declared.version.Version.{Version}
use Rattle.alt_rowfile.specs.declared.rowfile.RowFile.{RowFile}
use Rattle.alt_families.specs.Families.{files_in, rows_in}
use Rattle.alt_hand.specs.InHand.{family_of, limits_of}
use Rattle.alt_hand.specs.declared.hand.Hand.{Hand}
pub use Rattle.alt_drafts.specs.Merging.{IsLater, IsMadeOf, IsOlder, MayEnd}

-- The version in hand.
abbrev pub version_in : Hand → Version
version_in e = version_of e.manifest

-- The files of a family in hand.
abbrev pub files_at : Hand → ℕ → List RowFile
files_at e family = files_in (family_of e family)

-- The rows that it has in memory.
abbrev pub memory_at : Hand → ℕ → RowMap
memory_at e family = rows_in (family_of e family)

-- A merge of the first files of a family of the engine, which may end by its last version with its numbers.
abbrev pub IsMerging : DiskState → Hand → ℕ → ℕ → ℕ → ℕ → Type 0
IsMerging s e family taken number file =
    MayEnd s (renumbered (version_in e) e.next_file e.next) (files_at e family) family taken number file

-- So many files are merged where this many are: there is one, and they aren't fewer.
abbrev pub AreMany : ℕ → ℕ → Type 0
AreMany merge count = (0 < count) × (merge ≤ count)

-- The family has so many files that they are merged.
abbrev pub HasMany : Hand → ℕ → Type 0
HasMany e family = AreMany (limits_of e).merge (length (files_at e family))

-- It is the first of these families that has; none where none has.
pub record IsFirstMany (live : List ℕ) (e : Hand) (family : ℕ) : Type 0 where
  pub before : List ℕ
  pub behind : List ℕ
  pub is : live ≡ before ++ family ∷ behind
  pub many : HasMany e family
  pub first : AllByRecursion (λ other. HasMany e other → ⊥) before

abbrev pub FindsMany : List ℕ → Hand → Option ℕ → Type 0
FindsMany live e None = AllByRecursion (λ family. HasMany e family → ⊥) live
FindsMany live e (Some family) = IsFirstMany live e family
