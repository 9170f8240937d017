-- Why a store isn't recovered: its files have no layout; and what a recovery leaves on its way.
use Rattle.std.specs.Prelude.{◌≡◌, ◌≢◌, ◌⊎◌, ◌≤◌, ◌<◌, ◌+◌, ◌-◌, ◌++◌, ℕ, List, ◌∷◌, length, take, drop, Some, None}
use Rattle.std.specs.FinMap.{entries}
use Rattle.sha2.specs.Sha256.{sha256}
use Rattle.alt_disk.specs.Disk.{DiskState, IsImage, IsNames, bytes_or_none}
use Rattle.alt_gatelog.specs.Log.{IsLog, LogIsDamagedAt, gate_place}
use Rattle.alt_gatelog.specs.declared.form.Form.{Form}
use Rattle.alt_gatelog.specs.declared.form.Form.TheVariants.{One, Two}
use Rattle.alt_rowfile.specs.Format.{IsRowFile}
use Rattle.alt_rowfile.specs.Recovery.{HasDigest, NoRowFile}
use Rattle.alt_writes.specs.Writes.{Write, AreRising}
use Rattle.alt_writes.specs.Bytes.{AllHeld}
use Rattle.alt_layout.specs.Entries.{HoldWrites, IsNoEntry}
use Rattle.alt_manifest.specs.Recovery.{IsBadLast}
use Rattle.alt_manifest.specs.Versions.{HasVersion, IsIn}
use Rattle.alt_manifest.specs.declared.version.FamilyVersion.{FamilyVersion}
use Rattle.alt_manifest.specs.declared.version.Version.{Version}
use Rattle.alt_layout.specs.Families.{IsMapBelow, next_after}
use Rattle.alt_layout.specs.Files.{AreSegments, Image, IsLayout, IsOf, all_of}
use Rattle.alt_layout.specs.Fresh.{versions_file}
use Rattle.alt_layout.specs.Layout.{Layout, RowMap}
use Rattle.alt_recovery.specs.Others.{next_past}
use Rattle.alt_hand.specs.declared.recover.RecoverFault.{RecoverFault}
use Rattle.alt_hand.specs.Faults.{told_by_recovery}
use Rattle.alt_faults.specs.Faults.{FileWhere, OnlyDamaged}

-- ---- Files that have no layout.

-- The file is a row file that the version names, of a family with this flushed number.
pub record IsRowFileOf (v : Version) (f flushed : ℕ) : Type 0 where
  pub before : List FamilyVersion
  pub family : FamilyVersion
  pub behind : List FamilyVersion
  pub is : v.families ≡ before ++ family ∷ behind
  pub files : IsIn family.files f
  pub flushed_is : flushed ≡ family.flushed

-- The file is a segment that the version names, behind these and before the others.
pub record IsSegmentOf (v : Version) (before : List ℕ) (f : ℕ) : Type 0 where
  pub behind : List ℕ
  pub is : v.segments ≡ before ++ f ∷ behind

-- Files have no layout at a place of one of them. A damaged entry is named by the place of its gate, and a row file by its beginning.
pub data IsBadFileAt (files : Image) (f at : ℕ) : Type 0 where
  -- File 1 is no log.
  no_versions : f ≡ versions_file → LogIsDamagedAt at (bytes_or_none (files versions_file))
      → IsBadFileAt files f at
  -- It is one of the second form.
  other_form : f ≡ versions_file → at ≡ 0 → (es : List (List ℕ))
      → IsLog Two es (files versions_file) → IsBadFileAt files f at
  -- It has no entry, or its last one is no version.
  no_version : f ≡ versions_file → (es : List (List ℕ)) → IsLog One es (files versions_file)
      → IsBadLast es at → IsBadFileAt files f at
  -- A row file is too short, or its digest is right and it is no row file all the same.
  no_rows : (v : Version) → HasVersion v (files versions_file) → (flushed : ℕ)
      → IsRowFileOf v f flushed → at ≡ 0
      → (length (bytes_or_none (files f)) < 32)
      ⊎ (HasDigest (bytes_or_none (files f)) × NoRowFile (bytes_or_none (files f)))
      → IsBadFileAt files f at
  -- A row file has a timestamp above the family's flushed number.
  late_rows : (v : Version) → HasVersion v (files versions_file) → (flushed : ℕ)
      → IsRowFileOf v f flushed → at ≡ 0 → (m : RowMap) (bytes : List ℕ) → files f ≡ Some bytes
      → IsRowFile (entries m) bytes → (IsMapBelow (flushed + 1) m → ⊥) → IsBadFileAt files f at
  -- A segment is no log.
  no_segment : (v : Version) → HasVersion v (files versions_file) → (before : List ℕ)
      → IsSegmentOf v before f → LogIsDamagedAt at (bytes_or_none (files f))
      → IsBadFileAt files f at
  -- Behind entries that hold writes with rising numbers an entry holds none with later ones.
  no_write : (v : Version) → HasVersion v (files versions_file) → (before : List ℕ)
      → IsSegmentOf v before f → (parts : List (List Write)) → AreSegments files before parts
      → (form : Form) (front : List (List ℕ)) (writes : List Write) (entry : List ℕ)
      (behind : List (List ℕ)) → IsLog form (front ++ entry ∷ behind) (files f)
      → HoldWrites form front writes
      → AllHeld (all_of parts ++ writes) → AreRising 1 (all_of parts ++ writes)
      → IsNoEntry form (next_after 1 (all_of parts ++ writes)) entry
      → at ≡ gate_place (front ++ entry ∷ behind) (length front)
      → IsBadFileAt files f at

-- A row file that the last version names doesn't end with the digest of what stands before it.
pub record IsBadDigest (files : Image) (f : ℕ) (kept found : List ℕ) : Type 0 where
  pub version : Version
  pub last : HasVersion version (files versions_file)
  pub flushed : ℕ
  pub of_version : IsRowFileOf version f flushed
  pub long : 32 ≤ length (bytes_or_none (files f))
  pub kept_is : kept
      ≡ drop (length (bytes_or_none (files f)) - 32) (bytes_or_none (files f))
  pub found_is : found
      ≡ sha256 (take (length (bytes_or_none (files f)) - 32) (bytes_or_none (files f)))
  pub differ : found ≢ kept

-- Damage and a digest that differs are explained by the files.
abbrev pub ExplainsStore : Image → RecoverFault → Type 0
ExplainsStore files f = OnlyDamaged (FileWhere (IsBadFileAt files) (IsBadDigest files))
    (told_by_recovery f)

-- Where either is told the files have no layout.
abbrev pub HasNoLayout : Image → RecoverFault → Type 0
HasNoLayout files f = OnlyDamaged (λ damage. (l : Layout) → IsLayout files l → ⊥)
    (told_by_recovery f)

-- ---- What is left.

-- A stop at a moment leaves an image with the layout of one that a stop might have left before.
pub record IsLeftLike (old : DiskState) (image : Image) : Type 0 where
  pub before : Image
  pub left : IsImage old old.moment before
  pub same : (l : Layout) → IsLayout before l → IsLayout image l

-- At each moment.
abbrev pub LeftLike : DiskState → ℕ → Image → Type 0
LeftLike old t image = IsLeftLike old image

-- The files of the version are as they were, and no other is there.
pub record LeavesStore (v : Version) (before after : Image) : Type 0 where
  pub kept : (f : ℕ) → IsOf v f → after f ≡ before f
  pub removed : (f : ℕ) → (IsOf v f → ⊥) → after f ≡ None

-- Where a store isn't opened every file is as it was, unless all that the last version names was read: then the files had a layout.
abbrev pub LeavesFiles : Image → Image → Type 0
LeavesFiles before after =
    ((f : ℕ) → after f ≡ before f) ⊎ ((l : Layout) × IsLayout before l)

-- The greater of the version's next file and one past the greatest that is there, but at most 2^32 - 1.
pub record IsNextFile (v : Version) (files : Image) (next : ℕ) : Type 0 where
  pub names : List ℕ
  pub named : IsNames names files
  pub is : next ≡ next_past v.next_file names
