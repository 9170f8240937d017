-- The layout of an image: its last version, the row files and segments that the version names, and the rows that these hold.
use Rattle.std.specs.Prelude.{◌≡◌, ◌⊎◌, ◌+◌, ℕ, List, [], ◌∷◌, ◌++◌, Option, Some}
use Rattle.std.specs.FinMap.{entries}
use Rattle.std.specs.List.{AllByRecursion, flat_map}
use Rattle.alt_gatelog.specs.Log.{IsLog}
use Rattle.alt_gatelog.specs.declared.form.Form.{Form}
use Rattle.alt_rowfile.specs.Format.{IsRowFile}
use Rattle.alt_layout.specs.Layout.{Layout, RowMap}
use Rattle.alt_writes.specs.Writes.{Write, AreRising}
use Rattle.alt_writes.specs.Bytes.{AllHeld}
use Rattle.alt_layout.specs.Entries.{HoldWrites}
use Rattle.alt_layout.specs.Fresh.{versions_file}
use Rattle.alt_manifest.specs.Versions.{HasVersion, files_named, IsIn}
use Rattle.alt_manifest.specs.declared.version.FamilyVersion.{FamilyVersion}
use Rattle.alt_manifest.specs.declared.version.Version.{Version}
use Rattle.alt_layout.specs.Families.{Held, IsMapBelow, layout_of}

-- An image: what each file of a disk is, as it reads or as a stop leaves it.
abbrev pub Image : Type 0
Image = ℕ → Option (List ℕ)

-- The file is a row file of these rows, and none of their timestamps is above the family's flushed number.
pub record HoldsRows (m : RowMap) (flushed : ℕ) (file : Option (List ℕ)) : Type 0 where
  pub bytes : List ℕ
  pub there : file ≡ Some bytes
  pub rows : IsRowFile (entries m) bytes
  pub past : IsMapBelow (flushed + 1) m

-- Each file of the family is a row file of the rows that it is said to hold.
abbrev pub AreRowFiles : Image → Held → FamilyVersion → Type 0
AreRowFiles image held f = AllByRecursion (λ g. HoldsRows (held g) f.flushed (image g)) f.files

-- The file is a segment with these writes: a log of either form whose entries hold them.
pub record IsSegment (ws : List Write) (file : Option (List ℕ)) : Type 0 where
  pub form : Form
  pub entries : List (List ℕ)
  pub log : IsLog form entries file
  pub holds : HoldWrites form entries ws

-- Each segment has the writes of its part, in order.
abbrev pub AreSegments : Image → List ℕ → List (List Write) → Type 0
AreSegments image [] [] = Unit {0}
AreSegments image [] (ws ∷ parts) = ⊥
AreSegments image (f ∷ fs) [] = ⊥
AreSegments image (f ∷ fs) (ws ∷ parts) =
    IsSegment ws (image f) × AreSegments image fs parts

-- The writes of all segments, one segment's behind another's.
abbrev pub all_of : List (List Write) → List Write
all_of parts = flat_map (λ ws. ws) parts

-- The files that the version names hold these rows and writes, and the numbers of the writes rise over all segments.
pub record Stored (image : Image) (v : Version) (held : Held)
    (parts : List (List Write)) : Type 0 where
  pub files : AllByRecursion (AreRowFiles image held) v.families
  pub segments : AreSegments image v.segments parts
  pub writes : AllHeld (all_of parts)
  pub rising : AreRising 1 (all_of parts)

-- An image has this layout: file 1 ends with a version, the files that it names hold rows and writes, and the layout is that of the version over these.
-- Files that the last version doesn't name count for nothing.
pub record IsLayout (image : Image) (l : Layout) : Type 0 where
  pub version : Version
  pub last : HasVersion version (image versions_file)
  pub held : Held
  pub parts : List (List Write)
  pub stored : Stored image version held parts
  pub is : l ≡ layout_of version held (all_of parts)

-- The file is one of the store's: that of the versions, or one that the version names.
abbrev pub IsOf : Version → ℕ → Type 0
IsOf v f = (f ≡ versions_file) ⊎ IsIn (files_named v) f

-- The last segment of the version is this file, and holds these writes.
pub record EndsWith (v : Version) (parts : List (List Write)) (f : ℕ)
    (ws : List Write) : Type 0 where
  pub firsts : List ℕ
  pub fronts : List (List Write)
  pub segments : v.segments ≡ firsts ++ f ∷ []
  pub parts_are : parts ≡ fronts ++ ws ∷ []
