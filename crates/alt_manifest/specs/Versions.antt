-- What a version of a store says, and its bytes (docs/formats/versions.md).
use Rattle.std.specs.Prelude.{◌≡◌, ◌<◌, ◌≤◌, ◌+◌, ◌-◌, ◌^◌, ◌⊎◌, ℕ, List, [], ◌∷◌, ◌++◌, length, map, Option}
use Rattle.std.specs.List.{AllByRecursion, flat_map}
use Rattle.std.specs.Int.{w32, w64, to_be_bytes}
use Rattle.alt_fields.specs.Bytes.{IsShort}
use Rattle.alt_gatelog.specs.Log.{IsLog}
use Rattle.alt_gatelog.specs.declared.form.Form.TheVariants.{One}
use Rattle.alt_manifest.specs.declared.version.Version.{Version}
use Rattle.alt_manifest.specs.declared.version.FamilyVersion.{FamilyVersion}

-- ---- The bytes of a version.

-- The number of a file stands in four bytes.
abbrev pub file_bytes : ℕ → List ℕ
file_bytes f = to_be_bytes w32 f

-- A list of files is its length in eight bytes, and behind it the number of each.
abbrev pub files_bytes : List ℕ → List ℕ
files_bytes files = to_be_bytes w64 (length files) ++ flat_map file_bytes files

-- A family is its number, the greatest number of a write that its files hold, and the list of its files.
abbrev pub family_bytes : FamilyVersion → List ℕ
family_bytes f = to_be_bytes w32 f.family ++ (to_be_bytes w64 f.flushed ++ files_bytes f.files)

-- A version is the number of the next file, that of the next write, the list of segments, how many families there are, and each of them.
unfoldable pub version_bytes : Version → List ℕ
version_bytes v =
    to_be_bytes w32 v.next_file
    ++ (to_be_bytes w64 v.next_number ++ (files_bytes v.segments
    ++ (to_be_bytes w64 (length v.families) ++ flat_map family_bytes v.families)))

-- ---- What a version says.

-- Numbers rise strictly, and each is at least `least`.
abbrev pub RiseFrom : ℕ → List ℕ → Type 0
RiseFrom least [] = Unit {0}
RiseFrom least (n ∷ ns) = (least ≤ n) × RiseFrom (n + 1) ns

-- The number is among these.
abbrev pub IsIn : List ℕ → ℕ → Type 0
IsIn [] n = ⊥
IsIn (m ∷ ms) n = (n ≡ m) ⊎ IsIn ms n

-- No number stands twice among these.
abbrev pub AreDistinct : List ℕ → Type 0
AreDistinct [] = Unit {0}
AreDistinct (n ∷ ns) = (IsIn ns n → ⊥) × AreDistinct ns

-- The number of each family, in their order.
abbrev pub numbers_of : List FamilyVersion → List ℕ
numbers_of fs = map (λ f. f.family) fs

-- The row files of all families, one family's behind another's.
abbrev pub row_files : List FamilyVersion → List ℕ
row_files fs = flat_map (λ f. f.files) fs

-- The files that a version names: its segments and the row files of its families.
abbrev pub files_named : Version → List ℕ
files_named v = v.segments ++ row_files v.families

-- A family of a version whose next write has this number: its files rise and are above 1, and hold writes below that number alone.
pub record IsFamily (next : ℕ) (f : FamilyVersion) : Type 0 where
  pub family : f.family < 2 ^ 32
  pub flushed : f.flushed < next
  pub files : RiseFrom 2 f.files
  pub count : IsShort f.files

-- A version names at least one segment, its lists rise, no file is named twice, and each file is above 1, where the versions themselves are, and below
-- the next file; the next write's number is from 1 to 2^62 - 1.
pub record IsVersion (v : Version) : Type 0 where
  pub next_file : v.next_file < 2 ^ 32
  pub next_number : (1 ≤ v.next_number) × (v.next_number ≤ 2 ^ 62 - 1)
  pub some : 0 < length v.segments
  pub segments : RiseFrom 2 v.segments
  pub count : IsShort v.segments
  pub rising : RiseFrom 0 (numbers_of v.families)
  pub families : AllByRecursion (IsFamily v.next_number) v.families
  pub families_count : IsShort v.families
  pub below : AllByRecursion (λ f. f < v.next_file) (files_named v)
  pub differ : AreDistinct (files_named v)

-- The file is a log of the first form whose last entry is this version; the entries before it may be anything.
pub record HasVersion (v : Version) (file : Option (List ℕ)) : Type 0 where
  pub before : List (List ℕ)
  pub log : IsLog One (before ++ version_bytes v ∷ []) file
  pub is : IsVersion v

-- ---- What can be written as a version, whether or not it is one.

-- The number of a file fits its four bytes.
abbrev pub IsFile : ℕ → Type 0
IsFile f = f < 2 ^ 32

-- Each number of a family fits its bytes.
pub record IsHeldFamily (f : FamilyVersion) : Type 0 where
  pub family : f.family < 2 ^ 32
  pub flushed : f.flushed < 2 ^ 64
  pub count : IsShort f.files
  pub files : AllByRecursion IsFile f.files

-- Each number of a version fits its bytes.
pub record IsHeldVersion (v : Version) : Type 0 where
  pub next_file : v.next_file < 2 ^ 32
  pub next_number : v.next_number < 2 ^ 64
  pub count : IsShort v.segments
  pub segments : AllByRecursion IsFile v.segments
  pub families_count : IsShort v.families
  pub families : AllByRecursion IsHeldFamily v.families
