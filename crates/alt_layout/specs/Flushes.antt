-- What a flush and a merge make of a family's files.
use Rattle.std.specs.Prelude.{◌≡◌, ◌<◌, ◌≤◌, ◌+◌, ◌-◌, ◌^◌, ◌==◌, ℕ, List, [], ◌∷◌, ◌++◌, if◌then◌else◌, nat_lt}
use Rattle.std.specs.FinMap.{empty}
use Rattle.std.specs.List.{AllByRecursion}
use Rattle.alt_layout.specs.Layout.{RowMap}
use Rattle.alt_writes.specs.Writes.{Write}
use Rattle.alt_manifest.specs.declared.version.FamilyVersion.{FamilyVersion}
use Rattle.alt_manifest.specs.declared.version.Version.{Version}
use Rattle.alt_layout.specs.Families.{Held, IsMapBelow, flushed_of, files_of, joined_files, with_later}
use Rattle.alt_layout.specs.Merges.{IsPurgedMap, IsMapFrom}

-- A family was flushed: its rows in memory are those of one file more, or it has none and no file came.
pub record IsFlushed (fs gs : List FamilyVersion) (held more : Held) (ws : List Write)
    (family : ℕ) : Type 0 where
  pub file : List ℕ
  pub files : files_of gs family ≡ files_of fs family ++ file
  pub old : AllByRecursion (λ g. more g ≡ held g) (files_of fs family)
  pub new : joined_files more file ≡ with_later (flushed_of fs family) family empty ws

-- Nothing of the family changed.
pub record FamilyIsUnchanged (fs gs : List FamilyVersion) (held more : Held) (family : ℕ) : Type 0 where
  pub files : files_of gs family ≡ files_of fs family
  pub rows : AllByRecursion (λ g. more g ≡ held g) (files_of fs family)
  pub flushed : flushed_of gs family ≡ flushed_of fs family

-- A family after a merge that began when this number was flushed: the files that it had then have given way to one or to none, which holds their
-- rows, purged; the files that it got since then stay, and hold later rows alone.
pub record IsMerged (fs gs : List FamilyVersion) (held more : Held)
    (number family : ℕ) : Type 0 where
  pub taken : List ℕ
  pub since : List ℕ
  pub made : List ℕ
  pub before : files_of fs family ≡ taken ++ since
  pub after : files_of gs family ≡ made ++ since
  pub stay : AllByRecursion (λ g. more g ≡ held g) since
  pub purged : IsPurgedMap (joined_files held taken) (joined_files more made)
  pub below : IsMapBelow (number + 1) (joined_files held taken)
  pub later : AllByRecursion (λ g. IsMapFrom (number + 1) (held g)) since
  pub reached : number ≤ flushed_of fs family
  pub flushed : flushed_of gs family ≡ flushed_of fs family

-- ---- The version of a flush.

-- The families of a version with one file more for this family, whose flushed number then is the one given; it is put at its place where it wasn't
-- named.
abbrev pub with_file : ℕ → ℕ → ℕ → List FamilyVersion → List FamilyVersion
with_file family flushed file [] =
    record { family = family; flushed = flushed; files = file ∷ [] } ∷ []
with_file family flushed file (f ∷ fs) =
    if f.family == family
    then record { family = f.family; flushed = flushed; files = f.files ++ file ∷ [] } ∷ fs
    else (if nat_lt family f.family
    then record { family = family; flushed = flushed; files = file ∷ [] } ∷ f ∷ fs
    else f ∷ with_file family flushed file fs)

-- The version in which the family's rows in memory are in this new file, and the next write has this number.
abbrev pub version_with : Version → ℕ → ℕ → ℕ → Version
version_with v family file next = record {
  next_file = file + 1;
  next_number = next;
  segments = v.segments;
  families = with_file family (next - 1) file v.families;
}

-- The file holds these rows, and every other what it held.
abbrev pub with_rows : Held → ℕ → RowMap → Held
with_rows held file m g = if g == file then m else held g

-- Numbers are left for this file and the next write, and the family's number fits its bytes.
pub record HasNext (v : Version) (family file next : ℕ) : Type 0 where
  pub file_fits : file + 1 < 2 ^ 32
  pub free : v.next_file ≤ file
  pub family_fits : family < 2 ^ 32
  pub later : v.next_number ≤ next
  pub number_fits : next ≤ 2 ^ 62 - 1
