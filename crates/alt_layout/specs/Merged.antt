-- The version of a merge: what was made of the oldest files of a family stands in their place.
use Rattle.std.specs.Prelude.{◌≡◌, ◌<◌, ◌≤◌, ◌+◌, ◌==◌, ℕ, List, [], ◌∷◌, ◌++◌, if◌then◌else◌, length, take, drop, true}
use Rattle.std.specs.FinMap.{entries}
use Rattle.std.specs.List.{AllByRecursion}
use Rattle.alt_cells.specs.Compacted.{compacted}
use Rattle.alt_manifest.specs.Versions.{IsIn, RiseFrom, files_named}
use Rattle.alt_manifest.specs.declared.version.FamilyVersion.{FamilyVersion}
use Rattle.alt_manifest.specs.declared.version.Version.{Version}
use Rattle.alt_layout.specs.Families.{Held, IsMapBelow, flushed_of, files_of, joined_files}
use Rattle.alt_layout.specs.Layout.{Layout, RowMap, shown}
use Rattle.alt_layout.specs.Merges.{IsPurgedMap, IsMapFrom}

-- ---- The version.

-- The families with these files in the place of the first `taken` ones of this family.
abbrev pub with_made : ℕ → ℕ → List ℕ → List FamilyVersion → List FamilyVersion
with_made family taken made [] = []
with_made family taken made (f ∷ fs) =
    if f.family == family
    then record { family = f.family; flushed = f.flushed; files = made ++ drop taken f.files } ∷ fs
    else f ∷ with_made family taken made fs

-- The version in which these files stand in the place of the first `taken` ones of the family.
abbrev pub version_made : Version → ℕ → ℕ → List ℕ → Version
version_made v family taken made = record {
  next_file = v.next_file;
  next_number = v.next_number;
  segments = v.segments;
  families = with_made family taken made v.families;
}

-- The files that a merge took: the family's first.
abbrev pub taken_files : Version → ℕ → ℕ → List ℕ
taken_files v family taken = take taken (files_of v.families family)

-- Those that the family got since it began.
abbrev pub since_files : Version → ℕ → ℕ → List ℕ
since_files v family taken = drop taken (files_of v.families family)

-- Files may take the place of the first of a family, of which this number was flushed when they were begun: they hold the rows of those, purged, and are
-- new; what the family got since is of later writes.
pub record MayReplace (v : Version) (held more : Held) (family taken number : ℕ)
    (made : List ℕ) : Type 0 where
  pub some : 0 < taken
  pub enough : taken ≤ length (files_of v.families family)
  pub rise : RiseFrom 2 (made ++ since_files v family taken)
  pub below : AllByRecursion (λ g. g < v.next_file) made
  pub new : AllByRecursion (λ g. IsIn (files_named v) g → ⊥) made
  pub same : (g : ℕ) → IsIn (files_named v) g → more g ≡ held g
  pub purged : IsPurgedMap (joined_files held (taken_files v family taken))
      (joined_files more made)
  pub older : IsMapBelow (number + 1) (joined_files held (taken_files v family taken))
  pub later : AllByRecursion (λ g. IsMapFrom (number + 1) (held g)) (since_files v family taken)
  pub reached : number ≤ flushed_of v.families family

-- Each family of the second layout shows what it shows in the first, and the next write has the same number.
pub record ShowsSame (l m : Layout) : Type 0 where
  pub number : m.next_number ≡ l.next_number
  pub rows : (family : ℕ) (key : List ℕ) → shown m family key ≡ shown l family key

-- ---- The rows.

-- What a compaction without tombstones leaves of a map of rows is a map of rows: the rows, purged.
pub record IsCompaction (m p : RowMap) : Type 0 where
  pub are : entries p ≡ compacted true (entries m)
  pub purged : IsPurgedMap m p
  pub below : (number : ℕ) → IsMapBelow number m → IsMapBelow number p
