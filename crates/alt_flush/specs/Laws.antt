-- What each step of a draft makes of the files that it names, family by family, and which files it names no more.
use Rattle.std.specs.Prelude.{◌≡◌, ◌≢◌, ◌⊎◌, ◌-◌, ◌++◌, ℕ, List, [], ◌∷◌, take}
use Rattle.alt_manifest.specs.Versions.{IsIn, RiseFrom, files_named, numbers_of}
use Rattle.alt_manifest.specs.declared.version.FamilyVersion.{FamilyVersion}
use Rattle.alt_manifest.specs.declared.version.Version.{Version}
use Rattle.alt_layout.specs.Families.{files_of, flushed_of}
use Rattle.alt_layout.specs.Merged.{version_made}
use Rattle.alt_flush.specs.Drafts.{over_new_log, with_flush, with_segment, without_family}

-- The family has these files, up to this number, and each other family is as it was.
pub record HasFiles (old new : List FamilyVersion) (family : ℕ) (files : List ℕ)
    (flushed : ℕ) : Type 0 where
  pub own : files_of new family ≡ files
  pub number : flushed_of new family ≡ flushed
  pub others : (other : ℕ) → other ≢ family
      → (files_of new other ≡ files_of old other) × (flushed_of new other ≡ flushed_of old other)

-- Each file that the one names the other names too, or it is one of these.
abbrev pub DropsOnly : Version → Version → List ℕ → Type 0
DropsOnly u v files = (f : ℕ) → IsIn (files_named u) f → IsIn (files_named v) f ⊎ IsIn files f

-- A flush puts the new file behind those of the family, which then is flushed up to the last write.
abbrev pub FlushNames : Type 0
FlushNames = (u : Version) (family : ℕ) → RiseFrom 0 (numbers_of u.families)
    → HasFiles u.families (with_flush u family).families family
    (files_of u.families family ++ u.next_file ∷ []) (u.next_number - 1)

-- No file goes.
abbrev pub FlushDrops : Type 0
FlushDrops = (u : Version) (family : ℕ) → DropsOnly u (with_flush u family) []

-- A family that is left out has no files, and is flushed up to the last write.
abbrev pub WithoutNames : Type 0
WithoutNames = (u : Version) (family : ℕ) → RiseFrom 0 (numbers_of u.families)
    → HasFiles u.families (without_family u family).families family [] (u.next_number - 1)

-- Its files go.
abbrev pub WithoutDrops : Type 0
WithoutDrops = (u : Version) (family : ℕ)
    → DropsOnly u (without_family u family) (files_of u.families family)

-- Over a new log each family has the files that it had, and one without files isn't named.
abbrev pub LogNames : Type 0
LogNames = (u : Version) → RiseFrom 0 (numbers_of u.families) → (family : ℕ)
    → (files_of (over_new_log u).families family ≡ files_of u.families family)
    × (files_of u.families family ≡ [] → IsIn (numbers_of (over_new_log u).families) family → ⊥)

-- The segments go.
abbrev pub LogDrops : Type 0
LogDrops = (u : Version) → DropsOnly u (over_new_log u) u.segments

-- With a segment more each family is as it was, and no file goes.
abbrev pub SegmentDrops : Type 0
SegmentDrops = (u : Version) → DropsOnly u (with_segment u) []

-- Of a merge those files go that it took.
abbrev pub MergeDrops : Type 0
MergeDrops = (u : Version) (family taken : ℕ) (made : List ℕ)
    → DropsOnly u (version_made u family taken made) (take taken (files_of u.families family))
