-- What it means that bytes don't begin with a number, a list, a family, or aren't a version. Private contracts alone cite these words, but for `NoVersion`.
use Rattle.std.specs.Prelude.{◌≡◌, ◌<◌, ◌^◌, ℕ, List, ◌++◌, length}
use Rattle.std.specs.List.{AllByRecursion, flat_map}
use Rattle.std.specs.Int.{w64, to_be_bytes}
use Rattle.alt_fields.specs.Bytes.{IsShort}
use Rattle.alt_manifest.specs.Versions.{IsFile, IsHeldFamily, IsHeldVersion, IsVersion, file_bytes, files_bytes, family_bytes, version_bytes}
use Rattle.alt_manifest.specs.declared.read.Stop.{Stop}
use Rattle.alt_manifest.specs.declared.read.Stop.TheVariants.{Bad, NoMemory}
use Rattle.alt_manifest.specs.declared.version.FamilyVersion.{FamilyVersion}
use Rattle.alt_manifest.specs.declared.version.Version.{Version}

-- Bad is answered where this holds.
abbrev pub BadMeans : Type 0 → Stop → Type 0
BadMeans P Bad = P
BadMeans P NoMemory = Unit {0}

-- The bytes don't begin with a number of eight bytes.
abbrev pub NoNumber : List ℕ → Type 0
NoNumber bytes = (n : ℕ) (behind : List ℕ) → n < 2 ^ 64 → bytes ≡ to_be_bytes w64 n ++ behind → ⊥

-- The bytes don't begin with a number of four bytes.
abbrev pub NoFile : List ℕ → Type 0
NoFile bytes = (n : ℕ) (behind : List ℕ) → IsFile n → bytes ≡ file_bytes n ++ behind → ⊥

-- The bytes don't begin with so many numbers of files.
abbrev pub NoFiles : ℕ → List ℕ → Type 0
NoFiles count bytes = (fs : List ℕ) (behind : List ℕ) → AllByRecursion IsFile fs
    → length fs ≡ count → bytes ≡ flat_map file_bytes fs ++ behind → ⊥

-- The bytes don't begin with a list of files.
abbrev pub NoList : List ℕ → Type 0
NoList bytes = (fs : List ℕ) (behind : List ℕ) → IsShort fs → AllByRecursion IsFile fs
    → bytes ≡ files_bytes fs ++ behind → ⊥

-- The bytes don't begin with a family.
abbrev pub NoFamily : List ℕ → Type 0
NoFamily bytes = (f : FamilyVersion) (behind : List ℕ) → IsHeldFamily f
    → bytes ≡ family_bytes f ++ behind → ⊥

-- The bytes don't begin with so many families.
abbrev pub NoFamilies : ℕ → List ℕ → Type 0
NoFamilies count bytes = (fs : List FamilyVersion) (behind : List ℕ)
    → AllByRecursion IsHeldFamily fs → length fs ≡ count
    → bytes ≡ flat_map family_bytes fs ++ behind → ⊥

-- The bytes aren't what can be written as a version.
abbrev pub NoHeld : List ℕ → Type 0
NoHeld bytes = (v : Version) → IsHeldVersion v → bytes ≡ version_bytes v → ⊥

-- The bytes are those of no version.
abbrev pub NoVersion : List ℕ → Type 0
NoVersion bytes = (v : Version) → IsVersion v → bytes ≡ version_bytes v → ⊥
