-- Why a log of versions isn't recovered.
use Rattle.std.specs.Prelude.{◌≡◌, ℕ, List, [], ◌∷◌, ◌++◌, length, Option}
use Rattle.alt_disk.specs.Disk.{bytes_or_none}
use Rattle.alt_gatelog.specs.Log.{IsLog, LogIsDamagedAt, gate_place}
use Rattle.alt_gatelog.specs.declared.fault.LogFault.{LogFault}
use Rattle.alt_gatelog.specs.declared.fault.LogFault.TheVariants.{Damaged, Failed, NoMemory}
use Rattle.alt_gatelog.specs.declared.form.Form.TheVariants.{One, Two}
use Rattle.alt_manifest.specs.Versions.{IsVersion, version_bytes}
use Rattle.alt_manifest.specs.Reading.{NoVersion}
use Rattle.alt_manifest.specs.declared.version.Version.{Version}

-- Entries of which the last is this version.
pub record EndsWithVersion (v : Version) (entries : List (List ℕ)) : Type 0 where
  pub before : List (List ℕ)
  pub is : entries ≡ before ++ version_bytes v ∷ []
  pub version : IsVersion v

-- Entries end with no version: there is none, and then the place is 8, where the first gate stands; or the last one is no version, and then the place is
-- that of its gate.
pub data IsBadLast (entries : List (List ℕ)) (at : ℕ) : Type 0 where
  no_entry : entries ≡ [] → at ≡ 8 → IsBadLast entries at
  no_version : (before : List (List ℕ)) (last : List ℕ) → entries ≡ before ++ last ∷ []
      → NoVersion last → at ≡ gate_place entries (length before) → IsBadLast entries at

-- Damaged names the file of these entries and the place at which they end with no version.
abbrev pub ExplainsLast : ℕ → List (List ℕ) → LogFault → Type 0
ExplainsLast f entries (Damaged file at) = (file ≡ f) × IsBadLast entries at
ExplainsLast f entries Failed = Unit {0}
ExplainsLast f entries NoMemory = Unit {0}

-- A file is no log of versions at a place: it is no log there, or a log of the second form, or its entries end with no version.
pub data IsNoVersions (file : Option (List ℕ)) (at : ℕ) : Type 0 where
  no_log : LogIsDamagedAt at (bytes_or_none file) → IsNoVersions file at
  other_form : at ≡ 0 → (entries : List (List ℕ)) → IsLog Two entries file → IsNoVersions file at
  no_last : (entries : List (List ℕ)) → IsLog One entries file → IsBadLast entries at
      → IsNoVersions file at

-- Damaged names the file and the place.
abbrev pub ExplainsVersions : ℕ → Option (List ℕ) → LogFault → Type 0
ExplainsVersions f file (Damaged g at) = (g ≡ f) × IsNoVersions file at
ExplainsVersions f file Failed = Unit {0}
ExplainsVersions f file NoMemory = Unit {0}
