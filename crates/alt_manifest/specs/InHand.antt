-- A log of versions in hand, and the disk on which its file lies.
use Rattle.std.specs.Prelude.{◌≡◌, ◌⊎◌, ℕ, List, [], ◌∷◌, ◌++◌, Option}
use Rattle.alt_disk.specs.Disk.{DiskState, IsSettled}
use Rattle.alt_gatelog.specs.InHand.{file_of_gate_log as log_file, form_of, ReadsEntries as LogReads, SameLog}
use Rattle.alt_gatelog.specs.declared.form.Form.TheVariants.{One}
use Rattle.alt_manifest.specs.Versions.{HasVersion, IsVersion, version_bytes}
use Rattle.alt_manifest.specs.declared.manifest.Manifest.{Manifest}
use Rattle.alt_manifest.specs.declared.version.Version.{Version}

-- The number of the file that the log lies in.
abbrev pub file_of_manifest : Manifest → ℕ
file_of_manifest m = log_file m.log

-- The version in hand, which is the last one of the log.
abbrev pub version_of : Manifest → Version
version_of m = m.version

-- As the disk reads, the log's file is the log in hand, which is of the first form, and its last entry is the version in hand.
pub record ReadsVersion (s : DiskState) (m : Manifest) : Type 0 where
  pub before : List (List ℕ)
  pub log : LogReads s m.log (before ++ version_bytes (version_of m) ∷ [])
  pub form : form_of m.log ≡ One
  pub is : IsVersion (version_of m)

-- The log reads so, and a stop now leaves of its file what reads give.
pub record StandsForVersion (s : DiskState) (m : Manifest) : Type 0 where
  pub reads : ReadsVersion s m
  pub settled : IsSettled s (file_of_manifest m)

-- It is the same log in hand with the same version: a call left it as it was.
pub record SameManifest (old new : Manifest) : Type 0 where
  pub log : SameLog old.log new.log
  pub version : version_of new ≡ version_of old

-- The last version of the file is the one before, or the one that is added.
abbrev pub OldOrNew : Version → Version → ℕ → Option (List ℕ) → Type 0
OldOrNew old new t file = HasVersion old file ⊎ HasVersion new file
