-- What an engine's new version says, and what becomes of the files of the one before.
use Rattle.std.specs.Prelude.{◌≡◌, ◌⊎◌, ◌<◌, ◌+◌, ◌-◌, ◌++◌, ℕ, List, [], ◌∷◌, None}
use Rattle.std.specs.FinMap.{empty}
use Rattle.alt_disk.specs.Disk.{DiskState}
use Rattle.alt_gatelog.specs.InHand.{file_of_gate_log as log_file, form_of}
use Rattle.alt_gatelog.specs.declared.form.Form.{Form}
use Rattle.alt_gatelog.specs.declared.form.Form.TheVariants.{One, Two}
use Rattle.alt_layout.specs.Files.{Image, IsOf}
use Rattle.alt_layout.specs.Fresh.{versions_file}
use Rattle.alt_manifest.specs.Versions.{HasVersion, IsIn, numbers_of}
use Rattle.alt_manifest.specs.declared.version.Version.{Version}
use Rattle.alt_hand.specs.InHand.{family_of, next_file_of, next_of}
use Rattle.alt_hand.specs.Merging.{memory_at, version_in}
use Rattle.alt_hand.specs.declared.hand.Hand.{Hand}
pub use Rattle.alt_drafts.specs.Drafting.{IsLeftOut, IsThere}

-- ---- Files.

-- A version was added: its next file is the engine's, and files that the last one named and that it doesn't name are gone.
pub record AddsVersion (s : DiskState) (old new : Hand) : Type 0 where
  pub next_file : (version_in new).next_file ≡ next_file_of new
  pub removed : (f : ℕ) → IsOf (version_in old) f → (IsOf (version_in new) f → ⊥)
      → s.file f ≡ None

-- Below this number no file is there that wasn't.
abbrev pub MakesNone : DiskState → DiskState → ℕ → Type 0
MakesNone a b next = (f : ℕ) → f < next → a.file f ≡ None → b.file f ≡ None

-- ---- Moments.

-- The last version is this one.
abbrev pub HasLast : Version → ℕ → Image → Type 0
HasLast v t image = HasVersion v (image versions_file)

-- It is one of two.
abbrev pub HasOneOf : Version → Version → ℕ → Image → Type 0
HasOneOf v w t image =
    HasVersion v (image versions_file) ⊎ HasVersion w (image versions_file)

-- ---- Families that aren't live.

-- The new version names the segments of the last one, and those families that were there without files, flushed up to the last write; and no family that
-- isn't live has rows in memory.
pub record LeavesOut (live : List ℕ) (old new : Hand) : Type 0 where
  pub segments : (version_in new).segments ≡ (version_in old).segments
  pub named : (family : ℕ) → (IsIn live family → ⊥)
      → IsThere (version_in old) (family_of old family) family
      → IsLeftOut (version_in new) family (next_of old - 1)
  pub emptied : (family : ℕ) → (IsIn live family → ⊥)
      → memory_at new family ≡ empty

-- ---- A flush of all.

-- The new version names a new segment alone, of the second form, so none of the old ones, and no family that isn't live.
pub record IsOverNewLog (live : List ℕ) (old new : Hand) : Type 0 where
  pub segment : ℕ
  pub segments : (version_in new).segments ≡ segment ∷ []
  pub last : next_file_of new ≡ segment + 1
  pub log : log_file new.log ≡ segment
  pub form : form_of new.log ≡ Two
  pub left : (f : ℕ) → IsIn (version_in old).segments f → IsOf (version_in new) f → ⊥
  pub only : (family : ℕ) → IsIn (numbers_of (version_in new).families) family
      → IsIn live family

-- ---- A segment more.

-- The new version names a new segment of the second form behind the others, and the families of the last one.
pub record IsSegmentMore (old new : Hand) : Type 0 where
  pub segments : (version_in new).segments ≡ (version_in old).segments ++ next_file_of old ∷ []
  pub families : (version_in new).families ≡ (version_in old).families
  pub number : (version_in new).next_number ≡ next_of old
  pub next_file : (version_in new).next_file ≡ next_file_of new
  pub last : next_file_of new ≡ next_file_of old + 1
  pub log : log_file new.log ≡ next_file_of old
  pub form : form_of new.log ≡ Two

-- Behind a segment of the first form a write makes one, and behind one of the second it adds no version.
abbrev pub IsBehind : Form → Hand → Hand → Type 0
IsBehind One old new = IsSegmentMore old new
IsBehind Two old new = (version_in new ≡ version_in old)
    × (next_file_of new ≡ next_file_of old) × (log_file new.log ≡ log_file old.log)
    × (form_of new.log ≡ Two)
