-- An engine and a draft of the next version, and what a call that is not done yet leaves in hand. Private contracts alone cite `DraftIsReady`, `IsLying`,
-- `IsSameHand`, `IsPrepared` and `with_memory_rows`.
use Rattle.std.specs.Prelude.{◌≡◌, ◌<◌, ◌-◌, ◌^◌, ℕ, Bool, List, Option, Some, None}
use Rattle.alt_disk.specs.Disk.{DiskState}
use Rattle.alt_flush.specs.Drafts.{renumbered, with_segment}
use Rattle.alt_gatelog.specs.InHand.{file_of_gate_log as log_file, form_of, HasPlace, IsFramed, SameLog}
use Rattle.alt_gatelog.specs.declared.form.Form.TheVariants.{One, Two}
use Rattle.alt_manifest.specs.InHand.{file_of_manifest as manifest_file, version_of, SameManifest, StandsForVersion as ManifestStands}
use Rattle.alt_manifest.specs.Versions.{version_bytes}
use Rattle.alt_manifest.specs.declared.manifest.Manifest.{Manifest}
use Rattle.alt_manifest.specs.declared.version.Version.{Version}
use Rattle.alt_writes.specs.Writes.{Write}
use Rattle.alt_layout.specs.Families.{Held, layout_of}
use Rattle.alt_layout.specs.Files.{EndsWith, Image, IsLayout, all_of}
use Rattle.alt_layout.specs.Fresh.{versions_file}
use Rattle.alt_layout.specs.Moments.{Lies}
use Rattle.alt_layout.specs.Layout.{Layout}
use Rattle.alt_families.specs.Families.{Families}
use Rattle.alt_hand.specs.InHand.{IsLength, LogHolds}
use Rattle.alt_hand.specs.declared.hand.Hand.{Hand}
use Rattle.alt_hand.specs.declared.renew.Renewal.{Renewal}
use Rattle.alt_drafts.specs.declared.fault.EngineFault.{EngineFault}
use Rattle.alt_hand.specs.Faults.{told_by_engine}
use Rattle.alt_faults.specs.Faults.{IsOutside}
pub use Rattle.alt_drafts.specs.Drafting.{AreDead, Empties, MemoryIsFlushed, IsSpentFor, Makes, files_for, files_needed, without_families}

-- Once the draft is its version, the engine stands for this layout.
pub record DraftIsReady (s : DiskState) (e : Hand) (u : Version) (l : Layout) : Type 0 where
  pub parts : List (List Write)
  pub writes : List Write
  pub makes : Makes s u e.families parts l
  pub manifest : ManifestStands s e.manifest
  pub first : manifest_file e.manifest ≡ versions_file
  pub ends : EndsWith u parts (log_file e.log) writes
  pub log : LogHolds s e.log writes
  pub length : IsLength s.file u.segments e.length
  pub next : e.next ≡ l.next_number

-- The store lies on the disk by the version in hand, with this layout.
pub record IsLying (s : DiskState) (m : Manifest) (l : Layout) : Type 0 where
  pub held : Held
  pub parts : List (List Write)
  pub lies : Lies s (version_of m) held parts
  pub is : l ≡ layout_of (version_of m) held (all_of parts)

-- An image has the layout, but for rows of families that aren't live.
pub record IsEmptied (live : List ℕ) (l : Layout) (image : Image) : Type 0 where
  pub layout : Layout
  pub is : IsLayout image layout
  pub empties : Empties live l layout

-- At each moment.
abbrev pub EmptiedIn : List ℕ → Layout → ℕ → Image → Type 0
EmptiedIn live l t image = IsEmptied live l image

-- The fault tells of no spent number, and of no damage.
abbrev pub EngineFaultIsOutside : EngineFault → Type 0
EngineFaultIsOutside f = IsOutside (told_by_engine f)

-- ---- A write.

-- A call left all as it was, but for memory that was taken.
pub record IsSameHand (old new : Hand) : Type 0 where
  pub manifest : SameManifest old.manifest new.manifest
  pub log : SameLog old.log new.log
  pub others : new ≡ record old { manifest = new.manifest; log = new.log }

-- Behind a segment of the first form the version is made that names one more, its file is free, and there is memory to add it; behind one of the second
-- there is memory for an entry.
abbrev pub IsPrepared : Hand → Option Renewal → Type 0
IsPrepared e None = (form_of e.log ≡ Two) × HasPlace e.log
IsPrepared e (Some r) = (form_of e.log ≡ One) × (e.next_file < 2 ^ 32 - 1)
    × HasPlace e.manifest.log × (r.draft ≡ with_segment (renumbered (version_of e.manifest) e.next_file e.next))
    × IsFramed r.block.items (version_bytes r.draft)

-- The same engine with other rows in memory.
abbrev pub with_memory_rows : Hand → Families → Bool → Hand
with_memory_rows e families full = record e { families = families; full = full }
