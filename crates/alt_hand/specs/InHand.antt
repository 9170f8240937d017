-- An engine in hand over files, and the disk on which they lie.
use Rattle.std.specs.Prelude.{◌≡◌, ◌⊎◌, ◌≤◌, ◌+◌, ◌-◌, ◌^◌, ℕ, List, map, max, min, Option, None, ◌<◌, false}
use Rattle.std.specs.BTreeMap.{get}
use Rattle.std.specs.FinMap.{empty}
use Rattle.std.specs.Ordering.{nat_cmp}
use Rattle.alt_cells.specs.declared.batch.RowChange.{RowChange}
use Rattle.alt_disk.specs.Disk.{DiskState, IsSettled}
use Rattle.alt_gatelog.specs.InHand.{file_of_gate_log as log_file, form_of, ReadsEntries as LogReads}
use Rattle.alt_gatelog.specs.declared.form.Form.{Form}
use Rattle.alt_gatelog.specs.declared.form.Form.TheVariants.{One, Two}
use Rattle.alt_gatelog.specs.declared.gatelog.GateLog.{GateLog}
use Rattle.alt_layout.specs.Layout.{Layout, RowMap}
use Rattle.alt_writes.specs.Writes.{Write, numbered}
use Rattle.alt_layout.specs.Entries.{HoldWrites}
use Rattle.alt_layout.specs.Sizes.{SegmentsAreSized}
use Rattle.alt_layout.specs.Fresh.{versions_file}
use Rattle.alt_memtable.specs.Rows.{most_bytes}
use Rattle.alt_manifest.specs.InHand.{file_of_manifest as manifest_file, version_of, ReadsVersion as ManifestReads}
use Rattle.alt_layout.specs.Families.{Held, flushed_of, files_of, layout_of, with_later}
use Rattle.alt_layout.specs.Files.{EndsWith, Image, IsLayout, IsOf, Stored, all_of}
use Rattle.alt_layout.specs.Writes.{with_write, with_writes}
use Rattle.alt_hand.specs.declared.hand.Hand.{Hand}
use Rattle.alt_drafts.specs.declared.fault.EngineFault.{EngineFault}
use Rattle.alt_hand.specs.Faults.{told_by_engine}
use Rattle.alt_faults.specs.Faults.{OnlySpent}
use Rattle.alt_families.specs.Families.{rows_in, files_in}
use Rattle.alt_families.specs.declared.family.Family.{Family}
use Rattle.alt_hand.specs.declared.hand.Limits.{Limits}
pub use Rattle.alt_drafts.specs.InHand.{AreBelow, AreOpen, bytes_in_memory}

-- The family of this number, if the engine has one.
abbrev pub family_of : Hand → ℕ → Option Family
family_of e family = get nat_cmp e.families family

-- What the row files hold that the engine's version names for a family.
abbrev pub file_rows : Hand → Held → ℕ → List RowMap
file_rows e held family = map held (files_of (version_of e.manifest).families family)

-- The number of the engine's next write.
abbrev pub next_of : Hand → ℕ
next_of e = e.next

-- From how many bytes on a family is flushed, and from how many files on merged.
abbrev pub limits_of : Hand → Limits
limits_of e = e.limits

-- The number of the next file that it makes.
abbrev pub next_file_of : Hand → ℕ
next_file_of e = e.next_file

-- The form of its last segment.
abbrev pub last_form_of : Hand → Form
last_form_of e = form_of e.log

-- How many files a write makes: behind a segment of the first form it makes one of the second.
abbrev pub files_made : Form → ℕ
files_made One = 1
files_made Two = 0

-- The number of the first file that work makes: behind a segment of the first form the first write makes one before.
abbrev pub work_file_of : Hand → ℕ
work_file_of e = next_file_of e + files_made (last_form_of e)

-- The bytes of the entries of all segments, counted up to 2^62.
abbrev pub length_of : Hand → ℕ
length_of e = e.length

-- The entries of these segments have so many bytes together, counted up to 2^62.
pub record IsLength (image : Image) (segments : List ℕ) (length : ℕ) : Type 0 where
  pub bytes : ℕ
  pub sized : SegmentsAreSized image segments bytes
  pub is : length ≡ min bytes most_bytes

-- The log in hand is that of its file as it reads, and its entries hold these writes.
pub record LogHolds (s : DiskState) (log : GateLog) (ws : List Write) : Type 0 where
  pub entries : List (List ℕ)
  pub reads : LogReads s log entries
  pub holds : HoldWrites (form_of log) entries ws

-- The engine is that of this layout as the disk reads: the files that the version in hand names hold it, each is the one in hand, and memory has what
-- the log has and no row file. No file is there from the next one on. Where it says that no family is full, none is.
pub record HandReadsLayout (s : DiskState) (e : Hand) (l : Layout) : Type 0 where
  pub held : Held
  pub parts : List (List Write)
  pub writes : List Write
  pub versions : ManifestReads s e.manifest
  pub first : manifest_file e.manifest ≡ versions_file
  pub stored : Stored s.file (version_of e.manifest) held parts
  pub ends : EndsWith (version_of e.manifest) parts (log_file e.log) writes
  pub log : LogHolds s e.log writes
  pub is : l ≡ layout_of (version_of e.manifest) held (all_of parts)
  pub next : e.next ≡ l.next_number
  pub length : IsLength s.file (version_of e.manifest).segments e.length
  pub free : (version_of e.manifest).next_file ≤ e.next_file
  pub fresh : (f : ℕ) → e.next_file ≤ f → s.file f ≡ None
  pub memory : (family : ℕ) → rows_in (family_of e family)
      ≡ with_later (flushed_of (version_of e.manifest).families family) family empty (all_of parts)
  pub opened : (family : ℕ) → AreOpen s held (files_of (version_of e.manifest).families family)
      (files_in (family_of e family))
  pub calm : e.full ≡ false → AreBelow e.limits.flush e.families

-- The engine is that of this layout, and a stop now leaves of each of these files what reads give.
pub record HandStandsForLayout (s : DiskState) (e : Hand) (l : Layout) : Type 0 where
  pub reads : HandReadsLayout s e l
  pub settled : (f : ℕ) → IsOf (version_of e.manifest) f → IsSettled s f

-- The write of a batch has the next number.
abbrev pub batch_write : Layout → List RowChange → Write
batch_write l changes = record { number = l.next_number; changes = changes }

-- The image has the layout before, or the one with the batch.
abbrev pub BeforeOrWith : Layout → List RowChange → ℕ → (ℕ → Option (List ℕ)) → Type 0
BeforeOrWith l changes t image = IsLayout image l
    ⊎ IsLayout image (with_write l (batch_write l changes))

-- The writes of batches have the next number and those behind it, in order.
abbrev pub batch_writes : Layout → List (List RowChange) → List Write
batch_writes l batches = numbered l.next_number batches

-- The image has the layout before, or the one with all batches.
abbrev pub BeforeOrAll : Layout → List (List RowChange) → ℕ → (ℕ → Option (List ℕ)) → Type 0
BeforeOrAll l batches t image = IsLayout image l
    ⊎ IsLayout image (with_writes l (batch_writes l batches))

-- One of so many numbers from the next one on is 2^62 - 1, and it is named.
abbrev pub WantsNumber : ℕ → ℕ → ℕ → Type 0
WantsNumber next count number =
    (2 ^ 62 - 1 < next + count) × (number ≡ max next (2 ^ 62 - 1))

-- Behind a segment of the first form the next file is 2^32 - 1, and it is named.
abbrev pub WantsFile : Form → ℕ → ℕ → Type 0
WantsFile One file number = (2 ^ 32 - 1 ≤ file) × (number ≡ file) × (number ≡ 2 ^ 32 - 1)
WantsFile Two file number = ⊥

-- A fault that tells a spent number tells one of so many writes, or else the file of the segment that they want; and no damage is told.
abbrev pub IsSpentBy : Hand → ℕ → EngineFault → Type 0
IsSpentBy e count f = OnlySpent (λ number. WantsNumber (next_of e) count number
    ⊎ ((next_of e + count ≤ 2 ^ 62 - 1) × WantsFile (last_form_of e) (next_file_of e) number))
    (told_by_engine f)

-- An entry touches any file but the one of the versions.
abbrev pub IsWritten : ℕ → Type 0
IsWritten f = f ≡ versions_file → ⊥
