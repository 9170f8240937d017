-- What a replay of writes makes of families, and why entries are none that can be replayed.
use Rattle.std.specs.Prelude.{◌≡◌, ◌⊎◌, ◌≤◌, ◌+◌, ◌++◌, ℕ, List, [], ◌∷◌, length, min, Option}
use Rattle.std.specs.BTreeMap.{BTreeMap, get}
use Rattle.std.specs.Ordering.{nat_cmp}
use Rattle.alt_disk.specs.Disk.{DiskState, bytes_or_none}
use Rattle.alt_families.specs.Families.{Families, files_in, rows_in}
use Rattle.alt_gatelog.specs.InHand.{file_of_gate_log, form_of, ReadsEntries}
use Rattle.alt_gatelog.specs.Log.{LogIsDamagedAt, IsLog, gate_place}
use Rattle.alt_gatelog.specs.declared.fault.LogFault.{LogFault}
use Rattle.alt_gatelog.specs.declared.fault.LogFault.TheVariants.{Damaged, Failed, NoMemory}
use Rattle.alt_gatelog.specs.declared.form.Form.{Form}
use Rattle.alt_gatelog.specs.declared.gatelog.GateLog.{GateLog}
use Rattle.alt_layout.specs.Entries.{HoldWrites, IsNoEntry}
use Rattle.alt_layout.specs.Families.{next_after, with_later, with_one_write}
use Rattle.alt_layout.specs.Files.{AreSegments, Image, all_of}
use Rattle.alt_layout.specs.Sizes.{SegmentsAreSized}
use Rattle.alt_memtable.specs.Rows.{most_bytes}
use Rattle.alt_writes.specs.Bytes.{AllHeld}
use Rattle.alt_writes.specs.Writes.{AreRising, Write}
use Rattle.alt_recovery.specs.Flushed.{flushed_in}
use Rattle.alt_recovery.specs.declared.replay.Replay.{Replay}

-- ---- What was replayed.

-- A write was joined to the rows in memory of each family whose flushed number is below it, and the files are as they were.
pub record IsJoinedTo (flushed : BTreeMap ℕ ℕ) (old new : Families) (w : Write) : Type 0 where
  pub rows : (f : ℕ) → rows_in (get nat_cmp new f)
      ≡ with_one_write (flushed_in flushed f) f (rows_in (get nat_cmp old f)) w
  pub files : (f : ℕ) → files_in (get nat_cmp new f) ≡ files_in (get nat_cmp old f)

-- These writes, whose numbers rise, were joined one after another, and so many bytes counted.
pub record Replays (old new : Replay) (ws : List Write) (bytes : ℕ) : Type 0 where
  pub held : AllHeld ws
  pub rising : AreRising old.least ws
  pub least : new.least ≡ next_after old.least ws
  pub length : old.length ≤ most_bytes → new.length ≡ min (old.length + bytes) most_bytes
  pub flushed : new.flushed ≡ old.flushed
  pub rows : (f : ℕ) → rows_in (get nat_cmp new.families f)
      ≡ with_later (flushed_in old.flushed f) f (rows_in (get nat_cmp old.families f)) ws
  pub files : (f : ℕ) → files_in (get nat_cmp new.families f) ≡ files_in (get nat_cmp old.families f)

-- So were those of these segments, and the log in hand is that of the last one.
pub record ReplaysLast (s : DiskState) (segments : List ℕ) (old new : Replay)
    (log : GateLog) : Type 0 where
  pub firsts : List ℕ
  pub fronts : List (List Write)
  pub writes : List Write
  pub entries : List (List ℕ)
  pub bytes : ℕ
  pub segments_are : segments ≡ firsts ++ file_of_gate_log log ∷ []
  pub are : AreSegments s.file segments (fronts ++ writes ∷ [])
  pub sized : SegmentsAreSized s.file segments bytes
  pub reads : ReadsEntries s log entries
  pub holds : HoldWrites (form_of log) entries writes
  pub replays : Replays old new (all_of (fronts ++ writes ∷ [])) bytes

-- ---- Why not.

-- Behind entries that hold writes with rising numbers an entry holds none with later ones.
pub record IsBadEntry (form : Form) (entries : List (List ℕ)) (least at : ℕ) : Type 0 where
  pub front : List (List ℕ)
  pub writes : List Write
  pub entry : List ℕ
  pub behind : List (List ℕ)
  pub is : entries ≡ front ++ entry ∷ behind
  pub holds : HoldWrites form front writes
  pub held : AllHeld writes
  pub rising : AreRising least writes
  pub none : IsNoEntry form (next_after least writes) entry
  pub place : at ≡ gate_place entries (length front)

-- Damaged names the file and the place of such an entry.
abbrev pub ExplainsBadEntry : Form → ℕ → List (List ℕ) → ℕ → LogFault → Type 0
ExplainsBadEntry form f entries least (Damaged file at) =
    (file ≡ f) × IsBadEntry form entries least at
ExplainsBadEntry form f entries least Failed = Unit {0}
ExplainsBadEntry form f entries least NoMemory = Unit {0}

-- The file is no log at the place, or one with such an entry.
abbrev pub IsBadSegment : ℕ → Option (List ℕ) → ℕ → Type 0
IsBadSegment least file at = LogIsDamagedAt at (bytes_or_none file)
    ⊎ ((form : Form) × (entries : List (List ℕ)) × IsLog form entries file
    × IsBadEntry form entries least at)

-- Damaged names it.
abbrev pub ExplainsSegment : ℕ → ℕ → Option (List ℕ) → LogFault → Type 0
ExplainsSegment f least file (Damaged g at) = (g ≡ f) × IsBadSegment least file at
ExplainsSegment f least file Failed = Unit {0}
ExplainsSegment f least file NoMemory = Unit {0}

-- One of these segments is such a file, behind others whose writes rise.
pub record IsBadAmong (image : Image) (segments : List ℕ) (least f at : ℕ) : Type 0 where
  pub before : List ℕ
  pub behind : List ℕ
  pub parts : List (List Write)
  pub is : segments ≡ before ++ f ∷ behind
  pub are : AreSegments image before parts
  pub held : AllHeld (all_of parts)
  pub rising : AreRising least (all_of parts)
  pub bad : IsBadSegment (next_after least (all_of parts)) (image f) at

-- Damaged names it and the place.
abbrev pub ExplainsSegments : Image → List ℕ → ℕ → LogFault → Type 0
ExplainsSegments image segments least (Damaged f at) = IsBadAmong image segments least f at
ExplainsSegments image segments least Failed = Unit {0}
ExplainsSegments image segments least NoMemory = Unit {0}
