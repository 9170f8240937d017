-- What work between requests leaves: the rows that live families show.
use Rattle.std.specs.Prelude.{◌≡◌, ◌≢◌, ◌⊎◌, ◌<◌, ◌≤◌, ◌+◌, ◌-◌, ◌*◌, ◌^◌, ℕ, List, min, None}
use Rattle.std.specs.FinMap.{empty, entries}
use Rattle.alt_faults.specs.Faults.{IsUndamaged, Tells}
use Rattle.alt_manifest.specs.Versions.{HasVersion, IsIn, RiseFrom}
use Rattle.alt_manifest.specs.declared.version.Version.{Version}
use Rattle.alt_layout.specs.Files.{Image, IsLayout}
use Rattle.alt_layout.specs.Fresh.{versions_file}
use Rattle.alt_layout.specs.Layout.{Layout, shown}
use Rattle.alt_layout.specs.Sizes.{SegmentsAreSized}
use Rattle.alt_families.specs.Families.{rows_in}
use Rattle.alt_hand.specs.Drafting.{MemoryIsFlushed, IsSpentFor, files_for, files_needed}
use Rattle.alt_hand.specs.Faults.{told_by_engine}
use Rattle.alt_hand.specs.InHand.{bytes_in_memory, family_of, length_of, limits_of, next_file_of}
use Rattle.alt_hand.specs.declared.hand.Hand.{Hand}
use Rattle.alt_drafts.specs.declared.fault.EngineFault.{EngineFault}

-- The families that are live, in the order of their numbers; that of the catalog is the first.
pub record AreLive (live : List ℕ) : Type 0 where
  pub rising : RiseFrom 0 live
  pub catalog : IsIn live 0

-- After work each live family shows what it showed, any other what it showed or nothing, and the next write has the number that it had.
pub record Works (live : List ℕ) (l m : Layout) : Type 0 where
  pub number : m.next_number ≡ l.next_number
  pub lives : (family : ℕ) → IsIn live family → (key : List ℕ)
      → shown m family key ≡ shown l family key
  pub others : (family : ℕ) → ((key : List ℕ) → shown m family key ≡ shown l family key)
      ⊎ ((key : List ℕ) → shown m family key ≡ None)

-- A stop at a moment leaves a layout that is that of the rows, but for work on it.
pub record IsWorked (live : List ℕ) (l : Layout) (image : Image) : Type 0 where
  pub layout : Layout
  pub is : IsLayout image layout
  pub works : Works live l layout

-- At each moment.
abbrev pub WorksIn : List ℕ → Layout → ℕ → Image → Type 0
WorksIn live l t image = IsWorked live l image

-- The segments that the last version names have entries of this many bytes together.
pub record HasEntries (files : Image) (bytes : ℕ) : Type 0 where
  pub version : Version
  pub last : HasVersion version (files versions_file)
  pub segments : SegmentsAreSized files version.segments bytes

-- ---- What applies.

-- The family has rows of so many bytes in memory that it is flushed.
abbrev pub FamilyIsFull : Hand → ℕ → Type 0
FamilyIsFull e family = (limits_of e).flush ≤ bytes_in_memory (family_of e family)

-- It is the lowest live one.
pub record IsFirstFull (live : List ℕ) (e : Hand) (family : ℕ) : Type 0 where
  pub lives : IsIn live family
  pub full : FamilyIsFull e family
  pub first : (other : ℕ) → IsIn live other → other < family → FamilyIsFull e other → ⊥

-- From so many bytes of entries on a step flushes all families: 16 times those at which one is flushed, and 2^62 at most.
abbrev pub most_entries : ℕ → ℕ
most_entries flush = min (16 * flush) (2 ^ 62)

-- No live family is full.
abbrev pub IsCalm : List ℕ → Hand → Type 0
IsCalm live e = (family : ℕ) → IsIn live family → FamilyIsFull e family → ⊥

-- The log in hand is so long that a step flushes all, or it is shorter.
abbrev pub IsLong : Hand → Type 0
IsLong e = most_entries (limits_of e).flush ≤ length_of e

abbrev pub LogIsShort : Hand → Type 0
LogIsShort e = length_of e < most_entries (limits_of e).flush

-- ---- What is done.

-- All live families were flushed, and no other has rows in memory. Each file that was made took the next number: one for each family that had rows, and
-- one for the log.
pub record AreAllFlushed (live : List ℕ) (old new : Hand) : Type 0 where
  pub lives : (family : ℕ) → IsIn live family
      → MemoryIsFlushed (family_of old family) (family_of new family)
  pub others : (family : ℕ) → IsIn live family ⊎ (rows_in (family_of new family) ≡ empty)
  pub file : next_file_of new ≡ next_file_of old + files_needed old.families live + 1

-- One live family was flushed, each other is as it was, and no family that isn't live has rows in memory. The file that was made took the next number.
pub record IsOneFlushed (live : List ℕ) (old new : Hand) (family : ℕ) : Type 0 where
  pub it : MemoryIsFlushed (family_of old family) (family_of new family)
  pub lives : (other : ℕ) → IsIn live other → other ≢ family
      → family_of new other ≡ family_of old other
  pub others : (other : ℕ) → IsIn live other ⊎ (rows_in (family_of new other) ≡ empty)
  pub file : next_file_of new
      ≡ next_file_of old + files_for (entries (rows_in (family_of old family)))

-- What a step flushed: all where the log was long, and else the lowest live family that was full.
abbrev pub IsFlushDone : List ℕ → Hand → Hand → Type 0
IsFlushDone live old new = (IsLong old × AreAllFlushed live old new)
    ⊎ (LogIsShort old × ((family : ℕ) × IsFirstFull live old family × IsOneFlushed live old new family))

-- ---- Faults.

-- A fault that tells a spent number names file 2^32 - 1.
abbrev pub IsFileSpent : EngineFault → Type 0
IsFileSpent f = Tells (λ number. number ≡ 2 ^ 32 - 1) (λ damage. Unit {0}) (told_by_engine f)

-- A flush of all tells a spent number only where the files that it takes go beyond that one: one for each live family with rows in memory, and one for the
-- log.
abbrev pub IsAllFor : List ℕ → Hand → EngineFault → Type 0
IsAllFor live e fault = IsSpentFor (next_file_of e + files_needed e.families live + 1) fault

-- A flush of a step does where the log is long, and else where the file of the lowest live family that is full goes beyond it.
abbrev pub IsDueFor : List ℕ → Hand → EngineFault → Type 0
IsDueFor live e fault = (IsLong e × IsAllFor live e fault)
    ⊎ (LogIsShort e × ((family : ℕ) × IsFirstFull live e family
    × IsSpentFor (next_file_of e + files_for (entries (rows_in (family_of e family)))) fault))

-- It tells of no damage.
abbrev pub TellsNoDamage : EngineFault → Type 0
TellsNoDamage f = IsUndamaged (told_by_engine f)
