-- Work on the store between two turns, which changes no state, and what the server does by itself. Neither says or takes anything.
use Rattle.std.specs.Prelude.{◌≡◌, ◌<◌, ◌*◌, ℕ, List}
use Rattle.alt_disk.specs.Disk.{DiskState, Goes, IsTrusted}
use Rattle.alt_tables.specs.HandWorking.{HasEntries}
use Rattle.alt_tables.specs.EngineDeclaredTask.{Task}
use Rattle.alt_tables.specs.EngineDeclaredTask.TheVariants.{Step, FlushAll, MergeAll}
use Rattle.alt_machine.specs.State.{State}
use Rattle.alt_tables.specs.Images.{StandsFor}
use Rattle.alt_tables.specs.Merged.{IsMergedFor}
use Rattle.alt_talks.specs.Stops.{AtEach, IsAmong}

-- Work on a store that stands for a state: calls of the disk alone, and whatever a stop leaves at a moment of them stands for that state.
pub record WorksOnStore (old new : DiskState) (s : State) : Type 0 where
  pub goes : Goes old new
  pub leaves : AtEach old new (λ _ image. StandsFor image s)

-- What the server does by itself from a state: calls of the disk alone, and whatever a stop leaves at a moment of them stands for the
-- state after some of these writes, none or all of them.
pub record Follows (old new : DiskState) (s : State) (own : List State) : Type 0 where
  pub goes : Goes old new
  pub leaves : AtEach old new (λ _ image. IsAmong image s own)

-- On a disk that can be relied on, the lengths of the entries of the segments that the last version names add up to fewer than 16 times
-- so many bytes, one or more.
abbrev pub HasFewEntries : ℕ → DiskState → Type 0
HasFewEntries flush disk =
    0 < flush → IsTrusted disk → (n : ℕ) → HasEntries disk.file n → n < 16 * flush

-- These segments have no entries.
abbrev pub HasNoEntries : DiskState → Type 0
HasNoEntries disk = IsTrusted disk → (n : ℕ) → HasEntries disk.file n → n ≡ 0

-- Of the state for which the files stand each live family has one row file at most, without tombstones, and so without hidden cells.
abbrev pub HasMergedFiles : DiskState → Type 0
HasMergedFiles disk =
    IsTrusted disk → (s : State) → StandsFor disk.file s → IsMergedFor s disk.file

-- What a task leaves of them, where a family is flushed from so many bytes on.
abbrev pub AfterWork : Task → ℕ → DiskState → Type 0
AfterWork Step flush disk = HasFewEntries flush disk
AfterWork FlushAll flush disk = HasNoEntries disk
AfterWork MergeAll flush disk = HasMergedFiles disk
