-- Which image of a past moment a list of bytes picks: file by file, in rising order of the files.
use Rattle.std.specs.Prelude.{◌-◌, ◌==◌, ◌||◌, cond, ℕ, zero, suc, Bool, true, false, List, [], ◌∷◌, ◌++◌, length, get_or, drop, Option, Some, None}
use Rattle.alt_disk.specs.Fates.{Shape, Fates, missing, synced}
use Rattle.alt_disk.specs.Disk.{bytes_or_none}
use Rattle.alt_disk.specs.Memory.{Track, nothing, at_moment}
use Rattle.alt_disk.specs.declared.memory.MemoryDisk.{MemoryDisk}

-- the byte of choice that comes next, 0 where it has run out
abbrev pub next : List ℕ → ℕ
next choice = get_or choice 0 0

-- a file that a stop may leave, and the length that a read of it then gave or, where it had been removed, just before
pub record Generation : Type 0 where
  pub shape : Shape
  pub size : ℕ

-- those that were removed since the last sync, the latest first
abbrev pub removed_ones : List (Option Shape) → List ℕ → List Generation
removed_ones [] sizes = []
removed_ones (None ∷ others) sizes = removed_ones others sizes
removed_ones (Some shape ∷ others) sizes = record {
  shape = shape;
  size =
      next sizes;
} ∷ removed_ones others (drop 1 sizes)

-- with the one that is there
abbrev pub with_last : Option Shape → ℕ → List Generation → List Generation
with_last None size removed = removed
with_last (Some shape) size removed = record { shape = shape; size = size } ∷ removed

-- the files that a stop may leave under a number, the one last made first
abbrev pub generations : Track → List Generation
generations s = with_last s.fates.last (length (bytes_or_none s.bytes))
    (removed_ones s.fates.others s.lengths)

-- a file that may be missing
abbrev pub is_missing : Option Shape → Bool
is_missing None = true
is_missing (Some shape) = false

-- one of several
abbrev pub any_missing : List (Option Shape) → Bool
any_missing [] = false
any_missing (s ∷ shapes) = is_missing s || any_missing shapes

-- a stop may leave no file
abbrev pub may_miss : Fates → Bool
may_miss fates = is_missing fates.last || any_missing fates.others

-- the one before, where there is one
abbrev pub old_or : Generation → List Generation → Generation
old_or last [] = last
old_or last (old ∷ more) = old

-- by a byte: 0 is none, 2 the old one of a file that was removed and made again, any other the one last made
abbrev pub by_byte : ℕ → Generation → List Generation → Option Generation
by_byte byte last more = cond (byte == 0) None (Some (cond (byte == 2) (old_or last more) last))

-- which file is left; a byte decides where there may be one or none
abbrev pub chosen : Bool → List Generation → List ℕ → Option Generation
chosen miss [] choice = None
chosen false (last ∷ more) choice = Some last
chosen true (last ∷ more) choice = by_byte (next choice) last more

-- the choice behind it
abbrev pub behind_chosen : Bool → List Generation → List ℕ → List ℕ
behind_chosen miss [] choice = choice
behind_chosen false (last ∷ more) choice = choice
behind_chosen true (last ∷ more) choice = drop 1 choice

-- how many bytes the file has past its synced end: a byte decides where that is open, and 1 is up to what a read gave
abbrev pub past_end : Generation → List ℕ → ℕ
past_end g choice = cond g.shape.loose (cond (next choice == 1) (g.size - length g.shape.known)
    (next choice)) 0

-- the choice behind that
abbrev pub behind_length : Generation → List ℕ → List ℕ
behind_length g choice = cond g.shape.loose (drop 1 choice) choice

-- so many open bytes
abbrev pub open_bytes : ℕ → List (Option ℕ)
open_bytes zero = []
open_bytes (suc n) = None ∷ open_bytes n

-- each open byte is one of choice
abbrev pub filled : List (Option ℕ) → List ℕ → List ℕ
filled [] choice = []
filled (Some byte ∷ known) choice = byte ∷ filled known choice
filled (None ∷ known) choice = next choice ∷ filled known (drop 1 choice)

-- the choice behind them
abbrev pub behind_filled : List (Option ℕ) → List ℕ → List ℕ
behind_filled [] choice = choice
behind_filled (Some byte ∷ known) choice = behind_filled known choice
behind_filled (None ∷ known) choice = behind_filled known (drop 1 choice)

-- the bytes of the file that is left, known or open
abbrev pub laid : Generation → List ℕ → List (Option ℕ)
laid g choice = g.shape.known ++ open_bytes (past_end g choice)

-- the file that is left
abbrev pub left_file : Option Generation → List ℕ → Option (List ℕ)
left_file None choice = None
left_file (Some g) choice = Some (filled (laid g choice) (behind_length g choice))

-- the choice behind it
abbrev pub behind_left : Option Generation → List ℕ → List ℕ
behind_left None choice = choice
behind_left (Some g) choice = behind_filled (laid g choice) (behind_length g choice)

-- the file that the choice picks
abbrev pub picked : Track → List ℕ → Option (List ℕ)
picked s choice = left_file (chosen (may_miss s.fates) (generations s) choice)
    (behind_chosen (may_miss s.fates) (generations s) choice)

-- the choice that is left for the files behind
abbrev pub behind_picked : Track → List ℕ → List ℕ
behind_picked s choice = behind_left (chosen (may_miss s.fates) (generations s) choice)
    (behind_chosen (may_miss s.fates) (generations s) choice)

-- the choice that is left for a file by those below it
abbrev pub choice_at : (ℕ → Track) → ℕ → List ℕ → List ℕ
choice_at files zero choice = choice
choice_at files (suc f) choice = behind_picked (files f) (choice_at files f choice)

-- the image that the choice picks of these files
abbrev pub picked_image : (ℕ → Track) → List ℕ → ℕ → Option (List ℕ)
picked_image files choice f = picked (files f) (choice_at files f choice)

-- the files of a disk as a stop at a moment may leave them
abbrev pub files_at_stop : MemoryDisk → ℕ → ℕ → Track
files_at_stop d moment f = at_moment moment f d.history.calls.items

-- what a stop may leave of a file that was synced, or is missing for good
abbrev pub settled_fates : Option (List ℕ) → Fates
settled_fates None = missing
settled_fates (Some bytes) = synced bytes

-- a file that was synced, or is missing for good
abbrev pub settled : Option (List ℕ) → Track
settled None = nothing
settled (Some bytes) = record { bytes = Some bytes; fates = synced bytes; lengths = [] }
