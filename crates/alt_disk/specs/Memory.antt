-- What a disk in memory is, by the list of its writes, syncs and removals.
use Rattle.std.specs.Prelude.{◌≡◌, ◌+◌, ◌<◌, ◌≤◌, ◌==◌, nat_le, cond, ℕ, List, [], ◌∷◌, length, Option, Some, None}
use Rattle.std.specs.List.{All, filter}
use Rattle.alt_disk.specs.Fates.{Fates, missing, synced, wrote, removed, half_removed}
use Rattle.alt_disk.specs.Disk.{overwritten, bytes_or_none}
use Rattle.alt_disk.specs.declared.made.Deed.{Deed}
use Rattle.alt_disk.specs.declared.made.Deed.TheVariants.{Write, WriteFailed, Sync, Remove, RemoveFailed}
use Rattle.alt_disk.specs.declared.made.Made.{Made}

-- what reads give of a file after a call on it; a call that failed leaves it
abbrev pub bytes_after : Deed → Option (List ℕ) → Option (List ℕ)
bytes_after (Write at bytes) old = Some (overwritten (bytes_or_none old) at bytes.items)
bytes_after (WriteFailed at count) old = old
bytes_after Sync old = old
bytes_after Remove old = None
bytes_after RemoveFailed old = old

-- what a stop may leave of it then; a sync and a removal do nothing to a missing file
abbrev pub fates_after : Deed → Option (List ℕ) → Fates → Fates
fates_after (Write at bytes) old fates = wrote at (length bytes.items) fates
fates_after (WriteFailed at count) old fates = wrote at count fates
fates_after Sync None fates = fates
fates_after Sync (Some bytes) fates = synced bytes
fates_after Remove None fates = fates
fates_after Remove (Some bytes) fates = removed fates
fates_after RemoveFailed None fates = fates
fates_after RemoveFailed (Some bytes) fates = half_removed fates

-- the lengths that the files removed since the last sync had just before, the latest first
abbrev pub lengths_after : Deed → Option (List ℕ) → List ℕ → List ℕ
lengths_after (Write at bytes) old lengths = lengths
lengths_after (WriteFailed at count) old lengths = lengths
lengths_after Sync None lengths = lengths
lengths_after Sync (Some bytes) lengths = []
lengths_after Remove None lengths = lengths
lengths_after Remove (Some bytes) lengths = length bytes ∷ lengths
lengths_after RemoveFailed old lengths = lengths

-- a file: as reads give it, as a stop may leave it, and the lengths of those removed
pub record Track : Type 0 where
  pub bytes : Option (List ℕ)
  pub fates : Fates
  pub lengths : List ℕ

-- a file that never was
abbrev pub nothing : Track
nothing = record { bytes = None; fates = missing; lengths = [] }

-- a file after a call on it
abbrev pub track_after : Deed → Track → Track
track_after deed s = record {
  bytes = bytes_after deed s.bytes;
  fates =
      fates_after deed s.bytes s.fates;
  lengths = lengths_after deed s.bytes s.lengths;
}

-- a call is of one file
abbrev pub after_call : ℕ → Made → Track → Track
after_call f made s = cond (made.file == f) (track_after made.deed s) s

-- a file after calls in a row
abbrev pub replay : ℕ → Track → List Made → Track
replay f s [] = s
replay f s (made ∷ calls) = replay f (after_call f made s) calls

-- the calls that show by a moment
abbrev pub calls_until : ℕ → List Made → List Made
calls_until t calls = filter (λ made. nat_le made.time t) calls

-- a file at a moment
abbrev pub at_moment : ℕ → ℕ → List Made → Track
at_moment t f calls = replay f nothing (calls_until t calls)

-- a call that shows by a moment
abbrev pub Timed : ℕ → Made → Type 0
Timed t made = made.time ≤ t

-- the bytes that it wrote
abbrev pub bytes_written : Deed → List ℕ
bytes_written (Write at bytes) = bytes.items
bytes_written (WriteFailed at count) = []
bytes_written Sync = []
bytes_written Remove = []
bytes_written RemoveFailed = []

-- what it wrote are bytes
abbrev pub WritesBytes : Deed → Type 0
WritesBytes deed = All (λ b. b < 256) (bytes_written deed)

-- what a call wrote are bytes
abbrev pub HasBytes : Made → Type 0
HasBytes made = WritesBytes made.deed

-- what it did leaves every file as it reads
abbrev pub LeavesReads : Deed → Type 0
LeavesReads deed = (bytes : Option (List ℕ)) → bytes_after deed bytes ≡ bytes

-- how many calls from a moment on are still to fail by the list
abbrev pub to_fail_from : ℕ → List ℕ → ℕ
to_fail_from moment [] = 0
to_fail_from moment (t ∷ fails) = cond (nat_le moment t) 1 0 + to_fail_from moment fails
