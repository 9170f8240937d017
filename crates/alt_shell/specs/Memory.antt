-- What a shell in memory tells, and what it will give.
use Rattle.std.specs.Prelude.{◌≡◌, ℕ, Bool, true, false, List, [], ◌∷◌, if◌then◌else◌}
use Rattle.alt_disk.specs.declared.memory.MemoryDisk.{MemoryDisk}
use Rattle.alt_disk.specs.Disk.{DiskState, with_beside}
use Rattle.alt_base.specs.Counts.{next_moment}
use Rattle.alt_disk.specs.MemoryState.{state_of, fails_at}
use Rattle.alt_shell.specs.declared.memory.MemoryShell.{MemoryShell}
use Rattle.alt_shell.specs.States.{told_by, kept_entries, pieces_at_hand, pieces_aside, coming_of, added_to, is_to_fail, head_of_talk}
use Rattle.alt_shell.specs.Waiting.{pieces_of}
use Rattle.alt_shell.specs.Log.{Log, log, taken}
use Rattle.alt_shell.specs.Streams.{Streams, streams_of}

-- the entries of its calls
abbrev pub entries_by : MemoryShell → Log
entries_by s = kept_entries s.kept

-- it tells all: the notes until one finds no memory, and the moments and the entries always
abbrev pub log_of : MemoryShell → Log
log_of s = log (head_of_talk s.talks) (if s.tells_notes then 1 else 0, s.noted.items) (1, told_by s.clock) (entries_by s)

-- a disk's state with this count of faults
abbrev pub with_faults : ℕ → DiskState → DiskState
with_faults faults s = record s { faults = faults }

-- its state: that of its disk, with the log beside it; it counts the faults itself, from 0, since a call in a talk raises none
abbrev pub shell_state : MemoryShell → DiskState
shell_state s = with_faults s.faults (with_beside (log_of s) (state_of s.disk))

-- the pieces of standard input that are left, none of them empty
abbrev pub pieces : MemoryShell → List (List ℕ)
pieces s = pieces_of s.talks.standard.pieces

-- those that the talk at hand has left
abbrev pub talk_pieces : MemoryShell → List (List ℕ)
talk_pieces s = pieces_of s.talks.talk.pieces

-- those of the stream at hand: of the talk where one goes on, else of standard input
abbrev pub at_hand : MemoryShell → List (List ℕ)
at_hand s = pieces_at_hand s.talks

-- those of the other
abbrev pub aside : MemoryShell → List (List ℕ)
aside s = pieces_aside s.talks

-- the connections that will be accepted, each as its pieces
abbrev pub connections_coming : MemoryShell → List (List (List ℕ))
connections_coming s = coming_of s.talks

-- what was taken and said, stream by stream
abbrev pub streams : MemoryShell → Streams
streams s = streams_of (entries_by s)

-- how many connections were added
abbrev pub connections_added : MemoryShell → ℕ
connections_added s = added_to s.talks

-- whether the call of this number, of the takes and says in talks, is to fail
abbrev pub fails_talk : MemoryShell → ℕ → Bool
fails_talk s call = is_to_fail s.talks call

-- how many such calls there were
abbrev pub talk_calls : MemoryShell → ℕ
talk_calls s = s.talks.calls

-- the moments that are left to tell
abbrev pub clock_left : MemoryShell → List ℕ
clock_left s = s.clock.ahead.items

-- the moment that is told where none is left
abbrev pub last_moment : MemoryShell → ℕ
last_moment s = s.clock.last

-- the disk in it
abbrev pub disk_in : MemoryShell → MemoryDisk
disk_in s = s.disk

-- What a call leaves that neither takes standard input nor tells a moment: the pieces that are left, and the moments to tell.
pub record SameInput (old new : MemoryShell) : Type 0 where
  pub pieces_stay : pieces new ≡ pieces old
  pub moments_stay : clock_left new ≡ clock_left old
  pub last_stays : last_moment new ≡ last_moment old

-- What a call leaves that begins and ends no talk, and adds nothing to one: the connections to come, and the list of calls that are to fail.
pub record SameComing (old new : MemoryShell) : Type 0 where
  pub coming_stays : connections_coming new ≡ connections_coming old
  pub added_stays : connections_added new ≡ connections_added old
  pub fails_stay : (n : ℕ) → fails_talk new n ≡ fails_talk old n

-- What a call leaves that also takes nothing in a talk.
pub record SameTalk (old new : MemoryShell) : Type 0 where
  pub talk_stays : talk_pieces new ≡ talk_pieces old
  pub others : SameComing old new
  pub calls_stay : talk_calls new ≡ talk_calls old

-- whether the take or say that is made next is to fail: in a talk by the list of these calls, else by the disk's
abbrev pub fails_now : MemoryShell → Bool
fails_now s =
    if s.talks.talking then fails_talk s (talk_calls s) else fails_at s.disk (state_of s.disk).moment

-- a take or say is counted in a talk alone
abbrev pub CallCounted : MemoryShell → MemoryShell → Type 0
CallCounted old new = talk_calls new
    ≡ (if old.talks.talking then next_moment (talk_calls old) else talk_calls old)

-- What a call leaves of the list of calls in talks that are to fail, and of their count.
pub record SameList (old new : MemoryShell) : Type 0 where
  pub fails_stay : (n : ℕ) → fails_talk new n ≡ fails_talk old n
  pub calls_stay : talk_calls new ≡ talk_calls old

-- what a call leaves of the notes
pub record SameNotes (old new : MemoryShell) : Type 0 where
  pub noted_stays : new.noted.items ≡ old.noted.items
  pub tells_stay : new.tells_notes ≡ old.tells_notes

-- What a take or say leaves: the clock, the notes, the connections to come, and the list of calls that are to fail.
pub record SameRest (old new : MemoryShell) : Type 0 where
  pub clock_stays : new.clock ≡ old.clock
  pub notes_stay : SameNotes old new
  pub others : SameComing old new

-- What a failure leaves: all but the log's head and entries, in these what was taken and said, and the counts of faults.
pub record Unmoved (old new : MemoryShell) : Type 0 where
  pub disk_stays : new.disk ≡ old.disk
  pub streams_stay : streams new ≡ streams old
  pub taken_stays : taken (entries_by new) ≡ taken (entries_by old)
  pub pieces_stay : pieces new ≡ pieces old
  pub talk_stays : talk_pieces new ≡ talk_pieces old
  pub calls_stay : talk_calls new ≡ talk_calls old
  pub rest : SameRest old new

-- what a wait for a connection leaves of these: the first one is at hand, or none will come
abbrev pub NextOf : List (List (List ℕ)) → MemoryShell → MemoryShell → Bool → Type 0
NextOf [] old new came =
    (came ≡ false) × (connections_coming new ≡ []) × (talk_pieces new ≡ talk_pieces old)
NextOf (ps ∷ more) old new came =
    (came ≡ true) × (connections_coming new ≡ more) × (talk_pieces new ≡ ps)
