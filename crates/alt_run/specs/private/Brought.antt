-- What parts of a replay bring the disk to, by the last of their lines. Private contracts alone cite it.
use Rattle.std.specs.Prelude.{◌≡◌, ℕ, List, ◌++◌, Bool, true, false, Option}
use Rattle.alt_disk.specs.Disk.{DiskState}
use Rattle.alt_lines.specs.Unread.{Unread}
use Rattle.alt_shell.specs.Log.{Log, Grows, taken, ended}
use Rattle.alt_run.specs.Runs.{Rests}
use Rattle.alt_run.specs.private.Rungs.{asked_later}
use Rattle.alt_run.specs.Turns.{AskedLine}
use Rattle.alt_run.specs.Behind.{Behind, last_of}

-- These lines were served. If the disk was as the last line before them promises, it is as the last of them does.
abbrev pub Brings : ℕ → List AskedLine → DiskState → DiskState → Type 0
Brings flush ls old new = (was : Option AskedLine) → Behind flush was old
    → Behind flush (last_of was ls) new

-- so of lines that were at hand: nothing was taken
pub record BringsAtHand (flush : ℕ) (ls : List AskedLine) (old new : DiskState) : Type 0 where
  pub entries : Log
  pub grows : Grows old.beside new.beside entries
  pub rests : Rests entries
  pub brings : Brings flush ls old new

-- so of the lines that became whole while some of the input was taken, which has not ended
pub record BringsSome (flush : ℕ) (u v : Unread) (old new : DiskState) : Type 0 where
  pub done : List AskedLine
  pub entries : Log
  pub grows : Grows old.beside new.beside entries
  pub lines : (more : List ℕ) (ended : Bool) → asked_later u (taken entries ++ more) ended
      ≡ done ++ asked_later v more ended
  pub goes_on : ended entries ≡ false
  pub brings : Brings flush done old new

-- so of all lines up to the end of the input
pub record BringsRest (flush : ℕ) (u : Unread) (old new : DiskState) : Type 0 where
  pub entries : Log
  pub grows : Grows old.beside new.beside entries
  pub at_end : ended entries ≡ true
  pub brings : Brings flush (asked_later u (taken entries) true) old new

-- there is more, or the end was taken
abbrev pub BringsOn : ℕ → Bool → Unread → Unread → DiskState → DiskState → Type 0
BringsOn flush true u v = BringsSome flush u v
BringsOn flush false u v = BringsRest flush u
