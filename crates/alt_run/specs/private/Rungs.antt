-- What a part of a run over lines says, takes and leaves: one word for each rung, from the lines at hand to the end of the input. Private contracts alone cite it.
use Rattle.std.specs.Prelude.{◌≡◌, ◌≤◌, ◌+◌, ◌*◌, ℕ, List, [], ◌++◌, length, Bool, false, true, None, map}
use Rattle.alt_disk.specs.Disk.{DiskState}
use Rattle.alt_lines.specs.Unread.{Unread, lines_now, lines_later}
use Rattle.alt_machine.specs.State.{State}
use Rattle.alt_shell.specs.Log.{Log, until, taken, said_in, ended, crosses}
use Rattle.alt_tables.specs.FilesLeft.{most_files}
use Rattle.alt_talks.specs.declared.fault.RunFault.{RunFault}
use Rattle.alt_talks.specs.Turns.{turns_text, after, wanted_by_turns}
use Rattle.alt_talks.specs.Stops.{Image, IsLeft, AtEach}
use Rattle.alt_run.specs.Turns.{AskedLine, turns_of_lines, requests, tasks, asked_of, outcome_by_name}
use Rattle.alt_talks.specs.Runs.{OfStretch}
use Rattle.alt_run.specs.Runs.{Breaks, Rests}
use Rattle.alt_talks.specs.Faults.{IsCausedBy, IsFileFault}
use Rattle.alt_run.specs.declared.lines.Control.{Control}
use Rattle.alt_run.specs.declared.lines.Control.TheVariants.{Flush, Merge, Step, Reopen}
use Rattle.alt_machine.specs.Outcomes.{last_state}

-- what a stop at a moment leaves while these lines are served from a state
abbrev pub LeftAtHand : State → List AskedLine → Log → List ℕ → ℕ → Image → Type 0
LeftAtHand s ls entries told t image =
    IsLeft s (turns_of_lines s ls told) (said_in (until t entries)) image

-- Of these lines each was answered, at a moment of its own, and had the numbers that it wanted.
pub record ServesLines (s : State) (ls : List AskedLine) (t : State) (entries : Log)
    (told : List ℕ) : Type 0 where
  pub said : said_in entries ≡ turns_text (turns_of_lines s ls told)
  pub state : t ≡ after s (turns_of_lines s ls told)
  pub count : length told ≡ requests ls
  pub enough : wanted_by_turns (turns_of_lines s ls told) ≡ None

-- what a reader will ask once these bytes were given to it, and maybe the end
abbrev pub asked_later : Unread → List ℕ → Bool → List AskedLine
asked_later u more ended = map asked_of (lines_later u more ended)

-- what it asks as it is
abbrev pub asked_now : Unread → List AskedLine
asked_now u = map asked_of (lines_now u)

-- a reader gave out all lines that it had, and whatever follows they come first
pub record HandsOut (old new : Unread) : Type 0 where
  pub none : lines_now new ≡ []
  pub most : new.most ≡ old.most
  pub ended : new.ended ≡ old.ended
  pub later : old.ended ≡ false → (more : List ℕ) (ended : Bool)
      → asked_later old more ended ≡ asked_now old ++ asked_later new more ended

-- lines at hand were served, and nothing was taken
pub record ServesAtHand (s : State) (ls : List AskedLine) (t : State) (old new : DiskState)
    (entries : Log) (told : List ℕ) : Type 0 where
  pub serves : ServesLines s ls t entries told
  pub rests : Rests entries
  pub leaves : AtEach old new (LeftAtHand s ls entries told)

-- that broke off
pub record BreaksAtHand (fault : RunFault) (next : ℕ) (s : State) (ls : List AskedLine) (old new : DiskState)
    (entries : Log) (told : List ℕ) : Type 0 where
  pub breaks : Breaks fault next s ls entries told
  pub rests : Rests entries
  pub leaves : AtEach old new (LeftAtHand s ls entries told)

-- What a stop at a moment leaves while input is taken and served from a state: the lines are those that were whole by then.
abbrev pub LeftBy : State → Unread → Log → List ℕ → ℕ → Image → Type 0
LeftBy s u entries told t image =
    IsLeft s (turns_of_lines s (asked_later u (taken (until t entries)) (ended (until t entries))) told)
    (said_in (until t entries)) image

-- Some of the input was taken, which has not ended, and all lines that were whole then were served. The number of the next file was the first one
-- before them, and is the second one now: their tasks took no more than they take at most.
pub record ServesInput (next : ℕ) (s : State) (u : Unread) (now : ℕ) (t : State) (v : Unread) (old new : DiskState)
    (entries : Log) (told : List ℕ) : Type 0 where
  pub done : List AskedLine
  pub serves : ServesLines s done t entries told
  pub lines : (more : List ℕ) (ended : Bool) → asked_later u (taken entries ++ more) ended
      ≡ done ++ asked_later v more ended
  pub goes_on : ended entries ≡ false
  pub inside : crosses entries ≡ false
  pub leaves : AtEach old new (LeftBy s u entries told)
  pub files : now ≤ next + tasks done * most_files

-- The rest of the input was taken, and all its lines were served.
pub record EndsInput (s : State) (u : Unread) (t : State) (old new : DiskState) (entries : Log)
    (told : List ℕ) : Type 0 where
  pub serves : ServesLines s (asked_later u (taken entries) true) t entries told
  pub at_end : ended entries ≡ true
  pub inside : crosses entries ≡ false
  pub leaves : AtEach old new (LeftBy s u entries told)

-- That broke off among the lines that were whole.
pub record ServesSomeInput (fault : RunFault) (next : ℕ) (s : State) (u : Unread) (old new : DiskState)
    (entries : Log) (told : List ℕ) : Type 0 where
  pub breaks : Breaks fault next s (asked_later u (taken entries) (ended entries)) entries told
  pub inside : crosses entries ≡ false
  pub leaves : AtEach old new (LeftBy s u entries told)

-- more was taken, or the end was
abbrev pub GoesOrEnds : Bool → ℕ → State → Unread → ℕ → State → Unread → OfStretch
GoesOrEnds true next s u now t v = ServesInput next s u now t v
GoesOrEnds false next s u now t v = EndsInput s u t

-- Why a word of control isn't done: what work breaks off for, where this is the number of the first file that it makes, and an opening of a store
-- that stands for a state as a request that lacks nothing.
abbrev pub IsControlFault : ℕ → Control → RunFault → Type 0
IsControlFault next Flush fault = IsFileFault (next + most_files) fault
IsControlFault next Merge fault = IsFileFault (next + most_files) fault
IsControlFault next Step fault = IsFileFault (next + most_files) fault
IsControlFault next Reopen fault = IsCausedBy None fault

-- the state that a request leaves by itself
abbrev pub left_by_named_request : State → List ℕ → List ℕ → ℕ → State
left_by_named_request s name body moment = last_state s (outcome_by_name s name body moment).atoms
