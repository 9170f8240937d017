-- What a part of a run over lines says, takes and leaves, and what an opening does.
use Rattle.std.specs.Prelude.{◌≡◌, ◌≤◌, ◌+◌, ◌*◌, ◌⊎◌, ℕ, List, [], ◌∷◌, ◌++◌, length, false, true, None}
use Rattle.alt_base.specs.Prefix.{IsPrefix}
use Rattle.alt_disk.specs.Disk.{DiskState, IsTrusted}
use Rattle.alt_machine.specs.State.{State}
use Rattle.alt_shell.specs.Log.{Log, Grows, moments_of, taken, said_in, ended, crosses}
use Rattle.alt_tables.specs.OpeningRecovery.{WasLeft}
use Rattle.alt_tables.specs.FilesLeft.{most_files}
use Rattle.alt_tables.specs.Images.{StandsFor}
use Rattle.alt_talks.specs.Faults.{IsCausedBy, IsFileFault}
use Rattle.alt_talks.specs.declared.fault.RunFault.{RunFault}
use Rattle.alt_talks.specs.Turns.{WritesLast, turns_text, after, wanted_by_turns}
use Rattle.alt_run.specs.Moments.{said_by_moment, taken_by, ended_by}
use Rattle.alt_talks.specs.Stops.{Image, IsLeft, AtEach}
use Rattle.alt_run.specs.Turns.{AskedLine, request, control, unread, turns_of_lines, requests, tasks, asks, out}
use Rattle.alt_run.specs.declared.lines.Control.TheVariants.{Flush, Merge, Step, Reopen}
use Rattle.alt_talks.specs.TalkStops.{LeavesNow}

-- ---- lines that were at hand

-- Work was under way for a line: for one of the words of control that ask for it, or behind a request, once this was said.
abbrev pub IsAtWork : AskedLine → Type 0 → Type 0
IsAtWork (request name body) said = said
IsAtWork (control Flush) said = Unit {0}
IsAtWork (control Merge) said = Unit {0}
IsAtWork (control Step) said = Unit {0}
IsAtWork (control Reopen) said = ⊥
IsAtWork unread said = ⊥

-- So it was for the line that was begun behind these: a request's reply had been said. None of the requests lacked anything.
pub record LineIsWorking (s : State) (done begun : List AskedLine) (entries : Log)
    (told : List ℕ) : Type 0 where
  pub line : AskedLine
  pub last : begun ≡ line ∷ []
  pub enough : wanted_by_turns (turns_of_lines s (done ++ begun) told) ≡ None
  pub at : IsAtWork line (said_in entries ≡ turns_text (turns_of_lines s (done ++ begun) told))

-- A request was under way, the line that was begun behind these: the last of their turns is its, and writes something, or the server does behind
-- it. Nothing before that lacked anything.
pub record LineIsWriting (s : State) (done begun : List AskedLine) (told : List ℕ) : Type 0 where
  pub line : AskedLine
  pub last : begun ≡ line ∷ []
  pub asks : requests begun ≡ 1
  pub writes : WritesLast (turns_of_lines s (done ++ begun) told)

-- Why serving broke off: a request has no answer, or the server's own request behind it, for want of a number that is the first that one
-- wanted, or of the file of a first write, or work broke off. A file was wanted then only where nothing before that lacked anything, and as many
-- numbers as the tasks of the lines that were begun take at most, from the first file that work made before them on, reach the last.
abbrev pub BreaksFor : RunFault → ℕ → State → List AskedLine → List AskedLine → Log → List ℕ → Type 0
BreaksFor fault next s done begun entries told =
    IsCausedBy (wanted_by_turns (turns_of_lines s (done ++ begun) told)) fault
    ⊎ (IsFileFault (next + tasks (done ++ begun) * most_files) fault
    × (LineIsWriting s done begun told ⊎ LineIsWorking s done begun entries told))

-- Serving these lines broke off. Those that were done were answered, at most one more was begun, and just these had a moment
-- each. The fault has its cause.
pub record Breaks (fault : RunFault) (next : ℕ) (s : State) (ls : List AskedLine) (entries : Log)
    (told : List ℕ) : Type 0 where
  pub done : List AskedLine
  pub begun : List AskedLine
  pub rest : List AskedLine
  pub lines : ls ≡ done ++ (begun ++ rest)
  pub few : length begun ≤ 1
  pub all : IsPrefix (turns_text (turns_of_lines s done told)) (said_in entries)
  pub said : IsPrefix (said_in entries) (turns_text (turns_of_lines s (done ++ begun) told))
  pub count : length told ≡ requests (done ++ begun)
  pub enough : wanted_by_turns (turns_of_lines s done told) ≡ None
  pub wants : BreaksFor fault next s done begun entries told

-- nothing was taken, and no connection came or went: what was said was said on standard output
pub record Rests (entries : Log) : Type 0 where
  pub silent : taken entries ≡ []
  pub goes_on : ended entries ≡ false
  pub inside : crosses entries ≡ false

-- ---- a run over all of its input

-- What a stop at a moment of a run leaves: the state behind a prefix of the requests that were whole in the input taken by then, which contains
-- every one that was answered by then.
abbrev pub LeftThen : State → Log → List ℕ → ℕ → Image → Type 0
LeftThen s entries told t image =
    IsLeft s (turns_of_lines s (asks (ended_by t entries) (taken_by t entries)) told)
    (said_by_moment t entries) image

-- The whole input was taken, and each line of it was answered, each request at a moment of its own, no more and no fewer. What was
-- said is all of its Out, on standard output, since no connection came or went. A stop at any moment leaves every request that was answered by
-- then, and one at the end all of them.
pub record AnswersAllLines (s : State) (old new : DiskState) (entries : Log)
    (told : List ℕ) : Type 0 where
  pub at_end : ended entries ≡ true
  pub inside : crosses entries ≡ false
  pub said : said_in entries ≡ out s true (taken entries) told
  pub count : length told ≡ requests (asks true (taken entries))
  pub enough : wanted_by_turns (turns_of_lines s (asks true (taken entries)) told) ≡ None
  pub leaves : AtEach old new (LeftThen s entries told)
  pub last : LeavesNow new (after s (turns_of_lines s (asks true (taken entries)) told))

-- It broke off among the lines that were whole in what was taken. What was said is a prefix of their Out.
pub record AnswersSomeLines (fault : RunFault) (next : ℕ) (s : State) (old new : DiskState) (entries : Log)
    (told : List ℕ) : Type 0 where
  pub breaks : Breaks fault next s (asks (ended entries) (taken entries)) entries told
  pub inside : crosses entries ≡ false
  pub said : IsPrefix (said_in entries) (out s (ended entries) (taken entries) told)
  pub leaves : AtEach old new (LeftThen s entries told)

-- ---- the opening

-- Nothing was taken, said or asked, and what a stop at a moment leaves stands for each state for which something stood that one left
-- before it. A disk that could be relied on still can.
pub record IsOpening (old new : DiskState) : Type 0 where
  pub silent : Grows old.beside new.beside []
  pub unasked : moments_of new.beside ≡ moments_of old.beside
  pub trusts : IsTrusted old → IsTrusted new
  pub leaves : AtEach old new (WasLeft old)

-- The store was opened, for the state for which its files stood, and what was done from then on has P of that state.
pub record Opened (old new : DiskState) (P : State → DiskState → DiskState → Type 0) : Type 0 where
  pub from : State
  pub stood : StandsFor old.file from
  pub opened : DiskState
  pub opening : IsOpening old opened
  pub behind : P from opened new
