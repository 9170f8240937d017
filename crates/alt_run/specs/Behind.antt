-- What the last line of an input promises of the disk from then on, what a trial does, and how many connections come.
use Rattle.std.specs.Prelude.{◌≡◌, ℕ, List, [], ◌∷◌, true, IsTrue, Option, Some, None, ⊤}
use Rattle.alt_disk.specs.Disk.{DiskState}
use Rattle.alt_shell.specs.Log.{Log, Grows, taken, said_in, ended}
use Rattle.alt_talks.specs.Arrivals.{CameAll, CameAtMost}
use Rattle.alt_talks.specs.Works.{HasFewEntries, HasMergedFiles, HasNoEntries}
use Rattle.alt_run.specs.Endings.{IsReadable}
use Rattle.alt_run.specs.Runs.{Rests}
use Rattle.alt_run.specs.Trials.{IsSummary}
use Rattle.alt_run.specs.Turns.{AskedLine, request, control, unread, asks}
use Rattle.alt_run.specs.declared.lines.Control.TheVariants.{Flush, Merge, Step, Reopen}
use Rattle.alt_run.specs.declared.words.Job.{Job}
use Rattle.alt_run.specs.declared.words.Job.TheVariants.{Replay, Serve, Trial}

-- ---- a line

-- where the disk tells its files they stand for a state
abbrev pub AreReadable : DiskState → Type 0
AreReadable disk = IsTrue disk.tells → IsReadable disk.file

-- What is so of the disk behind a line that was answered, where a family is flushed from so many bytes on. Behind a request and behind
-- `@step` the entries of the log are few, behind `@flush` there are none, behind `@merge` each live family has one file at most, without
-- tombstones, and behind `@reopen` the files stand for a state, as they read on any disk that tells them: they were read again.
abbrev pub Behind : ℕ → Option AskedLine → DiskState → Type 0
Behind flush None disk = ⊤
Behind flush (Some (request name body)) disk = HasFewEntries flush disk
Behind flush (Some (control Flush)) disk = HasNoEntries disk
Behind flush (Some (control Merge)) disk = HasMergedFiles disk
Behind flush (Some (control Step)) disk = HasFewEntries flush disk
Behind flush (Some (control Reopen)) disk = AreReadable disk
Behind flush (Some unread) disk = ⊤

-- the last of these lines; without lines, the last before them
abbrev pub last_of : Option AskedLine → List AskedLine → Option AskedLine
last_of was [] = was
last_of was (l ∷ ls) = last_of (Some l) ls

-- ---- a whole run

-- A replay took its input to the end, and the disk is as the last line of that promises.
pub record LastLine (flush : ℕ) (old new : DiskState) : Type 0 where
  pub entries : Log
  pub grows : Grows old.beside new.beside entries
  pub at_end : ended entries ≡ true
  pub behind : Behind flush (last_of None (asks true (taken entries))) new

-- A trial said its four lines whole, and nothing else; nothing was taken, and no connection came or went.
pub record SaysSummary (count : ℕ) (old new : DiskState) : Type 0 where
  pub text : List ℕ
  pub is : IsSummary count text
  pub entries : Log
  pub grows : Grows old.beside new.beside entries
  pub said : said_in entries ≡ text
  pub rests : Rests entries

-- what is so of the disk behind a job that ended whole; what was said, and how many connections came, whatever disk it is
abbrev pub AfterJob : Job → ℕ → DiskState → DiskState → Type 0
AfterJob Replay flush old new = LastLine flush old new
AfterJob (Serve per connections) flush old new = CameAll connections old new
AfterJob (Trial seed count) flush old new = HasFewEntries flush new × SaysSummary count old new

-- A serve was told of no more connections than it was to serve, however it ended and whatever disk it is.
abbrev pub ComesWithin : Job → DiskState → DiskState → Type 0
ComesWithin Replay old new = ⊤
ComesWithin (Serve per connections) old new = CameAtMost connections old new
ComesWithin (Trial seed count) old new = ⊤
