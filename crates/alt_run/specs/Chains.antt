-- Runs and stops, one after another, and what is left behind them.
use Rattle.std.specs.Prelude.{◌≡◌, ◌≤◌, ◌⊎◌, ℕ, List, [], ◌∷◌, ◌++◌, None, ⊤}
use Rattle.alt_disk.specs.Disk.{DiskState, IsImage}
use Rattle.alt_machine.specs.State.{State}
use Rattle.alt_shell.specs.Log.{Log, Grows, TellsMoments, moments_of, until}
use Rattle.alt_tables.specs.Images.{StandsFor}
use Rattle.alt_talks.specs.Connections.{Connection, connection_entries, told_of}
use Rattle.alt_talks.specs.Stops.{Image}
use Rattle.alt_talks.specs.TalkRules.{talk_rules}
use Rattle.alt_talks.specs.TalkStops.{LeftAmong}
use Rattle.alt_run.specs.Endings.{HasRun}
use Rattle.alt_run.specs.Runs.{LeftThen}
use Rattle.alt_run.specs.Trials.{LeftOfTrial}
use Rattle.alt_run.specs.Wholes.{DiskIsWhole, IsFoundBehind}
use Rattle.alt_run.specs.declared.ending.Ending.{Ending}
use Rattle.alt_run.specs.declared.words.Job.{Job}
use Rattle.alt_run.specs.declared.words.Job.TheVariants.{Replay, Serve, Trial}

-- A run over a store, and the stop that ended it: what it was to do, how it ended, the disk then, the moment of the stop, and the disk that
-- the next program finds. A run that came to its end is stopped at its last moment.
pub record Step : Type 0 where
  pub job : Job
  pub ending : Ending
  pub new : DiskState
  pub at : ℕ
  pub next : DiskState

-- such a step from a disk on
pub record IsStep (old : DiskState) (step : Step) : Type 0 where
  pub ran : HasRun step.job step.ending old step.new
  pub from : old.moment ≤ step.at
  pub to : step.at ≤ step.new.moment
  pub found : IsFoundBehind step.new step.at step.next

-- the disk behind steps, of which the latest stands in front
abbrev pub disk_behind_steps : DiskState → List Step → DiskState
disk_behind_steps first [] = first
disk_behind_steps first (step ∷ steps) = step.next

-- each step began where the one before it had led
abbrev pub IsChain : DiskState → List Step → Type 0
IsChain first [] = ⊤
IsChain first (step ∷ steps) = IsChain first steps × IsStep (disk_behind_steps first steps) step

-- What a stop at a moment behind the opening leaves of a job, from a state: it stands for the state behind a prefix of the requests that were
-- whole in the bytes taken by then, with what the server does behind them, and the prefix contains every one that was answered by then.
abbrev pub LeftOf : Job → State → ℕ → Log → List ℕ → Image → Type 0
LeftOf Replay s t entries told image = LeftThen s entries told t image
LeftOf (Serve per connections) s t entries told image = (ks : List Connection) × (more : Log)
    × (entries ≡ connection_entries ks ++ more) × (told ≡ told_of ks) × LeftAmong talk_rules per 1 None s ks t image
LeftOf (Trial seed count) s t entries told image =
    LeftOfTrial s seed count entries t image

-- The stop came before anything was said or taken, and left what stands for each state for which these files stood.
pub record LeftEarly (old : DiskState) (step : Step) (files image : Image) : Type 0 where
  pub entries : Log
  pub grows : Grows old.beside step.new.beside entries
  pub none : until step.at entries ≡ []
  pub same : (s : State) → StandsFor files s → StandsFor image s

-- The stop came behind the opening, which found these files.
pub record LeftLater (old : DiskState) (step : Step) (files image : Image) : Type 0 where
  pub from : State
  pub stood : StandsFor files from
  pub entries : Log
  pub told : List ℕ
  pub grows : Grows old.beside step.new.beside entries
  pub tells : TellsMoments (moments_of old.beside) (moments_of step.new.beside) told
  pub left : LeftOf step.job from step.at entries told image

-- What a chain of runs and stops may leave: of each run all that was answered in it, over something that the runs before it may have left.
abbrev pub MayLeave : DiskState → List Step → Image → Type 0
MayLeave first [] image = IsImage first first.moment image
MayLeave first (step ∷ steps) image = (files : Image) × MayLeave first steps files
    × (LeftEarly (disk_behind_steps first steps) step files image
    ⊎ LeftLater (disk_behind_steps first steps) step files image)

-- A chain that began on a whole disk leads to a whole one, and a stop there leaves only what the chain may leave.
pub record ChainHolds (first : DiskState) (steps : List Step) : Type 0 where
  pub whole : DiskIsWhole (disk_behind_steps first steps) (disk_behind_steps first steps).moment
  pub reads : IsImage (disk_behind_steps first steps) (disk_behind_steps first steps).moment (disk_behind_steps first steps).file
  pub left : (image : Image)
      → IsImage (disk_behind_steps first steps) (disk_behind_steps first steps).moment image → MayLeave first steps image

-- so of every chain that began on a whole disk, which reads as one of its images
abbrev pub ChainsHold : Type 0
ChainsHold = (first : DiskState) (steps : List Step) → DiskIsWhole first first.moment
    → IsImage first first.moment first.file → IsChain first steps → ChainHolds first steps
