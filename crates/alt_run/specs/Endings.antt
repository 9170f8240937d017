-- How a run ends: its status, what it notes, and what it has done.
use Rattle.std.specs.Prelude.{◌≡◌, ◌≢◌, ◌<◌, ◌⊎◌, ℕ, List, [], ◌∷◌, ◌++◌, codes, decimal, Option, None, Some, false, IsTrue, length}
use Rattle.hex.specs.Hex.{encode_lower}
use Rattle.alt_base.specs.Counts.{Rose}
use Rattle.alt_disk.specs.Disk.{DiskState, IsImage, IsTrusted}
use Rattle.alt_disk.specs.Runs.{Quiet}
use Rattle.alt_machine.specs.State.{State, start}
use Rattle.alt_shell.specs.Log.{Log, Grows, StillGrows, notes_of, moments_of, taken, said_in, crosses}
use Rattle.alt_run.specs.Faults.{IsUnreadable}
use Rattle.alt_tables.specs.FilesLeft.{IsFirstGiven}
use Rattle.alt_tables.specs.Images.{StandsFor}
use Rattle.alt_talks.specs.Runs.{Stretch}
use Rattle.alt_run.specs.Runs.{AnswersAllLines, AnswersSomeLines, IsOpening, Opened}
use Rattle.alt_talks.specs.TalkRules.{talk_rules}
use Rattle.alt_talks.specs.TalkStops.{ServedOn, ServedSomeOn, LeavesNow}
use Rattle.alt_run.specs.Trials.{Tries, TriesSome}
use Rattle.alt_talks.specs.declared.fault.RunFault.{RunFault}
use Rattle.alt_talks.specs.declared.fault.RunFault.TheVariants as fault
use Rattle.alt_run.specs.declared.ending.Ending.{Ending}
use Rattle.alt_run.specs.declared.ending.Ending.TheVariants.{Whole, Words, NotEmpty, Damaged, DigestDiffers, BadRow, Device, Memory, Spent}
use Rattle.alt_run.specs.declared.words.Command.{Command}
use Rattle.alt_run.specs.declared.words.Command.TheVariants.{Init, Over}
use Rattle.alt_run.specs.declared.words.Job.{Job}
use Rattle.alt_run.specs.declared.words.Job.TheVariants.{Replay, Serve, Trial}
use Rattle.alt_base.specs.Prefix.{IsPrefix}

-- the status of each ending
abbrev pub status_of : Ending → ℕ
status_of Whole = 0
status_of Words = 1
status_of (NotEmpty first) = 2
status_of (Damaged file at) = 3
status_of (DigestDiffers file kept found) = 3
status_of (BadRow family key) = 3
status_of Device = 4
status_of Memory = 5
status_of (Spent number) = 6

-- what it notes: nothing where all was done, and else its one line
abbrev pub note_of : Ending → List ℕ
note_of Whole = []
note_of Words = codes "alternator: words\n"
note_of (NotEmpty first) = codes "alternator: store not empty: file " ++ (decimal first ++ 10 ∷ [])
note_of (Damaged file at) = codes "alternator: damaged: file "
    ++ (decimal file ++ (codes " at " ++ (decimal at ++ 10 ∷ [])))
note_of (DigestDiffers file kept found) = codes "alternator: digest: file "
    ++ (decimal file ++ (codes " kept " ++ (encode_lower kept
    ++ (codes " found " ++ (encode_lower found ++ 10 ∷ [])))))
note_of (BadRow family key) = codes "alternator: row: family "
    ++ (decimal family ++ (codes " key " ++ (encode_lower key ++ 10 ∷ [])))
note_of Device = codes "alternator: device\n"
note_of Memory = codes "alternator: memory\n"
note_of (Spent number) = codes "alternator: numbers spent: " ++ (decimal number ++ 10 ∷ [])

-- nothing was touched: no call that takes a moment was made, none failed, nothing was taken or said, and the clock wasn't asked
pub record Untouched (old new : DiskState) : Type 0 where
  pub moment : new.moment ≡ old.moment
  pub faults : new.faults ≡ old.faults
  pub silent : Grows old.beside new.beside []
  pub unasked : moments_of new.beside ≡ moments_of old.beside

-- ---- init

-- A store was made where no file was, and that was said on standard output, since no connection came or went. From then on what a stop leaves
-- stands for the empty store.
pub record MakesStore (old new : DiskState) (entries : Log) (told : List ℕ) : Type 0 where
  pub said : said_in entries ≡ codes "ok\n"
  pub untaken : taken entries ≡ []
  pub inside : crosses entries ≡ false
  pub unasked : told ≡ []
  pub none : IsTrue old.tells → (f : ℕ) → old.file f ≡ None
  pub stands : IsTrusted old → (image : ℕ → Option (List ℕ)) → IsImage new new.moment image
      → StandsFor image start

-- Nothing was said or taken, no connection came or went, and the clock wasn't asked.
pub record SaysNothing (old new : DiskState) : Type 0 where
  pub silent : Grows old.beside new.beside []
  pub unasked : moments_of new.beside ≡ moments_of old.beside

-- Of what is said once a store was made a part from the front was said, on standard output, since no connection came or went; and where that
-- isn't empty, what a stop leaves stands for the empty store. Nothing was taken, and the clock wasn't asked.
pub record SaysSome (old new : DiskState) : Type 0 where
  pub entries : Log
  pub grows : Grows old.beside new.beside entries
  pub said : IsPrefix (said_in entries) (codes "ok\n")
  pub untaken : taken entries ≡ []
  pub inside : crosses entries ≡ false
  pub unasked : moments_of new.beside ≡ moments_of old.beside
  pub stands : 0 < length (said_in entries) → IsTrusted old → (image : ℕ → Option (List ℕ))
      → IsImage new new.moment image → StandsFor image start

-- this file was there, and none before it
pub record IsFirstFileThere (files : ℕ → Option (List ℕ)) (first : ℕ) : Type 0 where
  pub there : files first ≢ None
  pub none : (f : ℕ) → f < first → files f ≡ None

-- What a run of `init` has done that ended so. Where a file was there it said nothing and left all of them, in reads and in what a stop leaves
-- at each moment.
abbrev pub HasMade : Ending → DiskState → DiskState → Type 0
HasMade Whole old new = Stretch old new MakesStore
HasMade Words old new = ⊥
HasMade (NotEmpty first) old new = SaysNothing old new
    × (IsTrue old.tells → IsFirstFileThere old.file first × Quiet old new)
HasMade (Damaged file at) old new = ⊥
HasMade (DigestDiffers file kept found) old new = ⊥
HasMade (BadRow family key) old new = ⊥
HasMade Device old new = SaysSome old new × Rose old.faults new.faults
HasMade Memory old new = SaysNothing old new
HasMade (Spent number) old new = ⊥

-- ---- replay, serve and trial

-- the files stand for a state
abbrev pub IsReadable : (ℕ → Option (List ℕ)) → Type 0
IsReadable files = (s : State) × StandsFor files s

-- What a job has done that ended whole, from the state for which the store stood and the disk as it was opened: every line of the input
-- was answered, or every connection served, or every request of a trial carried out and the four lines said. A stop at the end leaves the state
-- after all requests, answered or not.
abbrev pub Done : Job → State → DiskState → DiskState → Type 0
Done Replay s opened new = Stretch opened new (AnswersAllLines s)
Done (Serve per connections) s opened new = Stretch opened new
    (λ old new es ms. (t : State) × ServedOn talk_rules per connections s t old new es ms × LeavesNow new t)
Done (Trial seed count) s opened new = Stretch opened new (Tries s seed count)

-- What a job has done that was broken off behind the opening: what it said is a prefix of what there was to say, on each connection by
-- itself. For a number: the first that a request wanted and is never given out, or that of a file that work or a first write wanted, where this is
-- the number of the first file that work makes once the store was opened.
abbrev pub BrokenFrom : ℕ → RunFault → Job → State → DiskState → DiskState → Type 0
BrokenFrom next why Replay s opened new = Stretch opened new (AnswersSomeLines why next s)
BrokenFrom next why (Serve per connections) s opened new = Stretch opened new
    (ServedSomeOn talk_rules per connections why next s)
BrokenFrom next why (Trial seed count) s opened new = Stretch opened new
    (TriesSome why next s seed count)

-- So it was, by the number of the first file that is made behind these files.
abbrev pub Broken : (ℕ → Option (List ℕ)) → RunFault → Job → State → DiskState → DiskState → Type 0
Broken files why job s opened new = (next : ℕ) × IsFirstGiven files next
    × BrokenFrom next why job s opened new

-- The store was opened, and the run broke off behind that for want of a number that is never given out.
abbrev pub LacksNumber : Job → DiskState → DiskState → Type 0
LacksNumber job old new = (number : ℕ)
    × Opened old new (Broken old.file (fault.Spent number) job)

-- The run was broken off while the store was opened, or behind that.
abbrev pub BreaksOff : RunFault → Job → DiskState → DiskState → Type 0
BreaksOff why job old new = IsTrusted old
    → IsOpening old new ⊎ Opened old new (Broken old.file why job)

-- The files stood for no state, as is told; or they stood for one, and the disk, which isn't honest, changed them since.
abbrev pub WasDamaged : RunFault → DiskState → DiskState → Type 0
WasDamaged why old new = IsTrue old.tells → (IsOpening old new × IsUnreadable old.file why)
    ⊎ (IsReadable old.file × (old.honest ≡ false))

-- What a run over a store has done that ended so: for a device, only where that failed in this run.
abbrev pub HasRun : Job → Ending → DiskState → DiskState → Type 0
HasRun job Whole old new = (IsTrue old.tells → IsReadable old.file)
    × (IsTrusted old → Opened old new (Done job))
HasRun job Words old new = ⊥
HasRun job (NotEmpty first) old new = ⊥
HasRun job (Damaged file at) old new = WasDamaged (fault.Damaged file at) old new
HasRun job (DigestDiffers file kept found) old new =
    WasDamaged (fault.DigestDiffers file kept found) old new
HasRun job (BadRow family key) old new = WasDamaged (fault.BadRow family key) old new
HasRun job Device old new = Rose old.faults new.faults × BreaksOff fault.Failed job old new
HasRun job Memory old new = BreaksOff fault.NoMemory job old new
HasRun job (Spent number) old new = (IsTrue old.tells → IsReadable old.file)
    × (IsTrusted old → Opened old new (Broken old.file (fault.Spent number) job))

-- ---- any run

-- wrong words touch nothing
abbrev pub HasRefused : Ending → DiskState → DiskState → Type 0
HasRefused Whole old new = ⊥
HasRefused Words old new = Untouched old new
HasRefused (NotEmpty first) old new = ⊥
HasRefused (Damaged file at) old new = ⊥
HasRefused (DigestDiffers file kept found) old new = ⊥
HasRefused (BadRow family key) old new = ⊥
HasRefused Device old new = ⊥
HasRefused Memory old new = ⊥
HasRefused (Spent number) old new = ⊥

-- what a run has done that ended so, by what its words asked for
-- The limits of the engine change nothing of it.
abbrev pub HasDone : Option Command → Ending → DiskState → DiskState → Type 0
HasDone None ending old new = HasRefused ending old new
HasDone (Some Init) ending old new = HasMade ending old new
HasDone (Some (Over job limits)) ending old new = HasRun job ending old new

-- a run that ended so, with its note
pub record Ended (command : Option Command) (ending : Ending) (status : ℕ) (old new : DiskState) : Type 0 where
  pub by_ending : status ≡ status_of ending
  pub done : HasDone command ending old new
  pub noted : StillGrows (notes_of old.beside) (notes_of new.beside) (note_of ending)
