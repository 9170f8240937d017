-- The opening of a store, and what comes behind it.
use Rattle.std.specs.Prelude.{Result, Ok, Err, MatchResult}
use Rattle.std.proofs.Common.{◌≡◌, ◌⊎◌, inl, inr, ⊎_elim, IsTrue, Bool, true, false, ℕ, List, [], Option, None, Some, option_map, refl, sym, ap, subst, arith}
use Rattle.alt_disk.specs.Disk.{DiskState, Goes, IsTrusted}
use Rattle.alt_disk.proofs.Runs.{trusted_on}
use Rattle.alt_machine.specs.State.{State}
use Rattle.alt_machine.specs.Wanted.{Lack}
use Rattle.alt_shell.specs.Log.{Log, Grows, moments_of}
use Rattle.alt_shell.proofs.Telling.{Grows-nil}
use Rattle.alt_faults.specs.Faults.{OnlyDamaged}
use Rattle.alt_faults.proofs.Telling.{both-damaged, tells-more}
use Rattle.alt_tables.specs.OpeningFaults.{told_by_opening}
use Rattle.alt_talks.specs.Faults.{IsCausedBy, IsFileFault, told_by_run}
use Rattle.alt_run.specs.Faults.{IsUnreadable}
use Rattle.alt_talks.specs.declared.fault.RunFault.{RunFault}
use Rattle.alt_talks.specs.declared.fault.RunFault.TheVariants.{Spent}
use Rattle.alt_run.specs.Endings.{HasRun, Done, Broken, BrokenFrom, BreaksOff, WasDamaged, IsReadable}
use Rattle.alt_run.specs.declared.ending.Ending.TheVariants as ending
use Rattle.alt_run.specs.Runs.{IsOpening, Opened}
use Rattle.alt_run.specs.declared.words.Job.{Job}
use Rattle.alt_run.specs.declared.words.Job.TheVariants.{Replay, Serve, Trial}
use Rattle.alt_talks.specs.Stops.{AtEach}
use Rattle.alt_tables.specs.FilesLeft.{IsFirstGiven}
use Rattle.alt_tables.specs.Stands.{Stands}
use Rattle.alt_tables.specs.Images.{StandsFor}
use Rattle.alt_tables.specs.OpeningRecovery.{IsExplained, IsOfFiles, HasNoState, WasLeft}
use Rattle.alt_tables.specs.OpeningDeclaredOpenFault.{OpenFault}
use Rattle.alt_tables.proofs.Left.{stands_left, stands_read, stands_trusted}
use Rattle.alt_talks.proofs.StretchLeaving.{leaves-weaker}
use Rattle.alt_talks.specs.Works.{WorksOnStore}
use Rattle.alt_tables.specs.declared.tables.Tables.{Tables}

-- calls of the disk alone, which leave what a stop left before, are an opening
pub opening_of : (a b : DiskState) → Goes a b → AtEach a b (WasLeft a) → IsOpening a b
opening_of a b goes leaves = record {
  silent = subst (λ (log : Log). Grows a.beside log []) (sym goes.beside) (Grows-nil a.beside);
  unasked = ap moments_of goes.beside;
  trusts = trusted_on a b goes;
  leaves = leaves;
}

-- and then something is done from the state for which the files stood
pub opened_then : (a b c : DiskState) (P : State → DiskState → DiskState → Type 0) (s : State)
    → StandsFor a.file s → Goes a b → AtEach a b (WasLeft a) → P s b c → Opened a c P
opened_then a b c P s stood goes leaves behind = record {
  from = s;
  stood = stood;
  opened = b;
  opening = opening_of a b goes leaves;
  behind = behind;
}

-- tables that are opened again stand for the state for which they stood
pub still_stands : (a b : DiskState) (tables opened : Tables) (s : State) → Stands a tables s
    → (IsTrusted a → (r : State) → StandsFor a.file r → Stands b opened r) → Stands b opened s
still_stands a b tables opened s stands again =
    again (stands_trusted _ _ _ stands) s (stands_read a tables s stands)

-- so whatever a stop leaves on the way stands for it
pub opening_works : (a b : DiskState) (tables : Tables) (s : State) → Stands a tables s → Goes a b
    → AtEach a b (WasLeft a) → WorksOnStore a b s
opening_works a b tables s stands goes leaves = record {
  goes = goes;
  leaves = leaves-weaker a b (WasLeft a) (λ _ image. StandsFor image s)
      (λ t image was. was.same s (stands_left a tables s stands was.before was.left)) leaves;
}

-- what an opening tells of damage
pub unreadable_of : (files : ℕ → Option (List ℕ)) (given : OpenFault) (fault : RunFault)
    → told_by_run fault ≡ told_by_opening given → IsExplained files given
    → HasNoState files given → IsUnreadable files fault
unreadable_of files given fault same is none =
    subst (OnlyDamaged (λ d. IsOfFiles files d × ((s : State) → StandsFor files s → ⊥)))
    (sym same) (both-damaged (IsOfFiles files) (λ d. (s : State) → StandsFor files s → ⊥)
    (told_by_opening given) is none)

-- files that stand for a state are opened, unless the device fails or memory is refused
pub readable_cause : (fault : RunFault) (files : ℕ → Option (List ℕ)) (s : State)
    → StandsFor files s → IsUnreadable files fault → IsCausedBy None fault
readable_cause fault files s stands h =
    tells-more (λ n. ⊥) (λ n. option_map (λ (l : Lack). l.number) None ≡ Some n)
    (λ d. IsOfFiles files d × ((t : State) → StandsFor files t → ⊥)) (λ d. ⊥) (λ n no. absurd no)
    (λ d both. both.1 s stands) (told_by_run fault) h

-- what broke off, by the number of the first file that was made
pub from_broken : (files : ℕ → Option (List ℕ)) (next : ℕ) (job : Job) (s : State) (a d : DiskState)
    → IsFirstGiven files next → (result : Result Unit RunFault)
    → MatchResult result (λ _. Done job s a d) (λ f. BrokenFrom next f job s a d)
    → MatchResult result (λ _. Done job s a d) (λ f. Broken files f job s a d)
from_broken files next job s a d given (Ok done) h = h
from_broken files next job s a d given (Err fault) h = (next, given, h)

-- however what was done behind the opening ended
pub opened_result : (a b c : DiskState) (s : State) (job : Job) → StandsFor a.file s → Goes a b
    → AtEach a b (WasLeft a) → (result : Result Unit RunFault)
    → MatchResult result (λ _. Done job s b c) (λ f. Broken a.file f job s b c)
    → MatchResult result (λ _. Opened a c (Done job))
    (λ f. (IsOpening a c × IsUnreadable a.file f) ⊎ Opened a c (Broken a.file f job))
opened_result a b c s job stood goes leaves (Ok done) h =
    opened_then a b c (Done job) s stood goes leaves h
opened_result a b c s job stood goes leaves (Err fault) h =
    inr (opened_then a b c (Broken a.file fault job) s stood goes leaves h)

-- numbers are never spent in the opening
pub spent_done : (a b : DiskState) (job : Job) (fault : RunFault) (number : ℕ)
    → fault ≡ Spent number
    → (IsTrue a.tells → (IsOpening a b × IsUnreadable a.file fault) ⊎ IsReadable a.file)
    → (IsTrusted a → (IsOpening a b × IsUnreadable a.file fault) ⊎ Opened a b (Broken a.file fault job))
    → HasRun job (ending.Spent number) a b
spent_done a b job fault number same readable answered = (
  λ tells. ⊎_elim
      (λ x. absurd (subst (IsUnreadable a.file) same x.1))
      (λ x. x)
      (readable tells),
  λ trusted. ⊎_elim
      (λ x. absurd (subst (IsUnreadable a.file) same x.1))
      (λ x. subst (λ (f : RunFault). Opened a b (Broken a.file f job)) same x)
      (answered trusted),
)

-- a run that was broken off by this fault, in the opening or behind it
pub breaks_done : (a b : DiskState) (job : Job) (fault why : RunFault) → fault ≡ why
    → (IsTrusted a → (IsOpening a b × IsUnreadable a.file fault) ⊎ Opened a b (Broken a.file fault job))
    → BreaksOff why job a b
breaks_done a b job fault why same answered trusted = ⊎_elim
    (λ x. inl x.0)
    (λ x. inr (subst (λ (f : RunFault). Opened a b (Broken a.file f job)) same x))
    (answered trusted)

-- what has no cause among requests breaks off no run behind an opening
broken_well : (next : ℕ) (job : Job) (fault : RunFault) (s : State) (b c : DiskState)
    → ((lack : Option Lack) → IsCausedBy lack fault → ⊥) → ((n : ℕ) → IsFileFault n fault → ⊥)
    → BrokenFrom next fault job s b c → ⊥
broken_well next Replay fault s b c never idle h = ⊎_elim (λ x. never _ x) (λ x. idle _ x.0)
    h.holds.breaks.wants
broken_well next (Serve per count) fault s b c never idle h = ⊎_elim
    (λ x. never None x.1)
    (λ x. ⊎_elim
    (λ one. ⊎_elim (λ y. never _ y) (λ y. idle _ y.0) one.2.some.wants)
    (λ one. ⊎_elim (λ y. never _ y) (λ y. idle _ y.1) one.2.cause)
    x)
    h.holds.0.some
broken_well next (Trial seed count) fault s b c never idle h = ⊎_elim (λ x. never _ x)
    (λ x. idle _ x.0) h.holds.wants

trusted_by : (a : DiskState) → IsTrue a.tells → a.honest ≡ true → IsTrusted a
trusted_by a tells honest = grind (arith, tells, honest)

-- a run that ended for damage
pub damaged_done : (a b : DiskState) (job : Job) (fault why : RunFault) → fault ≡ why
    → ((lack : Option Lack) → IsCausedBy lack why → ⊥) → ((n : ℕ) → IsFileFault n why → ⊥)
    → (IsTrue a.tells → (IsOpening a b × IsUnreadable a.file fault) ⊎ IsReadable a.file)
    → (IsTrusted a → (IsOpening a b × IsUnreadable a.file fault) ⊎ Opened a b (Broken a.file fault job))
    → WasDamaged why a b
damaged_done a b job fault why same never idle readable answered tells =
    ⊎_elim opening (λ x. by_honest x a.honest refl) (readable tells)
  where
    opening : IsOpening a b × IsUnreadable a.file fault
        → (IsOpening a b × IsUnreadable a.file why) ⊎ (IsReadable a.file × (a.honest ≡ false))
    opening x = inl (x.0, subst (IsUnreadable a.file) same x.1)

    by_honest : IsReadable a.file → (x : Bool) → a.honest ≡ x
        → (IsOpening a b × IsUnreadable a.file why) ⊎ (IsReadable a.file × (a.honest ≡ false))
    by_honest stood false e = inr (stood, e)
    by_honest stood true e = ⊎_elim opening
        (λ o. absurd (broken_well o.behind.0 job why o.from o.opened b never idle
        (subst (λ (f : RunFault). BrokenFrom o.behind.0 f job o.from o.opened b) same o.behind.2)))
        (answered (trusted_by a tells e))
