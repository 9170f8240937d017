-- What a run has done that a fault broke off.
use Rattle.std.proofs.Common.{◌≡◌, ◌⊎◌, IsTrue, refl, subst, sym}
use Rattle.alt_base.specs.Counts.{Rose}
use Rattle.alt_disk.specs.Disk.{DiskState, IsTrusted}
use Rattle.alt_talks.specs.declared.fault.RunFault.{RunFault}
use Rattle.alt_talks.specs.declared.fault.RunFault.TheVariants.{Failed, NoMemory, Spent, Damaged, DigestDiffers, BadRow}
use Rattle.alt_run.specs.private.EndingOf.{ending_of}
use Rattle.alt_run.specs.Endings.{HasRun, Broken, IsReadable}
use Rattle.alt_run.specs.Faults.{IsUnreadable}
use Rattle.alt_run.specs.Runs.{IsOpening, Opened}
use Rattle.alt_run.specs.declared.ending.Ending.{Ending}
use Rattle.alt_run.specs.declared.ending.Ending.TheVariants as ending
use Rattle.alt_run.specs.declared.words.Job.{Job}
use Rattle.alt_run.proofs.Opening.{spent_done, breaks_done, damaged_done}

-- by its fault: its cause, and how far the opening and the run behind it came
pub ended_for : (a b : DiskState) (job : Job) (f : RunFault)
    → (f ≡ Failed → Rose a.faults b.faults)
    → (IsTrue a.tells → (IsOpening a b × IsUnreadable a.file f) ⊎ IsReadable a.file)
    → (IsTrusted a → (IsOpening a b × IsUnreadable a.file f) ⊎ Opened a b (Broken a.file f job))
    → HasRun job (ending_of f) a b
ended_for a b job Failed cause readable answered =
    (cause refl, breaks_done a b job Failed Failed refl answered)
ended_for a b job NoMemory cause readable answered =
    breaks_done a b job NoMemory NoMemory refl answered
ended_for a b job (Spent number) cause readable answered =
    spent_done a b job (Spent number) number refl readable answered
ended_for a b job (Damaged file at) cause readable answered =
    damaged_done a b job (Damaged file at) (Damaged file at) refl (λ lack h. h) (λ n h. h) readable
    answered
ended_for a b job (DigestDiffers file kept found) cause readable answered =
    damaged_done a b job (DigestDiffers file kept found) (DigestDiffers file kept found) refl
    (λ lack h. h) (λ n h. h) readable answered
ended_for a b job (BadRow family key) cause readable answered =
    damaged_done a b job (BadRow family key) (BadRow family key) refl (λ lack h. h) (λ n h. h)
    readable answered

-- what only a run has that wasn't broken off
abbrev IsWhole : Ending → Type 0
IsWhole ending.Whole = Unit {0}
IsWhole ending.Words = ⊥
IsWhole (ending.NotEmpty first) = ⊥
IsWhole (ending.Damaged file at) = ⊥
IsWhole (ending.DigestDiffers file kept found) = ⊥
IsWhole (ending.BadRow family key) = ⊥
IsWhole ending.Device = ⊥
IsWhole ending.Memory = ⊥
IsWhole (ending.Spent number) = ⊥

broken_off : (f : RunFault) → IsWhole (ending_of f) → ⊥
broken_off Failed h = h
broken_off NoMemory h = h
broken_off (Spent number) h = h
broken_off (Damaged file at) h = h
broken_off (DigestDiffers file kept found) h = h
broken_off (BadRow family key) h = h

-- no fault has the ending of a run that did all
pub never_whole : (f : RunFault) (e : Ending) → e ≡ ending_of f → e ≡ ending.Whole → ⊥
never_whole f e same whole = broken_off f (subst IsWhole same (subst IsWhole (sym whole) tt))
