-- A disk that was whole as a run began is whole at each of its moments.
use Rattle.std.proofs.Common.{◌≡◌, ◌≢◌, ◌≤◌, ℕ, IsTrue, Bool, ◌&&◌, Option, Some, None, refl, sym, ap, subst, ◌∙◌, arith}
use Rattle.alt_disk.specs.Fates.{Fates, Fits}
use Rattle.alt_disk.specs.Disk.{DiskState, IsImage, IsTrusted}
use Rattle.alt_disk.specs.Runs.{Quiet}
use Rattle.alt_disk.proofs.Runs.{tells_of}
use Rattle.alt_layout.specs.Fresh.{versions_file}
use Rattle.alt_machine.specs.State.{State}
use Rattle.alt_shell.specs.Calls.{Aside}
use Rattle.alt_tables.specs.Images.{StandsFor}
use Rattle.alt_talks.specs.Runs.{Passes}
use Rattle.alt_talks.specs.Stops.{Image}
use Rattle.alt_run.specs.Chains.{Step}
use Rattle.alt_run.specs.Endings.{HasDone, HasRefused, HasRun, IsReadable}
use Rattle.alt_run.specs.Wholes.{DiskIsWhole, StaysWhole}
use Rattle.alt_run.specs.declared.ending.Ending.{Ending}
use Rattle.alt_run.specs.declared.ending.Ending.TheVariants.{Whole, Words, NotEmpty, Damaged, DigestDiffers, BadRow, Device, Memory, Spent}
use Rattle.alt_run.specs.declared.words.Command.{Command}
use Rattle.alt_run.specs.declared.words.Command.TheVariants.{Init, Over}
use Rattle.alt_run.specs.declared.words.Job.{Job}
use Rattle.alt_run.proofs.Chaining.{run_left, left_whole}

-- where a file is there, these calls left all of them
abbrev pub LeavesFiles : DiskState → DiskState → Type 0
LeavesFiles old new = IsTrue old.tells → (f : ℕ) → old.file f ≢ None → Quiet old new

-- files that stand for a state have that of the versions
there : (files : Image) (s : State) → StandsFor files s → files versions_file ≢ None
there files s stands = λ none.
    let is = stands.is.last.log.is in
    let no : ⊥ = grind (arith, none, is) in no

-- what every run keeps, with its note
pub kept_trust : (a b c : DiskState) → Passes a b → Aside b c → IsTrusted a → IsTrusted c
kept_trust a b c passes aside trusted = subst (λ (v : Bool). IsTrue v)
    (sym (λ i. (aside.keeps.tells ∙ passes.tells) i && (aside.keeps.honest ∙ passes.honest) i)) trusted

pub kept_past : (a b c : DiskState) → Passes a b → Aside b c → (t f : ℕ) → t ≤ a.moment
    → c.fates t f ≡ a.fates t f
kept_past a b c passes aside t f le =
    let later = passes.later in
    aside.keeps.past t f (omega (arith, le, later)) ∙ passes.past t f le

module _ (old new : DiskState) (kept : IsTrusted old → IsTrusted new)
    (past : (t f : ℕ) → t ≤ old.moment → new.fates t f ≡ old.fates t f)
    (reads : IsTrusted old → IsImage old old.moment old.file)
    (whole : DiskIsWhole old old.moment) (t : ℕ) (from : old.moment ≤ t) (to : t ≤ new.moment)
    (image : Image) (is : IsImage new t image) where
  -- where no call was made
  untouched_each : new.moment ≡ old.moment → IsReadable image
  untouched_each same =
      let here : t ≡ old.moment = omega (arith, from, to, same) in
      whole.each image (λ f. subst (λ (fates : Fates). Fits fates (image f))
      (past t f (omega (arith, to, same)) ∙ ap (λ (m : ℕ). old.fates m f) here) (is f))

  -- where all files were left
  quiet_each : LeavesFiles old new → IsReadable image
  quiet_each left =
      let state = whole.each old.file (reads whole.trusted) in
      let quiet = left (tells_of old whole.trusted) versions_file (there old.file state.0 state.1) in
      whole.each image (λ f. subst (λ (fates : Fates). Fits fates (image f))
      (quiet.fates t f from to) (is f))

  refused_each : (ending : Ending) → HasRefused ending old new → IsReadable image
  refused_each Whole h = absurd h
  refused_each Words h = untouched_each h.moment
  refused_each (NotEmpty first) h = absurd h
  refused_each (Damaged file at) h = absurd h
  refused_each (DigestDiffers file kept_digest found) h = absurd h
  refused_each (BadRow family key) h = absurd h
  refused_each Device h = absurd h
  refused_each Memory h = absurd h
  refused_each (Spent number) h = absurd h

  run_each : (job : Job) (ending : Ending) → HasRun job ending old new → IsReadable image
  run_each job ending h =
      let step : Step = record { job = job; ending = ending; new = new; at = t; next = new } in
      left_whole old step image whole
      (run_left old step whole.trusted (reads whole.trusted) from to image is ending h)

  done_each : (command : Option Command) (ending : Ending) → HasDone command ending old new
      → (command ≡ Some Init → LeavesFiles old new) → IsReadable image
  done_each None ending h left = refused_each ending h
  done_each (Some Init) ending h left = quiet_each (left refl)
  done_each (Some (Over job limits)) ending h left = run_each job ending h

-- so is what the next program finds behind a stop
pub stays_whole : (old new : DiskState) (command : Option Command) (ending : Ending)
    → (IsTrusted old → IsTrusted new)
    → ((t f : ℕ) → t ≤ old.moment → new.fates t f ≡ old.fates t f)
    → (IsTrusted old → IsImage old old.moment old.file)
    → HasDone command ending old new → (command ≡ Some Init → LeavesFiles old new)
    → StaysWhole old new
stays_whole old new command ending kept past reads h left whole t from to =
    let each : (image : Image) → IsImage new t image → IsReadable image =
    λ image is. done_each old new kept past reads whole t from to image is command ending h left in (
      record { trusted = kept whole.trusted; each = each },
      λ next found. record {
        trusted = found.trusted;
        each = λ image is. each image (found.left image is);
      },
    )
