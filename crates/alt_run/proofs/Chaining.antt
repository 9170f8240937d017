-- What a stop leaves of a run, whatever it was to do and however it ended, and of runs one after another.
use Rattle.std.proofs.Common.{◌≤◌, ◌<◌, ◌⊎◌, inl, inr, ⊎_elim, ℕ, List, [], ◌∷◌, ◌++◌, refl, sym, subst, ◌∙◌, arith, append-nil, Option, None}
use Rattle.std.specs.Prelude.{suc}
use Rattle.std.proofs.lemmas.Grind.{flat_map-append}
use Rattle.alt_disk.specs.Fates.{Fates, Fits}
use Rattle.alt_disk.specs.Disk.{DiskState, IsImage, IsTrusted}
use Rattle.alt_disk.proofs.Runs.{tells_of}
use Rattle.alt_machine.specs.State.{State}
use Rattle.alt_shell.specs.Log.{Log, Grows, TellsMoments, moments_of, entry, accepted}
use Rattle.alt_shell.proofs.Telling.{Grows-then}
use Rattle.alt_talks.specs.Connections.{Connection, connection_entries}
use Rattle.alt_talks.specs.Own.{last_told}
use Rattle.alt_talks.specs.Stops.{Image, AtEach, AreWithin}
use Rattle.alt_talks.specs.TalkRules.{talk_rules}
use Rattle.alt_talks.specs.TalkStops.{LeftAmong}
use Rattle.alt_talks.specs.Talks.{Rules}
use Rattle.alt_talks.proofs.Stopping.{until-before}
use Rattle.alt_talks.proofs.StretchLeaving.{leaves-weaker}
use Rattle.alt_talks.specs.declared.fault.RunFault.{RunFault}
use Rattle.alt_talks.specs.declared.fault.RunFault.TheVariants as why
use Rattle.alt_run.proofs.EndingMemory.{honest_of}
use Rattle.alt_run.specs.Chains.{Step, disk_behind_steps, IsChain, LeftOf, LeftEarly, LeftLater, ChainHolds}
use Rattle.alt_run.specs.Endings.{BrokenFrom, HasRun, Done, Broken, BreaksOff, WasDamaged, IsReadable}
use Rattle.alt_run.specs.Runs.{IsOpening, Opened}
use Rattle.alt_run.specs.Wholes.{DiskIsWhole}
use Rattle.alt_run.specs.declared.ending.Ending.{Ending}
use Rattle.alt_run.specs.declared.ending.Ending.TheVariants.{Whole, Words, NotEmpty, Damaged, DigestDiffers, BadRow, Device, Memory, Spent}
use Rattle.alt_run.specs.declared.words.Job.{Job}
use Rattle.alt_run.specs.declared.words.Job.TheVariants.{Replay, Serve, Trial}

-- ---- files that a job leaves stand for a state

among_stands : (r : Rules) (per n : ℕ) (m : Option ℕ) (ks : List Connection) (s : State) (t : ℕ)
    (image : Image) → LeftAmong r per n m s ks t image → IsReadable image
among_stands r per n m [] s t image left = (s, left)
among_stands r per n m (k ∷ ks) s t image (inl x) = (_, x.0.behind.stands)
among_stands r per n m (k ∷ ks) s t image (inr (inl x)) = (_, x.2.1)
among_stands r per n m (k ∷ ks) s t image (inr (inr x)) =
    among_stands r per (suc n) (last_told m k.told) ks _ t image x.1

left_stands : (job : Job) (s : State) (t : ℕ) (es : Log) (ms : List ℕ) (image : Image)
    → LeftOf job s t es ms image → IsReadable image
left_stands Replay s t es ms image left = (_, left.behind.stands)
left_stands (Serve per count) s t es ms image left =
    among_stands talk_rules per 1 None left.0 s t image left.4
left_stands (Trial seed count) s t es ms image left = (_, left.behind.stands)

-- ---- what a job leaves behind an opening, done or broken off

record LeavesBehind (job : Job) (s : State) (b c : DiskState) : Type 0 where
  entries : Log
  told : List ℕ
  grows : Grows b.beside c.beside entries
  tells : TellsMoments (moments_of b.beside) (moments_of c.beside) told
  within : AreWithin b.moment c.moment entries
  leaves : AtEach b c (λ t image. LeftOf job s t entries told image)

done_leaves : (job : Job) (s : State) (b c : DiskState) → Done job s b c → LeavesBehind job s b c
done_leaves Replay s b c x = record {
  entries = x.entries;
  told = x.told;
  grows = x.grows;
  tells = x.tells;
  within = x.within;
  leaves = x.holds.leaves;
}
done_leaves (Serve per count) s b c x = record {
  entries = x.entries;
  told = x.told;
  grows = x.grows;
  tells = x.tells;
  within = x.within;
  leaves =
      let served = x.holds.1 in
      leaves-weaker b c (LeftAmong talk_rules per 1 None s served.0.all)
      (λ t image. LeftOf (Serve per count) s t x.entries x.told image)
      (λ t image left. (served.0.all, served.0.last, served.0.made, served.0.moments, left))
      served.1;
}
done_leaves (Trial seed count) s b c x = record {
  entries = x.entries;
  told = x.told;
  grows = x.grows;
  tells = x.tells;
  within = x.within;
  leaves = x.holds.leaves;
}

broken_leaves : (next : ℕ) (fault : RunFault) (job : Job) (s : State) (b c : DiskState)
    → BrokenFrom next fault job s b c → LeavesBehind job s b c
broken_leaves next fault Replay s b c x = record {
  entries = x.entries;
  told = x.told;
  grows = x.grows;
  tells = x.tells;
  within = x.within;
  leaves = x.holds.leaves;
}
broken_leaves next fault (Serve per count) s b c x = record {
  entries = x.entries;
  told = x.told;
  grows = x.grows;
  tells = x.tells;
  within = x.within;
  leaves =
      let served = x.holds.0 in
      leaves-weaker b c (LeftAmong talk_rules per 1 None s (served.all ++ served.last))
      (λ t image. LeftOf (Serve per count) s t x.entries x.told image)
      (λ t image left. (
        served.all ++ served.last,
        [],
        served.made ∙ sym (flat_map-append
            (λ (k : Connection). entry k.moment k.clocked accepted ∷ k.entries)
            served.all served.last) ∙ sym (append-nil (connection_entries (served.all ++ served.last))),
        served.moments ∙ sym (flat_map-append (λ (k : Connection). k.told) served.all served.last),
        left,
      ))
      x.holds.1;
}
broken_leaves next fault (Trial seed count) s b c x = record {
  entries = x.entries;
  told = x.told;
  grows = x.grows;
  tells = x.tells;
  within = x.within;
  leaves = x.holds.leaves;
}

-- ---- what a stop leaves of a run

-- files that a stop left as the run began, and what one at a moment of it left over them
abbrev pub LeftOver : DiskState → Step → Image → Type 0
LeftOver old step image = (files : Image) × IsImage old old.moment files
    × (LeftEarly old step files image ⊎ LeftLater old step files image)

module _ (old : DiskState) (step : Step) (trusted : IsTrusted old)
    (reads : IsImage old old.moment old.file)
    (from : old.moment ≤ step.at) (to : step.at ≤ step.new.moment) (image : Image)
    (is : IsImage step.new step.at image) where
  -- in an opening that was broken off
  early : IsOpening old step.new → LeftOver old step image
  early x =
      let was = (x.leaves trusted).each step.at image from to is in (
        was.before,
        was.left,
        inl (record { entries = []; grows = x.silent; none = refl; same = was.same }),
      )

  opened_left : (P : State → DiskState → DiskState → Type 0)
      → ((s : State) (b : DiskState) → P s b step.new → LeavesBehind step.job s b step.new)
      → Opened old step.new P → LeftOver old step image
  opened_left P law x = by_moment (split step.at x.opened.moment)
    where
      all : LeavesBehind step.job x.from x.opened step.new
      all = law x.from x.opened x.behind

      grows : Grows old.beside step.new.beside all.entries
      grows = Grows-then old.beside x.opened.beside step.new.beside [] all.entries x.opening.silent
          all.grows

      split : (m n : ℕ) → (m < n) ⊎ (n ≤ m)
      split m n = grind arith

      by_moment : (step.at < x.opened.moment) ⊎ (x.opened.moment ≤ step.at) → LeftOver old step image
      by_moment (inl before) =
          let spans = all.leaves (x.opening.trusts trusted) in
          let was = (x.opening.leaves trusted).each step.at image from (omega (arith, before))
          (λ f. subst (λ (fates : Fates). Fits fates (image f))
          (spans.past step.at f (omega (arith, before))) (is f)) in (
            was.before,
            was.left,
            inl (record {
              entries = all.entries;
              grows = grows;
              none = until-before x.opened.moment step.new.moment step.at all.entries all.within before;
              same = was.same;
            }),
          )
      by_moment (inr behind_it) = (
        old.file,
        reads,
        inr (record {
          from = x.from;
          stood = x.stood;
          entries = all.entries;
          told = all.told;
          grows = grows;
          tells = subst (λ (m : Option (List ℕ)). TellsMoments m (moments_of step.new.beside) all.told)
              x.opening.unasked all.tells;
          left = (all.leaves (x.opening.trusts trusted)).each step.at image behind_it to is;
        }),
      )

  breaks_left : (fault : RunFault) → BreaksOff fault step.job old step.new → LeftOver old step image
  breaks_left fault x = ⊎_elim early
      (opened_left (Broken old.file fault step.job)
      (λ s b x. broken_leaves x.0 fault step.job s b step.new x.2))
      (x trusted)

  damaged_left : (fault : RunFault) → WasDamaged fault old step.new → LeftOver old step image
  damaged_left fault x = ⊎_elim (λ y. early y.0)
      (λ y. absurd (honest_of old trusted y.1))
      (x (tells_of old trusted))

  pub run_left : (ending : Ending) → HasRun step.job ending old step.new → LeftOver old step image
  run_left Whole x = opened_left (Done step.job) (λ s b. done_leaves step.job s b step.new)
      (x.1 trusted)
  run_left Words x = absurd x
  run_left (NotEmpty first) x = absurd x
  run_left (Damaged file at) x = damaged_left (why.Damaged file at) x
  run_left (DigestDiffers file kept found) x = damaged_left (why.DigestDiffers file kept found) x
  run_left (BadRow family key) x = damaged_left (why.BadRow family key) x
  run_left Device x = breaks_left why.Failed x.1
  run_left Memory x = breaks_left why.NoMemory x
  run_left (Spent number) x = opened_left (Broken old.file (why.Spent number) step.job)
      (λ s b x. broken_leaves x.0 (why.Spent number) step.job s b step.new x.2) (x.1 trusted)

-- what a stop leaves of a run over a whole disk stands for a state
pub left_whole : (old : DiskState) (step : Step) (image : Image) → DiskIsWhole old old.moment
    → LeftOver old step image → IsReadable image
left_whole old step image whole over = ⊎_elim
    (λ early. let state = whole.each over.0 over.1 in (state.0, early.same state.0 state.1))
    (λ later. left_stands step.job later.from step.at later.entries later.told image later.left)
    over.2

-- ---- chains

pub chains_hold : (first : DiskState) (steps : List Step) → DiskIsWhole first first.moment
    → IsImage first first.moment first.file → IsChain first steps → ChainHolds first steps
chains_hold first [] whole reads chain = record {
  whole = whole;
  reads = reads;
  left = λ image is. is;
}
chains_hold first (step ∷ steps) whole reads chain =
    let held = chains_hold first steps whole reads chain.0 in
    let old : DiskState = disk_behind_steps first steps in
    let over : (image : Image) → IsImage step.next step.next.moment image → LeftOver old step image =
    λ image is. run_left old step held.whole.trusted held.reads chain.1.from chain.1.to image
    (chain.1.found.left image is) step.ending chain.1.ran in
    record {
      whole = record {
        trusted = chain.1.found.trusted;
        each = λ image is. left_whole old step image held.whole (over image is);
      };
      reads = chain.1.found.reads;
      left = λ image is.
          let x = over image is in (x.0, held.left x.0 x.1, x.2);
    }
