-- A note behind an ending changes nothing that the run has done, kind by kind.
use Rattle.std.proofs.Common.{◌≡◌, inl, inr, ⊎_elim, ℕ, List, [], ◌++◌, Bool, Option, Some, None, sym, ap, subst, ◌∙◌, arith, append-nil, true, IsTrue, ◌&&◌}
use Rattle.alt_base.specs.Counts.{Rose}
use Rattle.alt_disk.specs.Fates.{Fates, Fits}
use Rattle.alt_disk.specs.Disk.{DiskState}
use Rattle.alt_machine.specs.State.{State}
use Rattle.alt_shell.specs.Calls.{Aside}
use Rattle.alt_shell.specs.Log.{Log, Grows, moments_of, taken}
use Rattle.alt_shell.proofs.Telling.{Grows-then}
use Rattle.alt_run.specs.Endings.{BrokenFrom, HasDone, HasRun, MakesStore, BreaksOff, WasDamaged, Done, Broken, SaysNothing, SaysSome}
use Rattle.alt_run.specs.Runs.{AnswersAllLines, AnswersSomeLines, LeftThen, IsOpening, Opened}
use Rattle.alt_talks.specs.TalkRules.{talk_rules}
use Rattle.alt_talks.specs.TalkStops.{LeftAmong, ServedOn, ServedSomeOn, LeavesNow}
use Rattle.alt_run.specs.Trials.{Tries, TriesSome, LeftOfTrial, all_turns}
use Rattle.alt_tables.specs.OpeningRecovery.{WasLeft}
use Rattle.alt_talks.specs.declared.fault.RunFault.{RunFault}
use Rattle.alt_talks.specs.declared.fault.RunFault.TheVariants as why
use Rattle.alt_run.specs.declared.ending.Ending.{Ending}
use Rattle.alt_run.specs.declared.ending.Ending.TheVariants.{Whole, Words, NotEmpty, Damaged, DigestDiffers, BadRow, Device, Memory, Spent}
use Rattle.alt_run.specs.declared.words.Command.{Command}
use Rattle.alt_run.specs.declared.words.Command.TheVariants.{Init, Over}
use Rattle.alt_run.specs.declared.words.Job.{Job}
use Rattle.alt_run.specs.declared.words.Job.TheVariants.{Replay, Serve, Trial}
use Rattle.alt_talks.proofs.Stretching.{stretch_quiet}
use Rattle.alt_run.proofs.Initing.{quiet_behind}
use Rattle.alt_talks.proofs.StretchLeaving.{leaves-before-aside}
use Rattle.alt_talks.specs.Turns.{after}
use Rattle.alt_run.specs.Turns.{turns_of_lines, asks}

module _ (b c : DiskState) (g : Grows b.beside c.beside [])
    (m : moments_of c.beside ≡ moments_of b.beside) (aside : Aside b c) where
  -- what a stop now leaves stands for the same state
  last_behind : (s : State) → LeavesNow b s → LeavesNow c s
  last_behind s now trusted image is_image =
      now (subst (λ (v : Bool). IsTrue v) (λ i. aside.keeps.tells i && aside.keeps.honest i) trusted)
      image
      (λ f. subst (λ (fates : Fates). Fits fates (image f))
      (ap (λ (t : ℕ). c.fates t f) aside.moment ∙ aside.keeps.past b.moment f (omega arith))
      (is_image f))

  all_behind : (a : DiskState) (s : State) (es : Log) (ms : List ℕ) → AnswersAllLines s a b es ms
      → AnswersAllLines s a c es ms
  all_behind a s es ms x = record {
    at_end = x.at_end;
    inside = x.inside;
    said = x.said;
    count = x.count;
    enough = x.enough;
    leaves = leaves-before-aside a b c (LeftThen s es ms) aside x.leaves;
    last = last_behind (after s (turns_of_lines s (asks true (taken es)) ms)) x.last;
  }

  some_behind : (a : DiskState) (fault : RunFault) (next : ℕ) (s : State) (es : Log) (ms : List ℕ)
      → AnswersSomeLines fault next s a b es ms → AnswersSomeLines fault next s a c es ms
  some_behind a fault next s es ms x = record {
    breaks = x.breaks;
    inside = x.inside;
    said = x.said;
    leaves = leaves-before-aside a b c (LeftThen s es ms) aside x.leaves;
  }

  tries_behind : (a : DiskState) (s : State) (seed count : ℕ) (es : Log) (ms : List ℕ)
      → Tries s seed count a b es ms → Tries s seed count a c es ms
  tries_behind a s seed count es ms x = record {
    said = x.said;
    rests = x.rests;
    unasked = x.unasked;
    enough = x.enough;
    leaves = leaves-before-aside a b c (LeftOfTrial s seed count es) aside x.leaves;
    last = last_behind (after s (all_turns s seed count)) x.last;
  }

  tries_some_behind : (a : DiskState) (fault : RunFault) (next : ℕ) (s : State) (seed count : ℕ)
      (es : Log) (ms : List ℕ) → TriesSome fault next s seed count a b es ms
      → TriesSome fault next s seed count a c es ms
  tries_some_behind a fault next s seed count es ms x = record {
    said = x.said;
    rests = x.rests;
    unasked = x.unasked;
    begun = x.begun;
    rest = x.rest;
    lines = x.lines;
    wants = x.wants;
    leaves = leaves-before-aside a b c (LeftOfTrial s seed count es) aside x.leaves;
  }

  makes_behind : (a : DiskState) (es : Log) (ms : List ℕ) → MakesStore a b es ms → MakesStore a c es ms
  makes_behind a es ms x = record {
    said = x.said;
    untaken = x.untaken;
    inside = x.inside;
    unasked = x.unasked;
    none = x.none;
    stands = λ trusted image is_image. x.stands trusted image
        (λ f. subst (λ (fates : Fates). Fits fates (image f))
        (ap (λ (t : ℕ). c.fates t f) aside.moment ∙ aside.keeps.past b.moment f (omega arith))
        (is_image f));
  }

  silent_behind : (a : DiskState) → SaysNothing a b → SaysNothing a c
  silent_behind a x = record {
    silent = Grows-then a.beside b.beside c.beside [] [] x.silent g;
    unasked = m ∙ x.unasked;
  }

  said_behind : (a : DiskState) → SaysSome a b → SaysSome a c
  said_behind a x = record {
    entries = x.entries;
    grows = subst (λ (es : Log). Grows a.beside c.beside es) (append-nil x.entries)
        (Grows-then a.beside b.beside c.beside x.entries [] x.grows g);
    said = x.said;
    untaken = x.untaken;
    inside = x.inside;
    unasked = m ∙ x.unasked;
    stands = λ more trusted image is_image. x.stands more trusted image
        (λ f. subst (λ (fates : Fates). Fits fates (image f))
        (ap (λ (t : ℕ). c.fates t f) aside.moment ∙ aside.keeps.past b.moment f (omega arith))
        (is_image f));
  }

  opening_behind : (a : DiskState) → IsOpening a b → IsOpening a c
  opening_behind a x = record {
    silent = Grows-then a.beside b.beside c.beside [] [] x.silent g;
    unasked = m ∙ x.unasked;
    trusts = λ trusted. subst (λ (v : Bool). IsTrue v)
        (sym (λ i. aside.keeps.tells i && aside.keeps.honest i)) (x.trusts trusted);
    leaves = leaves-before-aside a b c (WasLeft a) aside x.leaves;
  }

  done_behind : (job : Job) (s : State) (o : DiskState) → Done job s o b → Done job s o c
  done_behind Replay s o x = stretch_quiet o b c {P = AnswersAllLines s} (all_behind o s) x aside g m
  done_behind (Serve per count) s o x = stretch_quiet o b c
      {P = λ old new es ms. (t : State) × ServedOn talk_rules per count s t old new es ms × LeavesNow new t}
      (λ es ms y. (
        y.0,
        (
          y.1.0,
          leaves-before-aside o b c (LeftAmong talk_rules per 1 None s y.1.0.all) aside y.1.1,
        ),
        last_behind y.0 y.2,
      ))
      x aside g m
  done_behind (Trial seed count) s o x = stretch_quiet o b c {P = Tries s seed count}
      (tries_behind o s seed count) x aside g m

  from_behind : (next : ℕ) (fault : RunFault) (job : Job) (s : State) (o : DiskState)
      → BrokenFrom next fault job s o b → BrokenFrom next fault job s o c
  from_behind next fault Replay s o x =
      stretch_quiet o b c {P = AnswersSomeLines fault next s} (some_behind o fault next s) x aside g m
  from_behind next fault (Serve per count) s o x = stretch_quiet o b c
      {P = ServedSomeOn talk_rules per count fault next s}
      (λ es ms y. (
        y.0,
        leaves-before-aside o b c (LeftAmong talk_rules per 1 None s (y.0.all ++ y.0.last)) aside y.1,
      ))
      x aside g m
  from_behind next fault (Trial seed count) s o x = stretch_quiet o b c
      {P = TriesSome fault next s seed count} (tries_some_behind o fault next s seed count) x aside
      g m

  broken_behind : (files : ℕ → Option (List ℕ)) (fault : RunFault) (job : Job) (s : State)
      (o : DiskState) → Broken files fault job s o b → Broken files fault job s o c
  broken_behind files fault job s o x = (x.0, x.1, from_behind x.0 fault job s o x.2)

  opened_behind : (a : DiskState) (P : State → DiskState → DiskState → Type 0)
      → ((s : State) (o : DiskState) → P s o b → P s o c) → Opened a b P → Opened a c P
  opened_behind a P law h = record {
    from = h.from;
    stood = h.stood;
    opened = h.opened;
    opening = h.opening;
    behind = law h.from h.opened h.behind;
  }

  breaks_behind : (a : DiskState) (fault : RunFault) (job : Job) → BreaksOff fault job a b
      → BreaksOff fault job a c
  breaks_behind a fault job h trusted = ⊎_elim
      (λ x. inl (opening_behind a x))
      (λ x. inr (opened_behind a (Broken a.file fault job) (broken_behind a.file fault job) x))
      (h trusted)

  damaged_behind : (a : DiskState) (fault : RunFault) → WasDamaged fault a b → WasDamaged fault a c
  damaged_behind a fault h tells = ⊎_elim
      (λ x. inl (opening_behind a x.0, x.1))
      (λ x. inr x)
      (h tells)

  run_behind : (a : DiskState) (job : Job) (ending : Ending) → HasRun job ending a b
      → HasRun job ending a c
  run_behind a job Whole h = (
    h.0,
    λ trusted. opened_behind a (Done job) (done_behind job) (h.1 trusted),
  )
  run_behind a job Words h = absurd h
  run_behind a job (NotEmpty first) h = absurd h
  run_behind a job (Damaged file at) h = damaged_behind a (why.Damaged file at) h
  run_behind a job (DigestDiffers file kept found) h = damaged_behind a (why.DigestDiffers file kept found) h
  run_behind a job (BadRow family key) h = damaged_behind a (why.BadRow family key) h
  run_behind a job Device h = (
    subst (Rose a.faults) (sym aside.faults) h.0,
    breaks_behind a why.Failed job h.1,
  )
  run_behind a job Memory h = breaks_behind a why.NoMemory job h
  run_behind a job (Spent number) h = (
    h.0,
    λ trusted. opened_behind a (Broken a.file (why.Spent number) job)
        (broken_behind a.file (why.Spent number) job) (h.1 trusted),
  )

  -- what was done is still done behind the note
  pub still_done : (a : DiskState) (command : Option Command) (ending : Ending)
      → HasDone command ending a b → HasDone command ending a c
  still_done a None Whole h = absurd h
  still_done a None Words h = record {
    moment = aside.moment ∙ h.moment;
    faults = aside.faults ∙ h.faults;
    silent = Grows-then a.beside b.beside c.beside [] [] h.silent g;
    unasked = m ∙ h.unasked;
  }
  still_done a None (NotEmpty first) h = absurd h
  still_done a None (Damaged file at) h = absurd h
  still_done a None (DigestDiffers file kept found) h = absurd h
  still_done a None (BadRow family key) h = absurd h
  still_done a None Device h = absurd h
  still_done a None Memory h = absurd h
  still_done a None (Spent number) h = absurd h
  still_done a (Some Init) Whole h = stretch_quiet a b c {P = MakesStore} (makes_behind a) h aside g m
  still_done a (Some Init) Words h = absurd h
  still_done a (Some Init) (NotEmpty first) h = (
    silent_behind a h.0,
    λ tells. ((h.1 tells).0, quiet_behind a b c aside (h.1 tells).1),
  )
  still_done a (Some Init) (Damaged file at) h = absurd h
  still_done a (Some Init) (DigestDiffers file kept found) h = absurd h
  still_done a (Some Init) (BadRow family key) h = absurd h
  still_done a (Some Init) Device h = (
    said_behind a h.0,
    subst (Rose a.faults) (sym aside.faults) h.1,
  )
  still_done a (Some Init) Memory h = silent_behind a h
  still_done a (Some Init) (Spent number) h = absurd h
  still_done a (Some (Over job limits)) ending h = run_behind a job ending h
