-- Whatever broke a run off, it has done what one has done that ended for want of memory.
use Rattle.std.proofs.Common.{◌≡◌, inl, inr, ⊎_elim, ℕ, List, Bool, false, Option, Some, None, arith}
use Rattle.alt_disk.specs.Disk.{DiskState, IsTrusted}
use Rattle.alt_disk.proofs.Runs.{tells_of}
use Rattle.alt_machine.specs.State.{State}
use Rattle.alt_shell.specs.Log.{Log}
use Rattle.alt_talks.specs.Connections.{ServedSome, turns_of}
use Rattle.alt_run.specs.Endings.{BrokenFrom, HasDone, HasMade, HasRun, WasDamaged, Broken}
use Rattle.alt_run.specs.private.EndingOf.{HasNumbers}
use Rattle.alt_run.specs.Runs.{AnswersSomeLines, IsOpening, Opened}
use Rattle.alt_talks.specs.Stretches.{DoesSome}
use Rattle.alt_talks.specs.TalkRules.{talk_rules}
use Rattle.alt_talks.specs.TalkStops.{ServedSomeOn}
use Rattle.alt_talks.specs.Talks.{Rules, Turn}
use Rattle.alt_run.specs.Trials.{TriesSome}
use Rattle.alt_talks.specs.declared.fault.RunFault.{RunFault}
use Rattle.alt_talks.specs.declared.fault.RunFault.TheVariants as why
use Rattle.alt_run.specs.declared.ending.Ending.{Ending}
use Rattle.alt_run.specs.declared.ending.Ending.TheVariants.{Whole, Words, NotEmpty, Damaged, DigestDiffers, BadRow, Device, Memory, Spent}
use Rattle.alt_run.specs.declared.words.Command.{Command}
use Rattle.alt_run.specs.declared.words.Command.TheVariants.{Init, Over}
use Rattle.alt_run.specs.declared.words.Job.{Job}
use Rattle.alt_run.specs.declared.words.Job.TheVariants.{Replay, Serve, Trial}
use Rattle.alt_talks.proofs.Stretching.{stretch_as}

-- a run that was broken off is one that was broken off for want of memory
pub some_answers : (a b : DiskState) (fault : RunFault) (next : ℕ) (s : State) (es : Log) (ms : List ℕ)
    → AnswersSomeLines fault next s a b es ms → AnswersSomeLines why.NoMemory next s a b es ms
some_answers a b fault next s es ms x = record {
  breaks = record {
    done = x.breaks.done;
    begun = x.breaks.begun;
    rest = x.breaks.rest;
    lines = x.breaks.lines;
    few = x.breaks.few;
    all = x.breaks.all;
    said = x.breaks.said;
    count = x.breaks.count;
    enough = x.breaks.enough;
    wants = inl tt;
  };
  inside = x.inside;
  said = x.said;
  leaves = x.leaves;
}

-- so are turns that broke off
does_some : (r : Rules) (fault : RunFault) (next : ℕ) (s : State) (m : Bool) (ts : List Turn) (es : Log)
    (ms : List ℕ) → DoesSome r fault next s m ts es ms → DoesSome r why.NoMemory next s m ts es ms
does_some r fault next s m ts es ms x =
    record {
      said = x.said;
      most = x.most;
      wants = inl tt;
      silent = x.silent;
      hush = x.hush;
      still = x.still;
      begins = x.begins;
    }

-- and connections
some_served : (r : Rules) (per count : ℕ) (fault : RunFault) (next : ℕ) (s : State) (es : Log)
    (ms : List ℕ) → ServedSome r per count fault next s es ms
    → ServedSome r per count why.NoMemory next s es ms
some_served r per count fault next s es ms x = record {
  all = x.all;
  halfway = x.halfway;
  each = x.each;
  last = x.last;
  made = x.made;
  moments = x.moments;
  some = elim x.some [
    | inl none ↦ inl (none.0, tt)
    | inr (inl one) ↦ inr (inl (
      one.0,
      one.1,
      record {
        some = does_some r fault _ x.halfway _ (turns_of r per one.0) _ _ one.2.some;
        idle = one.2.idle;
        before = one.2.before;
        at = one.2.at;
        clocked = one.2.clocked;
        hung = one.2.hung;
        inside = one.2.inside;
      },
    ))
    | inr (inr one) ↦ inr (inr (
      one.0,
      one.1,
      record { left = one.2.left; serves = one.2.serves; cause = inl tt },
    ))
  ];
  most = x.most;
}

-- and a trial
some_tries : (a b : DiskState) (fault : RunFault) (next : ℕ) (s : State) (seed count : ℕ) (es : Log)
    (ms : List ℕ) → TriesSome fault next s seed count a b es ms
    → TriesSome why.NoMemory next s seed count a b es ms
some_tries a b fault next s seed count es ms x = record {
  said = x.said;
  rests = x.rests;
  unasked = x.unasked;
  begun = x.begun;
  rest = x.rest;
  lines = x.lines;
  wants = inl tt;
  leaves = x.leaves;
}

broken_memory : (job : Job) (next : ℕ) (fault : RunFault) (s : State) (a b : DiskState)
    → BrokenFrom next fault job s a b → BrokenFrom next why.NoMemory job s a b
unfolding some_served
broken_memory Replay next fault s a b x = stretch_as a b {P = AnswersSomeLines fault next s}
    {Q = AnswersSomeLines why.NoMemory next s}
    (λ es ms within y. some_answers a b fault next s es ms y) x
broken_memory (Serve per count) next fault s a b x = stretch_as a b
    {P = ServedSomeOn talk_rules per count fault next s}
    {Q = ServedSomeOn talk_rules per count why.NoMemory next s}
    (λ es ms within y. (some_served talk_rules per count fault next s es ms y.0, y.1)) x
broken_memory (Trial seed count) next fault s a b x = stretch_as a b
    {P = TriesSome fault next s seed count} {Q = TriesSome why.NoMemory next s seed count}
    (λ es ms within y. some_tries a b fault next s seed count es ms y) x

opened_memory : (a b : DiskState) (fault : RunFault) (job : Job)
    → Opened a b (Broken a.file fault job) → Opened a b (Broken a.file why.NoMemory job)
opened_memory a b fault job h = record {
  from = h.from;
  stood = h.stood;
  opened = h.opened;
  opening = h.opening;
  behind = (
    h.behind.0,
    h.behind.1,
    broken_memory job h.behind.0 fault h.from h.opened b h.behind.2,
  );
}

-- a disk that can be relied on is honest
pub honest_of : (s : DiskState) → IsTrusted s → s.honest ≡ false → ⊥
honest_of s trusted e = grind (arith, trusted, e)

-- on such a disk damage is found in the opening alone
damaged_early : (fault : RunFault) (a b : DiskState) → WasDamaged fault a b → IsTrusted a
    → IsOpening a b
damaged_early fault a b h trusted = ⊎_elim
    (λ x. x.0)
    (λ x. absurd (honest_of a trusted x.1))
    (h (tells_of a trusted))

-- where there was no memory for the numbers of a note, the run has done what one does that ends for want of memory
made_memory : (a b : DiskState) (ending : Ending) → HasNumbers ending → HasMade ending a b
    → HasMade Memory a b
made_memory a b Whole n h = absurd n
made_memory a b Words n h = absurd n
made_memory a b (NotEmpty first) n h = h.0
made_memory a b (Damaged file at) n h = absurd h
made_memory a b (DigestDiffers file kept found) n h = absurd h
made_memory a b (BadRow family key) n h = absurd h
made_memory a b Device n h = absurd n
made_memory a b Memory n h = absurd n
made_memory a b (Spent number) n h = absurd h

run_memory : (a b : DiskState) (job : Job) (ending : Ending) → HasNumbers ending
    → HasRun job ending a b → HasRun job Memory a b
run_memory a b job Whole n h = absurd n
run_memory a b job Words n h = absurd n
run_memory a b job (NotEmpty first) n h = absurd h
run_memory a b job (Damaged file at) n h = λ trusted.
    inl (damaged_early (why.Damaged file at) a b h trusted)
run_memory a b job (DigestDiffers file kept found) n h = λ trusted.
    inl (damaged_early (why.DigestDiffers file kept found) a b h trusted)
run_memory a b job (BadRow family key) n h = λ trusted.
    inl (damaged_early (why.BadRow family key) a b h trusted)
run_memory a b job Device n h = absurd n
run_memory a b job Memory n h = absurd n
run_memory a b job (Spent number) n h = λ trusted.
    inr (opened_memory a b (why.Spent number) job (h.1 trusted))

none_memory : (a b : DiskState) (ending : Ending) → HasNumbers ending → HasDone None ending a b → ⊥
none_memory a b Whole n h = h
none_memory a b Words n h = n
none_memory a b (NotEmpty first) n h = h
none_memory a b (Damaged file at) n h = h
none_memory a b (DigestDiffers file kept found) n h = h
none_memory a b (BadRow family key) n h = h
none_memory a b Device n h = h
none_memory a b Memory n h = h
none_memory a b (Spent number) n h = h

pub as_memory : (a b : DiskState) (command : Option Command) (ending : Ending) → HasNumbers ending
    → HasDone command ending a b → HasDone command Memory a b
as_memory a b None ending n h = absurd (none_memory a b ending n h)
as_memory a b (Some Init) ending n h = made_memory a b ending n h
as_memory a b (Some (Over job limits)) ending n h = run_memory a b job ending n h
