-- One line served: what its call says and leaves, whole or broken off.
use Rattle.std.proofs.Common.{◌≡◌, ◌≤◌, ◌+◌, ◌*◌, ◌⊎◌, ⊎_elim, ℕ, List, [], ◌∷◌, ◌++◌, length, take, drop, true, false, Option, Some, None, refl, sym, ap, subst, ◌∙◌, append-nil, arith, inl, inr, take-append-drop}
use Rattle.alt_base.specs.Prefix.{IsPrefix}
use Rattle.alt_machine.specs.Outcomes.{last_state}
use Rattle.alt_machine.specs.State.{State}
use Rattle.alt_disk.specs.Disk.{DiskState, IsTrusted}
use Rattle.alt_disk.proofs.Runs.{trusted_on}
use Rattle.alt_machine.specs.Wanted.{Lack}
use Rattle.alt_shell.specs.Calls.{Adds, ShellCall, Untold}
use Rattle.alt_shell.specs.Log.{Log, Grows, TellsMoments, moments_of, until, entry, told_count, said, say_failed, says_failed, says_missed, said_in}
use Rattle.alt_talks.specs.Runs.{Stretch, Leads}
use Rattle.alt_run.specs.Runs.{BreaksFor, IsAtWork, Rests}
use Rattle.alt_run.specs.private.Rungs.{ServesAtHand, BreaksAtHand, LeftAtHand, IsControlFault}
use Rattle.alt_talks.specs.Stops.{IsUncut, AtEach, AreWithin}
use Rattle.alt_tables.specs.Stands.{Stands}
use Rattle.alt_tables.specs.declared.tables.Tables.{Tables}
use Rattle.alt_tables.specs.FilesLeft.{most_files}
use Rattle.alt_talks.specs.Faults.{IsAnswerFault, IsCausedBy, IsFileFault}
use Rattle.alt_talks.specs.declared.fault.RunFault.{RunFault}
use Rattle.alt_talks.specs.declared.fault.RunFault.TheVariants.{Failed}
use Rattle.alt_run.specs.Turns.{AskedLine, control, turns_of_lines, requests, tasks, obeyed}
use Rattle.alt_run.specs.declared.lines.Control.{Control}
use Rattle.alt_run.specs.declared.lines.Control.TheVariants.{Flush, Merge, Step, Reopen}
use Rattle.alt_talks.specs.Turns.{Turn, WritesLast, turns_text, after, after_turn, wanted_by_turns, or_next}
use Rattle.alt_talks.specs.Works.{Follows}
use Rattle.alt_shell.proofs.Telling.{Grows-then, Grows-nil}
use Rattle.alt_tables.proofs.Left.{stands_left}
use Rattle.alt_talks.proofs.Stopping.{IsPrefix-self, one-by, within-wider, trusts-kept, stands_kept}
use Rattle.alt_talks.proofs.StretchLeaving.{leaves-followed, leaves-said, leaves-unsaid}
use Rattle.alt_talks.proofs.Owning.{follows_none}
use Rattle.alt_run.proofs.TurnLaws.{turns_say}
use Rattle.alt_talks.proofs.FileFaults.{IsTurnFault, file_more}
use Rattle.alt_talks.proofs.TurnLaws.{writes_one}

-- the front of a turn: its moment was asked for, and it was carried out or broke off
pub record Begins (old mid : DiskState) (s : State) (l : AskedLine) (t : Turn)
    (ms : List ℕ) : Type 0 where
  pub one : turns_of_lines s (l ∷ []) ms ≡ t ∷ []
  pub count : length ms ≡ requests (l ∷ [])
  pub silent : Grows old.beside mid.beside []
  pub told : TellsMoments (moments_of old.beside) (moments_of mid.beside) ms
  pub later : old.moment ≤ mid.moment
  pub trusts : IsTrusted old → IsTrusted mid
  pub leaves : AtEach old mid (λ _ image. IsUncut image s t.atoms)

-- what a turn lacks is what its line lacks
lacked : (next : ℕ) (s : State) (l : AskedLine) (t : Turn) (ms : List ℕ) (fault : RunFault) (es : Log)
    → turns_of_lines s (l ∷ []) ms ≡ t ∷ [] → IsCausedBy t.lacks fault → BreaksFor fault next s [] (l ∷ []) es ms
lacked next s l t ms fault es one cause =
    inl (subst (λ (ts : List Turn). IsCausedBy (wanted_by_turns ts) fault) (sym one)
    (lacked_alone fault t.lacks cause))
  where
    lacked_alone : (fault : RunFault) (lack : Option Lack) → IsCausedBy lack fault
        → IsCausedBy (or_next lack None) fault
    lacked_alone fault None h = h
    lacked_alone fault (Some x) h = h

-- a turn that was begun, of which these bytes were said
turn_begun : (old mid new : DiskState) (s : State) (l : AskedLine) (t : Turn) (ms : List ℕ)
    (fault : RunFault) (next : ℕ) (es : Log)
    → Begins old mid s l t ms → BreaksFor fault next s [] (l ∷ []) es ms
    → Rests es → IsPrefix (said_in es) t.text
    → Grows mid.beside new.beside es → moments_of new.beside ≡ moments_of mid.beside
    → AreWithin mid.moment new.moment es → mid.moment ≤ new.moment
    → (IsTrusted mid → IsTrusted new)
    → AtEach old new (LeftAtHand s (l ∷ []) es ms)
    → Stretch old new (BreaksAtHand fault next s (l ∷ []))
turn_begun old mid new s l t ms fault next es b why rests some g m within later trusts leaves =
    record {
      entries = es;
      told = ms;
      grows = Grows-then old.beside mid.beside new.beside [] es b.silent g;
      tells = subst (λ (k : Option (List ℕ)). TellsMoments (moments_of old.beside) k ms) (sym m) b.told;
      within = within-wider old.moment mid.moment new.moment new.moment es within b.later
          (omega arith);
      later = omega (arith, b.later, later);
      trusts = λ trusted. trusts (b.trusts trusted);
      holds = record {
        breaks = record {
          done = [];
          begun = l ∷ [];
          rest = [];
          lines = refl;
          few = omega arith;
          all = (said_in es, refl);
          said = subst (λ (ts : List Turn). IsPrefix (said_in es) (turns_text ts)) (sym b.one)
              (subst (IsPrefix (said_in es)) (sym (append-nil t.text)) some);
          count = b.count;
          enough = refl;
          wants = why;
        };
        rests = rests;
        leaves = leaves;
      };
    }

-- a turn whose whole text was said, and what follows it
module _ (old mid done new : DiskState) (tables : Tables) (s : State) (l : AskedLine) (t : Turn)
    (ms bytes : List ℕ) (b : Begins old mid s l t ms) (stands : Stands mid tables (last_state s t.atoms))
    (call : ShellCall mid done true) (added : Adds mid done (said bytes))
    (n : moments_of done.beside ≡ moments_of mid.beside) (e : bytes ≡ t.text)
    (follows : Follows done new (last_state s t.atoms) t.own) where
  abbrev told_text : Log
  told_text = entry done.moment (told_count mid.beside) (said bytes) ∷ []

  said_text : said_in told_text ≡ t.text
  said_text = append-nil bytes ∙ e

  grows_text : Grows mid.beside new.beside told_text
  grows_text = subst (λ (log : Log). Grows mid.beside log told_text) (sym follows.goes.beside) added

  moments_same : moments_of new.beside ≡ moments_of mid.beside
  moments_same = ap moments_of follows.goes.beside ∙ n

  within_said : AreWithin mid.moment done.moment told_text
  within_said = (call.keeps.later, omega arith, tt)

  within_all : AreWithin mid.moment new.moment told_text
  within_all = within-wider mid.moment mid.moment done.moment new.moment told_text within_said
      (omega arith) follows.goes.later

  later_all : mid.moment ≤ new.moment
  later_all = let k = call.keeps.later in omega (arith, k, follows.goes.later)

  trusts_all : IsTrusted mid → IsTrusted new
  trusts_all trusted = trusted_on done new follows.goes (trusts-kept mid done call.keeps trusted)

  rests_text : Rests told_text
  rests_text = record { silent = refl; goes_on = refl; inside = refl }

  leaves_text : AtEach old new (LeftAtHand s (l ∷ []) told_text ms)
  leaves_text = leaves-followed s (turns_of_lines s (l ∷ []) ms) t b.one (turns_say s (l ∷ []) ms) old mid done
      new told_text within_said
      (one-by (entry done.moment (told_count mid.beside) (said bytes)) t.text
      (subst (λ (bs : List ℕ). IsPrefix bs t.text) (sym said_text) (IsPrefix-self t.text)))
      b.trusts b.leaves
      (λ trusted image is_image. stands_left mid tables (last_state s t.atoms) stands image is_image)
      call.keeps follows.leaves

  pub turn_served : (after_it : Tables) → t.lacks ≡ None → Stands new after_it (after_turn s t)
      → Leads old new after_it (ServesAtHand s (l ∷ []))
  turn_served after_it enough there = record {
    to = after_turn s t;
    stands = there;
    calls = record {
      entries = told_text;
      told = ms;
      grows = Grows-then old.beside mid.beside new.beside [] told_text b.silent grows_text;
      tells = subst (λ (k : Option (List ℕ)). TellsMoments (moments_of old.beside) k ms)
          (sym moments_same) b.told;
      within = within-wider old.moment mid.moment new.moment new.moment told_text within_all b.later
          (omega arith);
      later = let k = later_all in omega (arith, b.later, k);
      trusts = λ trusted. trusts_all (b.trusts trusted);
      holds = record {
        serves = record {
          said = said_text ∙ sym (append-nil t.text) ∙ ap turns_text (sym b.one);
          state = ap (after s) (sym b.one);
          count = b.count;
          enough = ap wanted_by_turns b.one ∙ ap (λ w. or_next w None) enough;
        };
        rests = rests_text;
        leaves = leaves_text;
      };
    };
  }

  -- it broke off behind the text
  pub turn_broke : (fault : RunFault) (next : ℕ) → BreaksFor fault next s [] (l ∷ []) told_text ms
      → Stretch old new (BreaksAtHand fault next s (l ∷ []))
  turn_broke fault next why = turn_begun old mid new s l t ms fault next told_text b why rests_text
      (subst (λ (bs : List ℕ). IsPrefix bs t.text) (sym said_text) (IsPrefix-self t.text))
      grows_text moments_same within_all later_all trusts_all leaves_text

  -- since work did, where nothing was lacked
  pub work_broke : (fault : RunFault) (next : ℕ) → t.lacks ≡ None
      → IsFileFault (next + tasks (l ∷ []) * most_files) fault
      → IsAtWork l (said_in told_text ≡ turns_text (turns_of_lines s (l ∷ []) ms))
      → Stretch old new (BreaksAtHand fault next s (l ∷ []))
  work_broke fault next enough why at = turn_broke fault next (inr (
    why,
    inr (record {
      line = l;
      last = refl;
      enough = ap wanted_by_turns b.one ∙ ap (λ w. or_next w None) enough;
      at = at;
    }),
  ))

  -- all of its text was said
  pub all_said : said_in told_text ≡ turns_text (turns_of_lines s (l ∷ []) ms)
  all_said = said_text ∙ sym (append-nil t.text) ∙ ap turns_text (sym b.one)

  -- since what follows it lacks something, or its first write wants a file
  pub own_broke : (fault : RunFault) (next : ℕ) → requests (l ∷ []) ≡ 1 → tasks (l ∷ []) ≡ 1
      → IsAnswerFault next t.lacks t.own fault
      → Stretch old new (BreaksAtHand fault next s (l ∷ []))
  own_broke fault next asks task cause = turn_broke fault next (⊎_elim
      (λ (lack : IsCausedBy t.lacks fault). lacked next s l t ms fault told_text b.one lack)
      (λ (last : (t.lacks ≡ None) × (1 ≤ length t.own) × IsFileFault next fault). inr (
        file_more fault next (next + tasks (l ∷ []) * most_files) (omega (arith, task)) last.2,
        inl (record {
          line = l;
          last = refl;
          asks = asks;
          writes = subst (λ (ts : List Turn). WritesLast ts) (sym b.one)
              (writes_one t (inr (last.0, last.1)));
        }),
      )) cause)

-- a turn that nothing follows
pub turn_alone : (old mid new : DiskState) (tables : Tables) (s : State) (l : AskedLine) (t : Turn)
    (ms bytes : List ℕ) → Begins old mid s l t ms → t.lacks ≡ None → t.own ≡ []
    → Stands mid tables (last_state s t.atoms) → ShellCall mid new true → Adds mid new (said bytes)
    → moments_of new.beside ≡ moments_of mid.beside → bytes ≡ t.text
    → Leads old new tables (ServesAtHand s (l ∷ []))
turn_alone old mid new tables s l t ms bytes b enough none stands call added n e =
    let here = stands_kept mid new call.keeps tables (last_state s t.atoms) stands in
    turn_served old mid new new tables s l t ms bytes b stands call added n e
    (subst (λ (xs : List State). Follows new new (last_state s t.atoms) xs) (sym none)
    (follows_none new tables (last_state s t.atoms) here))
    tables enough
    (subst (λ (xs : List State). Stands new tables (last_state (last_state s t.atoms) xs)) (sym none)
    here)

-- a turn whose text was said in part
module _ (old mid new : DiskState) (tables : Tables) (next : ℕ) (s : State) (l : AskedLine) (t : Turn)
    (ms : List ℕ) (bytes : List ℕ) (b : Begins old mid s l t ms)
    (stands : Stands mid tables (last_state s t.atoms))
    (call : ShellCall mid new false) (m : moments_of new.beside ≡ moments_of mid.beside)
    (e : bytes ≡ t.text) where
  cut : (es : Log) → Rests es → ((u : ℕ) → IsPrefix (said_in (until u es)) t.text)
      → IsPrefix (said_in es) t.text → Grows mid.beside new.beside es
      → AreWithin mid.moment new.moment es → Stretch old new (BreaksAtHand Failed next s (l ∷ []))
  cut es rests by some g within =
      turn_begun old mid new s l t ms Failed next es b (inl tt) rests some g m within call.keeps.later
      (trusts-kept mid new call.keeps)
      (leaves-said s (turns_of_lines s (l ∷ []) ms) t b.one (turns_say s (l ∷ []) ms) old mid new es within
      by b.trusts b.leaves
      (λ trusted image is_image. stands_left mid tables (last_state s t.atoms) stands
      image is_image)
      call.keeps)

  -- the failure wasn't told
  cut_untold : Grows mid.beside new.beside [] → Stretch old new (BreaksAtHand Failed next s (l ∷ []))
  cut_untold g = cut [] (record { silent = refl; goes_on = refl; inside = refl })
      (λ u. (t.text, refl)) (t.text, refl) g tt

  cut_part : (n : ℕ) → Adds mid new (say_failed (take n bytes))
      → Stretch old new (BreaksAtHand Failed next s (l ∷ []))
  cut_part n added =
      let part : ℕ × List ℕ = entry new.moment (told_count mid.beside) (say_failed (take n bytes)) in
      let some : IsPrefix (said_in (part ∷ [])) t.text = (
        drop n bytes,
        sym e ∙ sym (take-append-drop n bytes)
            ∙ ap (λ (bs : List ℕ). bs ++ drop n bytes) (sym (append-nil (take n bytes))),
      ) in
      cut (part ∷ []) (record { silent = refl; goes_on = refl; inside = refl }) (one-by part t.text some) some
      added (call.keeps.later, omega arith, tt)

  pub turn_cut : (((n : ℕ) × Adds mid new (say_failed (take n bytes)))
      ⊎ Untold mid new says_failed says_missed) → Stretch old new (BreaksAtHand Failed next s (l ∷ []))
  turn_cut (inl part) = cut_part part.0 part.1
  turn_cut (inr untold) = cut_untold untold.log

-- a turn of which nothing was said
unsaid : (old new : DiskState) (s : State) (l : AskedLine) (t : Turn) (ms : List ℕ) (fault : RunFault)
    (next : ℕ) → Begins old new s l t ms → BreaksFor fault next s [] (l ∷ []) [] ms
    → Stretch old new (BreaksAtHand fault next s (l ∷ []))
unsaid old new s l t ms fault next b why =
    turn_begun old new new s l t ms fault next [] b why
    (record { silent = refl; goes_on = refl; inside = refl }) (t.text, refl) (Grows-nil new.beside) refl tt
    (omega arith) (λ trusted. trusted)
    (leaves-unsaid s (turns_of_lines s (l ∷ []) ms) t b.one (turns_say s (l ∷ []) ms) old new b.leaves)

-- since it lacks what it wants or there is no memory
pub turn_unsaid : (old new : DiskState) (s : State) (l : AskedLine) (t : Turn) (ms : List ℕ)
    (fault : RunFault) (next : ℕ) → requests (l ∷ []) ≡ 1 → tasks (l ∷ []) ≡ 1
    → Begins old new s l t ms → IsTurnFault next t.alone t.lacks t.atoms fault
    → Stretch old new (BreaksAtHand fault next s (l ∷ []))
turn_unsaid old new s l t ms fault next asks task b cause =
    unsaid old new s l t ms fault next b (⊎_elim
    (λ (lack : IsCausedBy t.lacks fault). lacked next s l t ms fault [] b.one lack)
    (λ (last : (t.alone ≡ None) × (1 ≤ length t.atoms) × IsFileFault next fault). inr (
      file_more fault next (next + tasks (l ∷ []) * most_files) (omega (arith, task)) last.2,
      inl (record {
        line = l;
        last = refl;
        asks = asks;
        writes = subst (λ (ts : List Turn). WritesLast ts) (sym b.one)
            (writes_one t (inl (last.0, last.1)));
      }),
    )) cause)

-- or since what a word of control asks for isn't done
pub control_unsaid : (old new : DiskState) (s : State) (word : Control) (fault : RunFault) (next : ℕ)
    → Begins old new s (control word) obeyed [] → IsControlFault next word fault
    → Stretch old new (BreaksAtHand fault next s (control word ∷ []))
control_unsaid old new s word fault next b cause =
    unsaid old new s (control word) obeyed [] fault next b (because word cause)
  where
    one : IsFileFault (next + most_files) fault → IsFileFault (next + 1 * most_files) fault
    one h = file_more fault (next + most_files) (next + 1 * most_files) (omega arith) h

    because : (word : Control) → IsControlFault next word fault
        → BreaksFor fault next s [] (control word ∷ []) [] []
    because Flush h = inr (one h, inr (record { line = control Flush; last = refl; enough = refl; at = tt }))
    because Merge h = inr (one h, inr (record { line = control Merge; last = refl; enough = refl; at = tt }))
    because Step h = inr (one h, inr (record { line = control Step; last = refl; enough = refl; at = tt }))
    because Reopen h = inl h
