-- Serving lines, one after another: the laws of `ServesLines` and `Breaks`, and lines at hand.
use Rattle.std.proofs.Common.{◌≡◌, ◌≤◌, ◌+◌, ◌*◌, ⊎_elim, ℕ, List, [], ◌++◌, length, None, refl, sym, ap, subst, ◌∙◌, append_assoc, append-nil, arith, inl, inr, length-append}
use Rattle.std.specs.Prelude.{◌||◌}
use Rattle.alt_base.specs.Prefix.{IsPrefix}
use Rattle.alt_machine.specs.State.{State}
use Rattle.alt_disk.specs.Disk.{DiskState}
use Rattle.alt_shell.specs.Log.{Log, until, taken, said_in, ended, crosses}
use Rattle.alt_run.specs.Runs.{Breaks, BreaksFor, IsAtWork, Rests, LineIsWorking, LineIsWriting}
use Rattle.alt_run.specs.private.Rungs.{ServesLines, ServesAtHand, BreaksAtHand, LeftAtHand}
use Rattle.alt_talks.specs.Stops.{IsLeft, AtEach}
use Rattle.alt_tables.specs.Stands.{Stands}
use Rattle.alt_tables.specs.declared.tables.Tables.{Tables}
use Rattle.alt_tables.specs.FilesLeft.{most_files}
use Rattle.alt_talks.specs.Faults.{IsCausedBy}
use Rattle.alt_talks.specs.declared.fault.RunFault.{RunFault}
use Rattle.alt_talks.specs.declared.fault.RunFault.TheVariants.{NoMemory}
use Rattle.alt_run.specs.Turns.{AskedLine, request, control, unread, turns_of_lines, requests, tasks}
use Rattle.alt_run.specs.declared.lines.Control.TheVariants.{Flush, Merge, Step, Reopen}
use Rattle.alt_talks.specs.Turns.{Turn, WritesLast, turns_text, after, wanted_by_turns}
use Rattle.alt_tables.proofs.Left.{stands_left}
use Rattle.alt_talks.proofs.Stopping.{IsPrefix-behind, until-append, until-before, until-behind, left-more, left-behind}
use Rattle.alt_talks.proofs.StretchLeaving.{Meet, spans_two, leaves-weaker, leaves-here}
use Rattle.alt_run.proofs.TurnLaws.{turns_say, turns-more, left-nothing, requests-append, tasks-append, turns-append}
use Rattle.alt_talks.proofs.FileFaults.{file_more}
use Rattle.alt_talks.proofs.TurnLaws.{text_of-append, after-append, wanted-append, writes_behind}
use Rattle.alt_talks.proofs.Stretching.{said_in-append, taken-append, ended-append}
use Rattle.alt_talks.proofs.TalkLogs.{crosses-append}

-- ---- the parts of a stretch

module _ (s t u : State) (ls ks : List AskedLine) (es fs : Log) (ms ns : List ℕ)
    (p : ServesLines s ls t es ms) where
  -- the turns of both parts
  pub turns_both : turns_of_lines s (ls ++ ks) (ms ++ ns) ≡ turns_of_lines s ls ms ++ turns_of_lines t ks ns
  turns_both = turns-append s ls ks ms ns p.count
      ∙ ap (λ v. turns_of_lines s ls ms ++ turns_of_lines v ks ns) (sym p.state)

  -- their text
  pub text_both : turns_text (turns_of_lines s (ls ++ ks) (ms ++ ns)) ≡ said_in es ++ turns_text (turns_of_lines t ks ns)
  text_both = ap turns_text turns_both ∙ text_of-append (turns_of_lines s ls ms) (turns_of_lines t ks ns)
      ∙ ap (λ bs. bs ++ turns_text (turns_of_lines t ks ns)) (sym p.said)

  -- what they want
  pub wanted_both : wanted_by_turns (turns_of_lines s (ls ++ ks) (ms ++ ns)) ≡ wanted_by_turns (turns_of_lines t ks ns)
  wanted_both = ap wanted_by_turns turns_both ∙ wanted-append (turns_of_lines s ls ms) (turns_of_lines t ks ns) p.enough

  -- their moments
  pub count_both : length ns ≡ requests ks → length (ms ++ ns) ≡ requests (ls ++ ks)
  count_both e = let a = length-append ms ns in let b = requests-append ls ks in let c = p.count in
      omega arith

-- lines and then more lines
pub serves_then : (s t u : State) (ls ks : List AskedLine) (es fs : Log) (ms ns : List ℕ)
    → ServesLines s ls t es ms → ServesLines t ks u fs ns → ServesLines s (ls ++ ks) u (es ++ fs) (ms ++ ns)
serves_then s t u ls ks es fs ms ns p q = record {
  said = said_in-append es fs ∙ ap (λ bs. said_in es ++ bs) q.said
      ∙ sym (text_both s t u ls ks es fs ms ns p);
  state = q.state ∙ ap (λ v. after v (turns_of_lines t ks ns)) p.state
      ∙ sym (after-append s (turns_of_lines s ls ms) (turns_of_lines t ks ns))
      ∙ ap (after s) (sym (turns_both s t u ls ks es fs ms ns p));
  count = count_both s t u ls ks es fs ms ns p q.count;
  enough = wanted_both s t u ls ks es fs ms ns p ∙ q.enough;
}

-- the same is at work, whatever is said
at_work : (l : AskedLine) (A B : Type 0) → (A → B) → IsAtWork l A → IsAtWork l B
at_work (request name body) A B law h = law h
at_work (control Flush) A B law h = tt
at_work (control Merge) A B law h = tt
at_work (control Step) A B law h = tt
at_work (control Reopen) A B law h = absurd h
at_work unread A B law h = absurd h

-- what breaks off lines breaks them off behind others
breaks_for : (fault : RunFault) (next now : ℕ) (s t : State) (ls done begun : List AskedLine) (es fs : Log)
    (ms ns : List ℕ) → now ≤ next + tasks ls * most_files → ServesLines s ls t es ms
    → BreaksFor fault now t done begun fs ns
    → BreaksFor fault next s (ls ++ done) begun (es ++ fs) (ms ++ ns)
breaks_for fault next now s t ls done begun es fs ms ns low p why =
    let same : wanted_by_turns (turns_of_lines s ((ls ++ done) ++ begun) (ms ++ ns)) ≡ wanted_by_turns (turns_of_lines t (done ++ begun) ns) =
    ap (λ xs. wanted_by_turns (turns_of_lines s xs (ms ++ ns))) (append_assoc ls done begun)
    ∙ wanted_both s t t ls (done ++ begun) es fs ms ns p in
    ⊎_elim (λ cause. inl (subst (λ w. IsCausedBy w fault) (sym same) cause))
    (λ work. inr (
      file_more fault (now + tasks (done ++ begun) * most_files)
          (next + tasks ((ls ++ done) ++ begun) * most_files)
          (let e = ap tasks (append_assoc ls done begun) in
          let l = tasks-append ls (done ++ begun) in omega (arith, e, l, low)) work.0,
      ⊎_elim (λ (w : LineIsWriting t done begun ns). inl (record {
        line = w.line;
        last = w.last;
        asks = w.asks;
        writes = subst (λ (us : List Turn). WritesLast us)
            (sym (ap (λ xs. turns_of_lines s xs (ms ++ ns)) (append_assoc ls done begun)
            ∙ turns_both s t t ls (done ++ begun) es fs ms ns p))
            (writes_behind (turns_of_lines s ls ms) (turns_of_lines t (done ++ begun) ns) p.enough w.writes);
      })) (λ (w : LineIsWorking t done begun fs ns). inr (record {
        line = w.line;
        last = w.last;
        enough = same ∙ w.enough;
        at = at_work w.line (said_in fs ≡ turns_text (turns_of_lines t (done ++ begun) ns))
            (said_in (es ++ fs) ≡ turns_text (turns_of_lines s ((ls ++ done) ++ begun) (ms ++ ns)))
            (λ e. said_in-append es fs ∙ ap (λ bs. said_in es ++ bs) e
            ∙ sym (text_both s t t ls (done ++ begun) es fs ms ns p)
            ∙ ap (λ xs. turns_text (turns_of_lines s xs (ms ++ ns))) (sym (append_assoc ls done begun)))
            w.at;
      })) work.1,
    ))
    why

-- so does it with entries that say the same
pub breaks_same : (fault : RunFault) (next : ℕ) (s : State) (done begun : List AskedLine) (es fs : Log)
    (ms : List ℕ) → said_in fs ≡ said_in es → BreaksFor fault next s done begun es ms
    → BreaksFor fault next s done begun fs ms
breaks_same fault next s done begun es fs ms same why = ⊎_elim (λ cause. inl cause)
    (λ work. inr (
      work.0,
      ⊎_elim (λ (w : LineIsWriting s done begun ms). inl w) (λ (w : LineIsWorking s done begun es ms). inr (record {
        line = w.line;
        last = w.last;
        enough = w.enough;
        at = at_work w.line (said_in es ≡ turns_text (turns_of_lines s (done ++ begun) ms))
            (said_in fs ≡ turns_text (turns_of_lines s (done ++ begun) ms)) (λ e. same ∙ e) w.at;
      })) work.1,
    ))
    why

-- lines and then a break
pub serves_break : (fault : RunFault) (next now : ℕ) (s t : State) (ls ks : List AskedLine) (es fs : Log)
    (ms ns : List ℕ) → now ≤ next + tasks ls * most_files
    → ServesLines s ls t es ms → Breaks fault now t ks fs ns
    → Breaks fault next s (ls ++ ks) (es ++ fs) (ms ++ ns)
serves_break fault next now s t ls ks es fs ms ns low p q = record {
  done = ls ++ q.done;
  begun = q.begun;
  rest = q.rest;
  lines = ap (λ xs. ls ++ xs) q.lines ∙ sym (append_assoc ls q.done (q.begun ++ q.rest));
  few = q.few;
  all = subst (λ bs. IsPrefix bs (said_in (es ++ fs)))
      (sym (text_both s t t ls q.done es fs ms ns p))
      (subst (λ bs. IsPrefix (said_in es ++ turns_text (turns_of_lines t q.done ns)) bs)
      (sym (said_in-append es fs))
      (IsPrefix-behind (said_in es) (turns_text (turns_of_lines t q.done ns)) (said_in fs) q.all));
  said = subst (λ xs. IsPrefix (said_in (es ++ fs)) (turns_text (turns_of_lines s xs (ms ++ ns))))
      (sym (append_assoc ls q.done q.begun))
      (subst (λ bs. IsPrefix (said_in (es ++ fs)) bs)
      (sym (text_both s t t ls (q.done ++ q.begun) es fs ms ns p))
      (subst (λ bs. IsPrefix bs (said_in es ++ turns_text (turns_of_lines t (q.done ++ q.begun) ns)))
      (sym (said_in-append es fs))
      (IsPrefix-behind (said_in es) (said_in fs)
      (turns_text (turns_of_lines t (q.done ++ q.begun) ns)) q.said)));
  count = count_both s t t ls (q.done ++ q.begun) es fs ms ns p q.count
      ∙ ap requests (sym (append_assoc ls q.done q.begun));
  enough = wanted_both s t t ls q.done es fs ms ns p ∙ q.enough;
  wants = breaks_for fault next now s t ls q.done q.begun es fs ms ns low p q.wants;
}

-- a break among lines is one among these and more
pub breaks_more : (fault : RunFault) (next : ℕ) (s : State) (ls ks : List AskedLine) (es : Log) (ms : List ℕ)
    → Breaks fault next s ls es ms → Breaks fault next s (ls ++ ks) es ms
breaks_more fault next s ls ks es ms q = record {
  done = q.done;
  begun = q.begun;
  rest = q.rest ++ ks;
  lines = ap (λ xs. xs ++ ks) q.lines ∙ append_assoc q.done (q.begun ++ q.rest) ks
      ∙ ap (λ xs. q.done ++ xs) (append_assoc q.begun q.rest ks);
  few = q.few;
  all = q.all;
  said = q.said;
  count = q.count;
  enough = q.enough;
  wants = q.wants;
}

-- nothing was begun
pub breaks_none : (fault : RunFault) (next : ℕ) → IsCausedBy None fault → (s : State) (ls : List AskedLine)
    → Breaks fault next s ls [] []
breaks_none fault next cause s ls = record {
  done = [];
  begun = [];
  rest = ls;
  lines = refl;
  few = omega arith;
  all =
      ([], refl);
  said = ([], refl);
  count = refl;
  enough = refl;
  wants = inl cause;
}

-- nothing to serve
pub serves_none : (s : State) → ServesLines s [] s [] []
serves_none s = record { said = refl; state = refl; count = refl; enough = refl }

-- lines that were served whole, and then no more was begun for want of memory
pub serves_breaks : (next : ℕ) (s t : State) (ls ks : List AskedLine) (es : Log) (ms : List ℕ)
    → ServesLines s ls t es ms → Breaks NoMemory next s (ls ++ ks) es ms
serves_breaks next s t ls ks es ms p =
    subst (λ (ns : List ℕ). Breaks NoMemory next s (ls ++ ks) es ns) (append-nil ms)
    (subst (λ (fs : Log). Breaks NoMemory next s (ls ++ ks) fs (ms ++ [])) (append-nil es)
    (serves_break NoMemory next next s t ls ks es [] ms [] (omega arith) p
    (breaks_none NoMemory next tt t ks)))

-- ---- nothing taken

pub rests_then : (es fs : Log) → Rests es → Rests fs → Rests (es ++ fs)
rests_then es fs p q = record {
  silent = taken-append es fs ∙ ap (λ bs. bs ++ taken fs) p.silent ∙ q.silent;
  goes_on = ended-append es fs ∙ ap (λ e. e || ended fs) p.goes_on ∙ q.goes_on;
  inside = crosses-append es fs ∙ ap (λ e. e || crosses fs) p.inside ∙ q.inside;
}

-- ---- lines at hand

module _ (a b c : DiskState) (s t u : State) (ls ks : List AskedLine) (es fs : Log) (ms ns : List ℕ)
    (meet : Meet a b c es fs) (p : ServesAtHand s ls t a b es ms) where
  -- what a stop leaves while more lines are served behind these
  pub leaves_then : AtEach b c (LeftAtHand t ks fs ns)
      → AtEach a c (LeftAtHand s (ls ++ ks) (es ++ fs) (ms ++ ns))
  leaves_then q trusted =
      let first : List Turn = turns_of_lines s ls ms in
      let both : turns_of_lines s (ls ++ ks) (ms ++ ns) ≡ first ++ turns_of_lines t ks ns =
      turns_both s t t ls ks es fs ms ns p.serves in
      spans_two a b c (LeftAtHand s ls es ms) (LeftAtHand t ks fs ns)
      (LeftAtHand s (ls ++ ks) (es ++ fs) (ms ++ ns))
      (p.leaves trusted) (q (meet.trusts trusted))
      (λ n image before x. subst (λ (vs : List Turn). IsLeft s vs (said_in (until n (es ++ fs))) image)
      (sym both)
      (subst (λ (bs : List ℕ). IsLeft s (first ++ turns_of_lines t ks ns) bs image)
      (ap said_in (sym (append-nil (until n es))
      ∙ ap (λ (gs : Log). until n es ++ gs)
      (sym (until-before b.moment c.moment n fs meet.behind before))
      ∙ sym (until-append n es fs)))
      (left-more s first (turns_of_lines t ks ns) (said_in (until n es)) image (turns_say t ks ns) x)))
      (λ n image from x. subst (λ (vs : List Turn). IsLeft s vs (said_in (until n (es ++ fs))) image)
      (sym both)
      (subst (λ (bs : List ℕ). IsLeft s (first ++ turns_of_lines t ks ns) bs image)
      (ap (λ (bs : List ℕ). bs ++ said_in (until n fs)) (sym p.serves.said)
      ∙ sym (said_in-append es (until n fs))
      ∙ ap said_in (ap (λ (gs : Log). gs ++ until n fs)
      (sym (until-behind a.moment b.moment n es meet.before from))
      ∙ sym (until-append n es fs)))
      (left-behind s first (turns_of_lines t ks ns) (said_in (until n fs)) image
      (subst (λ (r : State). IsLeft r (turns_of_lines t ks ns) (said_in (until n fs)) image)
      p.serves.state x))))

  -- lines and then more lines
  pub hand_then : ServesAtHand t ks u b c fs ns → ServesAtHand s (ls ++ ks) u a c (es ++ fs) (ms ++ ns)
  hand_then q = record {
    serves = serves_then s t u ls ks es fs ms ns p.serves q.serves;
    rests = rests_then es fs p.rests q.rests;
    leaves = leaves_then q.leaves;
  }

  -- lines and then a break
  pub hand_break : (fault : RunFault) (next now : ℕ) → now ≤ next + tasks ls * most_files
      → BreaksAtHand fault now t ks b c fs ns
      → BreaksAtHand fault next s (ls ++ ks) a c (es ++ fs) (ms ++ ns)
  hand_break fault next now low q = record {
    breaks = serves_break fault next now s t ls ks es fs ms ns low p.serves q.breaks;
    rests = rests_then es fs p.rests q.rests;
    leaves = leaves_then q.leaves;
  }

-- what a stop leaves while some of the lines at hand are served
pub leaves_more : (a b : DiskState) (s : State) (ls ks : List AskedLine) (es : Log) (ms : List ℕ)
    → AtEach a b (LeftAtHand s ls es ms) → AtEach a b (LeftAtHand s (ls ++ ks) es ms)
leaves_more a b s ls ks es ms p trusted =
    let more = turns-more s ls ks ms [] in
    leaves-weaker a b (LeftAtHand s ls es ms) (LeftAtHand s (ls ++ ks) es ms)
    (λ n image x. subst (λ (vs : List Turn). IsLeft s vs (said_in (until n es)) image)
    (sym more.2 ∙ ap (turns_of_lines s (ls ++ ks)) (append-nil ms))
    (left-more s (turns_of_lines s ls ms) more.0 (said_in (until n es)) image more.1 x)) p trusted

-- a break among lines is one among these and more
pub hand_breaks_more : (a b : DiskState) (fault : RunFault) (next : ℕ) (s : State) (ls ks : List AskedLine) (es : Log)
    (ms : List ℕ)
    → BreaksAtHand fault next s ls a b es ms → BreaksAtHand fault next s (ls ++ ks) a b es ms
hand_breaks_more a b fault next s ls ks es ms p = record {
  breaks = breaks_more fault next s ls ks es ms p.breaks;
  rests = p.rests;
  leaves = leaves_more a b s ls ks es ms p.leaves;
}

-- lines that were served whole, and then no more was begun for want of memory
pub hand_stops : (a b : DiskState) (next : ℕ) (s t : State) (ls ks : List AskedLine) (es : Log) (ms : List ℕ)
    → ServesAtHand s ls t a b es ms → BreaksAtHand NoMemory next s (ls ++ ks) a b es ms
hand_stops a b next s t ls ks es ms p = record {
  breaks = serves_breaks next s t ls ks es ms p.serves;
  rests = p.rests;
  leaves = leaves_more a b s ls ks es ms p.leaves;
}

-- no lines
pub hand_none : (a : DiskState) (tables : Tables) (s : State) → Stands a tables s
    → ServesAtHand s [] s a a [] []
hand_none a tables s stands = record {
  serves = serves_none s;
  rests = record { silent = refl; goes_on = refl; inside = refl };
  leaves = leaves-here a (LeftAtHand s [] [] []) (λ trusted t image is_image.
      left-nothing s [] [] image (stands_left a tables s stands image is_image));
}
