-- Taking and serving, one turn after another, until the end of the input.
use Rattle.std.proofs.Common.{◌≡◌, ◌⊎◌, inl, inr, ℕ, List, [], ◌∷◌, ◌++◌, Bool, true, false, refl, sym, ap, subst, ◌∙◌, append_assoc, append-nil, arith}
use Rattle.std.specs.Prelude.{◌||◌}
use Rattle.alt_base.specs.Prefix.{IsPrefix}
use Rattle.alt_disk.specs.Disk.{DiskState}
use Rattle.alt_lines.specs.Unread.{Unread}
use Rattle.alt_machine.specs.State.{State}
use Rattle.alt_shell.specs.Calls.{Adds, ShellCall, Untold}
use Rattle.alt_shell.proofs.Keeping.{keeps-none}
use Rattle.alt_shell.specs.Log.{Log, Grows, moments_of, until, entry, told_count, take_failed, takes_failed, takes_missed, taken, said_in, ended, crosses}
use Rattle.alt_tables.specs.Stands.{Stands, bounds_of}
use Rattle.alt_tables.specs.declared.tables.Tables.{Tables}
use Rattle.alt_talks.specs.Turns.{Turn, turns_text, after}
use Rattle.alt_talks.specs.Runs.{Stretch, Leads}
use Rattle.alt_run.specs.Runs.{Breaks, AnswersAllLines, AnswersSomeLines}
use Rattle.alt_run.specs.private.Rungs.{ServesLines, ServesInput, EndsInput, ServesSomeInput, LeftBy, asked_later}
use Rattle.alt_talks.specs.Stops.{IsLeft, AtEach}
use Rattle.alt_tables.proofs.Left.{stands_left}
use Rattle.alt_talks.proofs.Stopping.{IsPrefix-longer, until-append, until-before, until-behind, left-more, left-behind, trusts-kept}
use Rattle.alt_talks.proofs.StretchLeaving.{Meet, spans_two}
use Rattle.alt_run.proofs.TurnLaws.{turns-more, tasks-append, turns-append}
use Rattle.alt_talks.specs.declared.fault.RunFault.{RunFault}
use Rattle.alt_talks.specs.declared.fault.RunFault.TheVariants.{Failed}
use Rattle.alt_run.specs.Turns.{AskedLine, turns_of_lines, asks, longest_line}
use Rattle.alt_shell.proofs.Telling.{Tells-nil}
use Rattle.alt_talks.proofs.Stretching.{said_in-append, taken-append, ended-append, stretch_none, stretch_then}
use Rattle.alt_run.proofs.Serving.{turns_both, serves_none, serves_then, serves_break, breaks_none}
use Rattle.alt_run.proofs.TakeServing.{leaves_silent}
use Rattle.alt_talks.proofs.TurnLaws.{text_of-append}
use Rattle.alt_talks.proofs.TalkLogs.{crosses-append}
use Rattle.alt_talks.specs.TalkStops.{LeavesNow}

-- the take failed
module _ (a b : DiskState) (call : ShellCall a b false) (tables : Tables) (next : ℕ) (s : State)
    (stands : Stands a tables s) (u : Unread) (m : moments_of b.beside ≡ moments_of a.beside) where
  pull_untold : Grows a.beside b.beside [] → Stretch a b (ServesSomeInput Failed next s u)
  pull_untold g = record {
    entries = [];
    told = [];
    grows = g;
    tells = Tells-nil (moments_of a.beside) (moments_of b.beside) m;
    within = tt;
    later = call.keeps.later;
    trusts = trusts-kept a b call.keeps;
    holds = record {
      breaks = breaks_none Failed next tt s (asked_later u [] false);
      inside = refl;
      leaves = leaves_silent a b tables s u [] stands call.keeps refl;
    };
  }

  pull_told : Adds a b take_failed → Stretch a b (ServesSomeInput Failed next s u)
  pull_told g = record {
    entries = entry b.moment (told_count a.beside) take_failed ∷ [];
    told = [];
    grows = g;
    tells = Tells-nil (moments_of a.beside) (moments_of b.beside) m;
    within = (call.keeps.later, omega arith, tt);
    later = call.keeps.later;
    trusts = trusts-kept a b call.keeps;
    holds = record {
      breaks = record {
        done = [];
        begun = [];
        rest = asked_later u [] false;
        lines =
            refl;
        few = omega arith;
        all = ([], refl);
        said = ([], refl);
        count = refl;
        enough =
            refl;
        wants = inl tt;
      };
      inside = refl;
      leaves = leaves_silent a b tables s u
          (entry b.moment (told_count a.beside) take_failed ∷ []) stands call.keeps refl;
    };
  }

  pub pull_failed : (Adds a b take_failed ⊎ Untold a b takes_failed takes_missed)
      → Stretch a b (ServesSomeInput Failed next s u)
  pull_failed (inl g) = pull_told g
  pull_failed (inr untold) = pull_untold untold.log

-- ---- one turn of taking after another

pub goes_none : (a : DiskState) (tables : Tables) (s : State) (u : Unread) → Stands a tables s
    → Leads a a tables (λ t. ServesInput (bounds_of tables).file s u (bounds_of tables).file t u)
goes_none a tables s u stands = record {
  to = s;
  stands = stands;
  calls = stretch_none a
      {P = ServesInput (bounds_of tables).file s u (bounds_of tables).file s u} (record {
        done = [];
        serves = serves_none s;
        lines = λ more e. refl;
        goes_on = refl;
        inside = refl;
        leaves = leaves_silent a a tables s u [] stands (keeps-none a) refl;
        files = omega arith;
      });
}

-- what a stop leaves while more is taken and served behind what was
goes_leaves : (a b c : DiskState) (next now : ℕ) (s r : State) (u v : Unread) (es fs : Log) (ms ns : List ℕ)
    → Meet a b c es fs → ServesInput next s u now r v a b es ms → AtEach b c (LeftBy r v fs ns)
    → AtEach a c (LeftBy s u (es ++ fs) (ms ++ ns))
goes_leaves a b c next now s r u v es fs ms ns meet x q trusted =
    spans_two a b c (LeftBy s u es ms) (LeftBy r v fs ns) (LeftBy s u (es ++ fs) (ms ++ ns))
    (x.leaves trusted) (q (meet.trusts trusted))
    (λ t image before y.
    let same : until t (es ++ fs) ≡ until t es =
    until-append t es fs
    ∙ ap (λ (gs : Log). until t es ++ gs) (until-before b.moment c.moment t fs meet.behind before)
    ∙ append-nil (until t es) in
    let ls : List AskedLine = asked_later u (taken (until t es)) (ended (until t es)) in
    let more = turns-more s ls [] ms ns in
    subst (λ (gs : Log). IsLeft s (turns_of_lines s (asked_later u (taken gs) (ended gs)) (ms ++ ns))
    (said_in gs) image)
    (sym same)
    (subst (λ (vs : List Turn). IsLeft s vs (said_in (until t es)) image)
    (sym more.2 ∙ ap (λ (ks : List AskedLine). turns_of_lines s ks (ms ++ ns)) (append-nil ls))
    (left-more s (turns_of_lines s ls ms) more.0 (said_in (until t es)) image more.1 y)))
    (λ t image from y.
    let same : until t (es ++ fs) ≡ es ++ until t fs =
    until-append t es fs
    ∙ ap (λ (gs : Log). gs ++ until t fs) (until-behind a.moment b.moment t es meet.before from) in
    let gs : Log = until t fs in
    let ks : List AskedLine = asked_later v (taken gs) (ended gs) in
    let lines : asked_later u (taken (es ++ gs)) (ended (es ++ gs)) ≡ x.done ++ ks =
    ap (λ (e : Bool). asked_later u (taken (es ++ gs)) e)
    (ended-append es gs ∙ ap (λ (e : Bool). e || ended gs) x.goes_on)
    ∙ ap (λ (bs : List ℕ). asked_later u bs (ended gs)) (taken-append es gs)
    ∙ x.lines (taken gs) (ended gs) in
    subst (λ (hs : Log). IsLeft s (turns_of_lines s (asked_later u (taken hs) (ended hs)) (ms ++ ns))
    (said_in hs) image)
    (sym same)
    (subst (λ (ls : List AskedLine). IsLeft s (turns_of_lines s ls (ms ++ ns)) (said_in (es ++ gs)) image)
    (sym lines)
    (subst (λ (vs : List Turn). IsLeft s vs (said_in (es ++ gs)) image)
    (sym (turns_both s r r x.done ks es gs ms ns x.serves))
    (subst (λ (bs : List ℕ). IsLeft s (turns_of_lines s x.done ms ++ turns_of_lines r ks ns) bs image)
    (ap (λ (bs : List ℕ). bs ++ said_in gs) (sym x.serves.said) ∙ sym (said_in-append es gs))
    (left-behind s (turns_of_lines s x.done ms) (turns_of_lines r ks ns) (said_in gs) image
    (subst (λ (z : State). IsLeft z (turns_of_lines r ks ns) (said_in gs) image) x.serves.state y))))))

module _ (a b c : DiskState) (t1 : Tables) (next now : ℕ) (s : State) (u v : Unread)
    (p : Leads a b t1 (λ t. ServesInput next s u now t v)) where
  -- once more
  pub goes_then : (t2 : Tables) (w : Unread) (last : ℕ)
      → Leads b c t2 (λ t. ServesInput now p.to v last t w)
      → Leads a c t2 (λ t. ServesInput next s u last t w)
  goes_then t2 w last q = record {
    to = q.to;
    stands = q.stands;
    calls = stretch_then a b c {P = ServesInput next s u now p.to v} {Q = ServesInput now p.to v last q.to w}
        {R = ServesInput next s u last q.to w}
        (λ es fs ms ns meet x y. record {
          done = x.done ++ y.done;
          serves = serves_then s p.to q.to x.done y.done es fs ms ns x.serves y.serves;
          lines = λ more e.
              ap (λ (bs : List ℕ). asked_later u (bs ++ more) e) (taken-append es fs)
              ∙ ap (λ (bs : List ℕ). asked_later u bs e) (append_assoc (taken es) (taken fs) more)
              ∙ x.lines (taken fs ++ more) e
              ∙ ap (λ (ls : List AskedLine). x.done ++ ls) (y.lines more e)
              ∙ sym (append_assoc x.done y.done (asked_later w more e));
          goes_on = ended-append es fs ∙ ap (λ (e : Bool). e || ended fs) x.goes_on ∙ y.goes_on;
          inside = crosses-append es fs ∙ ap (λ (e : Bool). e || crosses fs) x.inside ∙ y.inside;
          leaves = goes_leaves a b c next now s p.to u v es fs ms ns meet x y.leaves;
          files = let l = tasks-append x.done y.done in let f = x.files in let g = y.files in
              omega (arith, l, f, g);
        })
        p.calls q.calls;
  }

  -- and then to the end
  pub goes_ends : (t2 : Tables) → Leads b c t2 (λ t. EndsInput p.to v t)
      → Stretch a c (λ old new es ms. (t : State) × EndsInput s u t old new es ms × LeavesNow new t)
  goes_ends t2 q = stretch_then a b c {P = ServesInput next s u now p.to v} {Q = EndsInput p.to v q.to} {R =
      λ old new es ms. (t : State) × EndsInput s u t old new es ms × LeavesNow new t}
      (λ es fs ms ns meet x y. (
        q.to,
        record {
          serves = subst (λ (ls : List AskedLine). ServesLines s ls q.to (es ++ fs) (ms ++ ns))
              (sym (ap (λ (bs : List ℕ). asked_later u bs true) (taken-append es fs)
              ∙ x.lines (taken fs) true))
              (serves_then s p.to q.to x.done (asked_later v (taken fs) true) es fs ms ns x.serves
              y.serves);
          at_end = ended-append es fs ∙ ap (λ (e : Bool). e || ended fs) x.goes_on ∙ y.at_end;
          inside = crosses-append es fs ∙ ap (λ (e : Bool). e || crosses fs) x.inside ∙ y.inside;
          leaves = goes_leaves a b c next now s p.to u v es fs ms ns meet x y.leaves;
        },
        λ trusted image is_image. stands_left c t2 q.to q.stands image is_image,
      ))
      p.calls q.calls

  -- and then a break
  pub goes_breaks : (fault : RunFault) → Stretch b c (ServesSomeInput fault now p.to v)
      → Stretch a c (ServesSomeInput fault next s u)
  goes_breaks fault q = stretch_then a b c {P = ServesInput next s u now p.to v} {Q = ServesSomeInput fault now p.to v} {R =
      ServesSomeInput fault next s u}
      (λ es fs ms ns meet x y. record {
        breaks = subst (λ (ls : List AskedLine). Breaks fault next s ls (es ++ fs) (ms ++ ns))
            (sym (ap (λ (e : Bool). asked_later u (taken (es ++ fs)) e)
            (ended-append es fs ∙ ap (λ (e : Bool). e || ended fs) x.goes_on)
            ∙ ap (λ (bs : List ℕ). asked_later u bs (ended fs)) (taken-append es fs)
            ∙ x.lines (taken fs) (ended fs)))
            (serves_break fault next now s p.to x.done
            (asked_later v (taken fs) (ended fs)) es fs ms ns x.files x.serves y.breaks);
        inside = crosses-append es fs ∙ ap (λ (e : Bool). e || crosses fs) x.inside ∙ y.inside;
        leaves = goes_leaves a b c next now s p.to u v es fs ms ns meet x y.leaves;
      })
      p.calls q

-- ---- the whole of a run

-- a reader of lines before the first byte
abbrev pub fresh : Unread
fresh = record { most = longest_line; bytes = []; ended = false }

-- all was answered
pub answers_all : (a b : DiskState) (s t : State) (es : Log) (ms : List ℕ)
    → EndsInput s fresh t a b es ms → LeavesNow b t → AnswersAllLines s a b es ms
answers_all a b s t es ms x last = record {
  at_end = x.at_end;
  inside = x.inside;
  said = x.serves.said;
  count = x.serves.count;
  enough = x.serves.enough;
  leaves = x.leaves;
  last = subst (LeavesNow b) x.serves.state last;
}

-- some was
pub answers_some : (a b : DiskState) (fault : RunFault) (next : ℕ) (s : State) (es : Log) (ms : List ℕ)
    → ServesSomeInput fault next s fresh a b es ms → AnswersSomeLines fault next s a b es ms
answers_some a b fault next s es ms x =
    let br = x.breaks in
    let front : List AskedLine = br.done ++ br.begun in
    let lines : asks (ended es) (taken es) ≡ front ++ br.rest =
    br.lines ∙ sym (append_assoc br.done br.begun br.rest) in
    record {
      breaks = br;
      inside = x.inside;
      said = subst (λ (ls : List AskedLine). IsPrefix (said_in es) (turns_text (turns_of_lines s ls ms)))
          (sym lines)
          (subst (λ (ns : List ℕ). IsPrefix (said_in es) (turns_text (turns_of_lines s (front ++ br.rest) ns)))
          (append-nil ms)
          (subst (IsPrefix (said_in es))
          (sym (ap turns_text (turns-append s front br.rest ms [] br.count)
          ∙ text_of-append (turns_of_lines s front ms) (turns_of_lines (after s (turns_of_lines s front ms)) br.rest [])))
          (IsPrefix-longer (said_in es) (turns_text (turns_of_lines s front ms))
          (turns_text (turns_of_lines (after s (turns_of_lines s front ms)) br.rest [])) br.said)));
      leaves = x.leaves;
    }
