-- Serving the lines that a reader has at hand, one after the other.
use Rattle.std.proofs.Common.{◌≡◌, ◌≤◌, ◌<◌, ◌+◌, ◌*◌, ℕ, List, [], ◌∷◌, ◌++◌, map, length, Bool, false, Option, Some, None, refl, sym, ap, subst, ◌∙◌, append_assoc, append-nil, arith}
use Rattle.std.proofs.lemmas.List.{map-append}
use Rattle.std.specs.Prelude.{IfSome, IfNone, OnOk, Result, Ok, Err}
use Rattle.alt_disk.specs.Disk.{DiskState}
use Rattle.alt_lines.specs.Lines.{Line, whole, too_long, lines_of}
use Rattle.alt_lines.specs.declared.feed.Cut.TheVariants.{Whole, TooLong}
use Rattle.alt_lines.specs.Unread.{Unread, lines_now, lines_later, HasNone, TakesLine, TellsLine}
use Rattle.alt_machine.specs.State.{State}
use Rattle.alt_tables.specs.FilesLeft.{most_files}
use Rattle.alt_tables.specs.Stands.{Stands, bounds_of}
use Rattle.alt_tables.specs.declared.tables.Tables.{Tables}
use Rattle.alt_run.specs.private.Brought.{BringsAtHand}
use Rattle.alt_talks.specs.Runs.{Stretch, Leads}
use Rattle.alt_run.specs.private.Rungs.{ServesAtHand, BreaksAtHand, HandsOut, asked_now, asked_later}
use Rattle.alt_run.specs.Turns.{AskedLine, asked_of, control_of, tasks}
use Rattle.alt_talks.specs.declared.fault.RunFault.{RunFault}
use Rattle.alt_talks.specs.declared.fault.RunFault.TheVariants.{NoMemory}
use Rattle.alt_run.proofs.Bringing.{at_hand_none, at_hand_then}
use Rattle.alt_talks.proofs.Stretching.{stretch_none, stretch_then, stretch_as}
use Rattle.alt_run.proofs.TurnLaws.{one_task, tasks-append}
use Rattle.alt_run.proofs.Serving.{hand_none, hand_then, hand_break, hand_breaks_more, hand_stops}

-- what is known of a value where there is one
pub at_some : {X : Type 0} (o : Option X) (x : X) (P : X → Type 0) → o ≡ Some x → IfSome o P → P x
at_some {X} o x P e h = subst (λ (q : Option X). IfSome q P) e h

-- and where there is none
pub at_none : {X : Type 0} (o : Option X) (P : Type 0) → o ≡ None → IfNone o P → P
at_none {X} o P e h = subst (λ (q : Option X). IfNone q P) e h

-- a line that is read has one task
pub tasks_read : (taken : Line) (line : List ℕ) → TellsLine taken Whole [] line → {T E : Type 0}
    (result : Result T E) (new old : ℕ) → OnOk result (new ≤ old + most_files)
    → OnOk result (new ≤ old + tasks (asked_of taken ∷ []) * most_files)
tasks_read (whole text) line tells (Ok x) new old le =
    let e = one_task text (control_of text) in omega (arith, e, le)
tasks_read (whole text) line tells (Err e) new old le = tt
tasks_read too_long line tells result new old le =
    absurd (let other : Whole ≡ TooLong = tells.0 in let f : ⊥ = cc in f)

-- and one that isn't takes no number of a file
pub tasks_any : (taken : Line) {T E : Type 0} (result : Result T E) (n : ℕ)
    → OnOk result (n ≤ n + tasks (asked_of taken ∷ []) * most_files)
tasks_any taken (Ok x) n = omega arith
tasks_any taken (Err e) n = tt

-- These calls served the lines in front of those that the reader has now, from each state for which the tables stood.
pub record Hands (flush : ℕ) (a : DiskState) (t0 : Tables) (b : DiskState) (t1 : Tables)
    (u v : Unread) : Type 0 where
  pub done : List Line
  pub serves : (s : State) → Stands a t0 s → Leads a b t1 (ServesAtHand s (map asked_of done))
  pub files : (s : State) → Stands a t0 s
      → (bounds_of t1).file ≤ (bounds_of t0).file + tasks (map asked_of done) * most_files
  pub brings : BringsAtHand flush (map asked_of done) a b
  pub now : lines_now u ≡ done ++ lines_now v
  pub most : v.most ≡ u.most
  pub ended : v.ended ≡ u.ended
  pub later : u.ended ≡ false → (more : List ℕ) (ended : Bool)
      → lines_later u more ended ≡ done ++ lines_later v more ended

-- at first none
pub hands_none : (flush : ℕ) (a : DiskState) (t0 : Tables) (u : Unread) → Hands flush a t0 a t0 u u
hands_none flush a t0 u = record {
  done = [];
  serves = λ s stands. record {
    to = s;
    stands = stands;
    calls = stretch_none a {P = ServesAtHand s [] s} (hand_none a t0 s stands);
  };
  files = λ s stands. omega arith;
  brings = at_hand_none flush a;
  now = refl;
  most = refl;
  ended = refl;
  later = λ unended more ended. refl;
}

module _ (flush : ℕ) (a : DiskState) (t0 : Tables) (b : DiskState) (t1 : Tables) (u v w : Unread)
    (line : Line) (p : Hands flush a t0 b t1 u v) (takes : TakesLine line v w) where
  -- one line more
  pub hands_line : (c : DiskState) (t2 : Tables)
      → ((s : State) → Stands b t1 s → Leads b c t2 (ServesAtHand s (asked_of line ∷ [])))
      → ((s : State) → Stands b t1 s
      → (bounds_of t2).file ≤ (bounds_of t1).file + tasks (asked_of line ∷ []) * most_files)
      → BringsAtHand flush (asked_of line ∷ []) b c → Hands flush a t0 c t2 u w
  hands_line c t2 go taken again = record {
    done = p.done ++ line ∷ [];
    serves = λ s stands.
        let front = p.serves s stands in
        let q = go front.to front.stands in
        record {
          to = q.to;
          stands = q.stands;
          calls = subst (λ (ls : List AskedLine). Stretch a c (ServesAtHand s ls q.to))
              (sym (map-append asked_of p.done (line ∷ [])))
              (stretch_then a b c {P = ServesAtHand s (map asked_of p.done) front.to} {Q =
              ServesAtHand front.to (asked_of line ∷ []) q.to}
              {R = ServesAtHand s (map asked_of p.done ++ asked_of line ∷ []) q.to}
              (λ es fs ms ns meet x y. hand_then a b c s front.to q.to (map asked_of p.done)
              (asked_of line ∷ []) es fs ms ns meet x y)
              front.calls q.calls);
        };
    files = λ s stands.
        let front = p.serves s stands in
        let first = p.files s stands in
        let one = taken front.to front.stands in
        let same = ap tasks (map-append asked_of p.done (line ∷ [])) in
        let both = tasks-append (map asked_of p.done) (asked_of line ∷ []) in
        omega (arith, first, one, same, both);
    brings = subst (λ (ls : List AskedLine). BringsAtHand flush ls a c)
        (sym (map-append asked_of p.done (line ∷ [])))
        (at_hand_then flush a b c (map asked_of p.done) (asked_of line ∷ []) p.brings again);
    now = p.now ∙ ap (λ (ls : List Line). p.done ++ ls) takes.now
        ∙ sym (append_assoc p.done (line ∷ []) (lines_now w));
    most = takes.most ∙ p.most;
    ended = takes.ended ∙ p.ended;
    later = λ unended more ended. p.later unended more ended
        ∙ ap (λ (ls : List Line). p.done ++ ls) (takes.later (p.ended ∙ unended) more ended)
        ∙ sym (append_assoc p.done (line ∷ []) (lines_later w more ended));
  }

  all_lines : asked_now u ≡ map asked_of p.done ++ (asked_of line ∷ asked_now w)
  all_lines = ap (map asked_of) (p.now ∙ ap (λ (ls : List Line). p.done ++ ls) takes.now)
      ∙ map-append asked_of p.done (line ∷ lines_now w)

  -- the next line broke off
  pub hands_break : (c : DiskState) (fault : RunFault) (s : State) (stands : Stands a t0 s)
      → ((r : State) → Stands b t1 r
      → Stretch b c (BreaksAtHand fault (bounds_of t1).file r (asked_of line ∷ [])))
      → Stretch a c (BreaksAtHand fault (bounds_of t0).file s (asked_now u))
  hands_break c fault s stands go =
      let next = (bounds_of t0).file in
      let now = (bounds_of t1).file in
      let front = p.serves s stands in
      subst (λ (ls : List AskedLine). Stretch a c (BreaksAtHand fault next s ls)) (sym all_lines)
      (stretch_then a b c {P = ServesAtHand s (map asked_of p.done) front.to} {Q =
      BreaksAtHand fault now front.to (asked_of line ∷ [])}
      {R = BreaksAtHand fault next s (map asked_of p.done ++ (asked_of line ∷ asked_now w))}
      (λ es fs ms ns meet x y. hand_break a b c s front.to front.to (map asked_of p.done)
      (asked_of line ∷ asked_now w) es fs ms ns meet x fault next now (p.files s stands)
      (hand_breaks_more b c fault now front.to (asked_of line ∷ []) (asked_now w) fs ns y))
      front.calls (go front.to front.stands))

  -- each line leaves fewer
  pub fewer : length (lines_now w) < length (lines_now v)
  fewer = let e = ap length takes.now in omega (arith, e)

module _ (flush : ℕ) (a : DiskState) (t0 : Tables) (b : DiskState) (t1 : Tables) (u v : Unread)
    (p : Hands flush a t0 b t1 u v) where
  -- memory was refused for the next line
  pub hands_memory : (next : ℕ) (s : State) → Stands a t0 s
      → Stretch a b (BreaksAtHand NoMemory next s (asked_now u))
  hands_memory next s stands =
      let front = p.serves s stands in
      subst (λ (ls : List AskedLine). Stretch a b (BreaksAtHand NoMemory next s ls))
      (sym (ap (map asked_of) p.now ∙ map-append asked_of p.done (lines_now v)))
      (stretch_as a b {P = ServesAtHand s (map asked_of p.done) front.to}
      {Q = BreaksAtHand NoMemory next s (map asked_of p.done ++ asked_now v)}
      (λ es ms within x. hand_stops a b next s front.to (map asked_of p.done) (asked_now v) es ms x)
      front.calls)

  module _ (w : Unread) (none : HasNone v w) where
    served_lines : map asked_of p.done ≡ asked_now u
    served_lines = sym (ap (map asked_of) (p.now ∙ ap (λ (ls : List Line). p.done ++ ls) none.none
        ∙ append-nil p.done))

    -- no line is left
    pub hands_all : (s : State) → Stands a t0 s → Leads a b t1 (ServesAtHand s (asked_now u))
    hands_all s stands = subst (λ (ls : List AskedLine). Leads a b t1 (ServesAtHand s ls))
        served_lines (p.serves s stands)

    -- its tasks took no more numbers
    pub hands_files : (s : State) → Stands a t0 s
        → (bounds_of t1).file ≤ (bounds_of t0).file + tasks (asked_now u) * most_files
    hands_files s stands = subst (λ (ls : List AskedLine).
        (bounds_of t1).file ≤ (bounds_of t0).file + tasks ls * most_files)
        served_lines (p.files s stands)

    -- and the disk is as the last promises
    pub hands_brings : BringsAtHand flush (asked_now u) a b
    hands_brings = subst (λ (ls : List AskedLine). BringsAtHand flush ls a b) served_lines p.brings

    nothing_more : lines_now w ≡ []
    nothing_more =
        ap (λ (bs : List ℕ). lines_of w.most w.ended bs) (sym (append-nil w.bytes))
        ∙ ap (λ (e : Bool). lines_later w [] e) none.ended
        ∙ none.later [] v.ended
        ∙ ap (λ (bs : List ℕ). lines_of v.most v.ended bs) (append-nil v.bytes)
        ∙ none.none

    -- and whatever follows comes behind those that were served
    pub hands_out : HandsOut u w
    hands_out = record {
      none = nothing_more;
      most = none.most ∙ p.most;
      ended = none.ended ∙ p.ended;
      later = λ unended more ended.
          ap (map asked_of) (p.later unended more ended
          ∙ ap (λ (ls : List Line). p.done ++ ls) (sym (none.later more ended)))
          ∙ map-append asked_of p.done (lines_later w more ended)
          ∙ ap (λ (ls : List AskedLine). ls ++ asked_later w more ended) served_lines;
    }
