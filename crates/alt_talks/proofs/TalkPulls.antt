-- Taking, and then the turns at hand.
use Rattle.alt_talks.specs.declared.fault.RunFault.{RunFault}
use Rattle.alt_talks.specs.declared.fault.RunFault.TheVariants.{NoMemory}
use Rattle.std.proofs.Common.{◌≡◌, ◌<◌, inl, ℕ, List, [], ◌∷◌, ◌++◌, length, Bool, true, false, Some, refl, sym, ap, subst, ◌∙◌, append-nil, arith, append_assoc, length-append}
use Rattle.std.specs.Prelude.{◌||◌}
use Rattle.alt_machine.specs.State.{State}
use Rattle.alt_shell.specs.Log.{Log, entry, took, take_failed, taken, crosses}
use Rattle.alt_talks.specs.Talks.{Turn, Rules, ConnectionPlace, at, turns, final, turns_at, final_at, has_refused}
use Rattle.alt_talks.specs.private.Lawful.{Lawful}
use Rattle.alt_talks.specs.TalkTexts.{text}
use Rattle.alt_talks.specs.Faults.{reach}
use Rattle.alt_talks.specs.Stretches.{is_last_take, no_more_bytes, Does, DoesSome, Idle, TakesIdle}
use Rattle.alt_talks.specs.private.Rungs.{MovesAll, MovesSome, GoesOneTake, GoesSome, AtRest}
use Rattle.alt_talks.proofs.Breaking.{breaks_same}
use Rattle.alt_talks.proofs.Stretching.{taken-append}
use Rattle.alt_talks.proofs.TalkLogs.{over-append, crosses-append}
use Rattle.alt_talks.proofs.TalkCuts.{turns_cut, final_cut, at_unread}
use Rattle.alt_talks.proofs.TalkIdle.{one_more, idle_quiet, idle_both, counted_front}
use Rattle.alt_talks.proofs.Uttering.{begins_none, does_none, does_then, does_break, clear_then}

some_is_no_end : (bytes : List ℕ) → 0 < length bytes → is_last_take (Some (took bytes)) ≡ false
some_is_no_end [] h = absurd (omega arith)
some_is_no_end (b ∷ bytes) h = refl

module _ (r : Rules) (p : ConnectionPlace) (s : State) (m : Bool) (bytes : List ℕ) (moment clocked : ℕ)
    (ready : Idle r p s m [] []) where
  into : ConnectionPlace
  into = at p.left p.greeted (p.bytes ++ bytes)

  all_taken : (es : Log) → taken es ≡ [] → taken (entry moment clocked (took bytes) ∷ es) ≡ bytes
  all_taken es e = ap (λ bs. bytes ++ bs) e ∙ append-nil bytes

  -- the take came where one may, and behind it none did
  idle_taken : (es : Log) (ms : List ℕ) → taken es ≡ [] → no_more_bytes es ≡ false
      → TakesIdle r p s m ms [] (entry moment clocked (took bytes) ∷ es)
  idle_taken es ms e o = (
    λ _. one_more r p s m [] ms [] ready,
    idle_quiet r p s m ms (entry moment clocked (took bytes) ∷ []) es e o,
  )

  pub goes_taken : (q : ConnectionPlace) (t : State) (n : Bool) (es : Log) (ms : List ℕ) → 0 < length bytes
      → MovesAll r (at p.left p.greeted (p.bytes ++ bytes)) s m q t n es ms → GoesOneTake r true p s m q t n (entry moment clocked (took bytes) ∷ es) ms
  goes_taken q t n es ms h a =
      let d = a.does in
      let all = all_taken es a.quiet.still in
      record {
        does = subst (λ (bs : List ℕ). Does r s m (turns_at r p bs) t n (entry moment clocked (took bytes) ∷ es) ms) (sym all) (record {
          said = d.said;
          state = d.state;
          count = counted_front r s m (turns_at r p bytes) ms n (entry moment clocked (took bytes)) es refl refl d.count;
          enough = d.enough;
          broke = d.broke;
          silent = d.silent;
          hush = (λ f. absurd (let g : ⊥ = cc in g), d.hush);
          still = d.still;
        });
        place = a.place ∙ ap (final_at r p) (sym all);
        clear = λ z. ap (λ bs. has_refused (turns_at r p bs)) all ∙ a.clear z;
        ends = ap (λ b. b || no_more_bytes es) (some_is_no_end bytes h) ∙ a.quiet.goes_on;
        inside = a.quiet.inside;
        idle = idle_taken es ms a.quiet.still a.quiet.goes_on;
      }

  pub goes_some_taken : (fault : RunFault) (next : ℕ) (es : Log) (ms : List ℕ) → MovesSome r fault next (at p.left p.greeted (p.bytes ++ bytes)) s m es ms → GoesSome r fault next p s m (entry moment clocked (took bytes) ∷ es) ms
  goes_some_taken fault next es ms a =
      let all = all_taken es a.quiet.still in
      record {
        some = subst (λ (bs : List ℕ). DoesSome r fault next s m (turns_at r p bs) (entry moment clocked (took bytes) ∷ es) ms) (sym all)
            (record {
              said = a.some.said;
              most = a.some.most;
              wants = breaks_same r fault next s m (turns_at r p bytes) es (entry moment clocked (took bytes) ∷ es) ms refl refl a.some.wants;
              silent = a.some.silent;
              hush = (λ f. absurd (let g : ⊥ = cc in g), a.some.hush);
              still = a.some.still;
              begins = a.some.begins;
            });
        inside = a.quiet.inside;
        idle = idle_taken es ms a.quiet.still a.quiet.goes_on;
      }

  pub goes_some_none : (next : ℕ) → GoesSome r NoMemory next p s m (entry moment clocked (took bytes) ∷ []) []
  goes_some_none next = record { some = record { said = (text r s (turns_at r p (taken (entry moment clocked (took bytes) ∷ []))) [], refl); most = omega arith; wants = inl tt; silent = λ _. refl; hush = (λ f. absurd (let g : ⊥ = cc in g), tt); still = λ _. refl; begins = begins_none r s (turns_at r p (taken (entry moment clocked (took bytes) ∷ []))) }; inside = refl; idle = idle_taken [] [] refl refl }

-- the end came
module _ (r : Rules) (p : ConnectionPlace) (s : State) (m : Bool) (rest : AtRest r p) where
  none_more : turns_at r p [] ≡ []
  none_more = ap (turns r p.left p.greeted) (append-nil p.bytes) ∙ rest.0

  still_there : p ≡ final_at r p []
  still_there = sym (ap (final r p.left p.greeted) (append-nil p.bytes) ∙ rest.1)

  does_end : Does r s m (turns_at r p []) s m [] []
  does_end = subst (λ (ts : List Turn). Does r s m ts s m [] []) (sym none_more) (does_none r s m)

  pub goes_start : GoesOneTake r true p s m p s m [] []
  goes_start = record { does = does_end; place = still_there; clear = λ _. ap has_refused none_more; ends = refl; inside = refl; idle = tt }

  pub goes_end : (moment clocked : ℕ) → Idle r p s m [] [] → GoesOneTake r false p s m p s m (entry moment clocked (took []) ∷ []) []
  goes_end moment clocked ready =
      let d = does_end in record {
        does = record {
          said = d.said;
          state = d.state;
          count = counted_front r s m (turns_at r p []) [] m (entry moment clocked (took [])) [] refl refl d.count;
          enough = d.enough;
          broke = d.broke;
          silent = d.silent;
          hush = (λ f. absurd (let g : ⊥ = cc in g), tt);
          still = d.still;
        };
        idle = (λ _. ready, tt);
        place = still_there;
        clear = λ _. ap has_refused none_more;
        ends = refl;
        inside = refl;
      }

  pub goes_failed : (moment clocked : ℕ) → Idle r p s m [] [] → GoesOneTake r false p s m p s m (entry moment clocked take_failed ∷ []) []
  goes_failed moment clocked ready =
      let d = does_end in record {
        does = record {
          said = d.said;
          state = d.state;
          count = counted_front r s m (turns_at r p []) [] m (entry moment clocked take_failed) [] refl refl d.count;
          enough = d.enough;
          broke = d.broke;
          silent = d.silent;
          hush = (λ f. absurd (let g : ⊥ = cc in g), tt);
          still = d.still;
        };
        idle = (λ _. ready, tt);
        place = still_there;
        clear = λ _. ap has_refused none_more;
        ends = refl;
        inside = refl;
      }

empty_of : (ys : List Turn) → length ys ≡ 0 → ys ≡ []
empty_of [] e = refl
empty_of (y ∷ ys) e = absurd (omega arith)

append_same : (xs ys : List Turn) → xs ++ ys ≡ xs → ys ≡ []
append_same xs ys e = let a = length-append xs ys in let b = ap length e in empty_of ys (omega (arith, a, b))

-- the turns of both takes
pub joined : (r : Rules) (w : Lawful r) (p q : ConnectionPlace) (s t : State) (m n : Bool) (es fs : Log) (ms : List ℕ) → 0 < q.left → GoesOneTake r true p s m q t n es ms
    → turns_at r p (taken (es ++ fs)) ≡ turns_at r p (taken es) ++ turns_at r q (taken fs)
joined r w p q s t m n es fs ms going a = ap (turns_at r p) (taken-append es fs) ∙ ap (turns r p.left p.greeted) (sym (append_assoc p.bytes (taken es) (taken fs)))
    ∙ turns_cut r w p.left p.greeted (p.bytes ++ taken es) (taken fs) ∙ ap (λ (k : ConnectionPlace). turns_at r p (taken es) ++ turns_at r k (taken fs)) (sym a.place)

-- one after another, as far as turns may still come
module _ (r : Rules) (w : Lawful r) (more : Bool) (p q v : ConnectionPlace) (s t u : State) (m n o : Bool) (es fs : Log) (ms ns : List ℕ) (going : 0 < q.left)
    (a : GoesOneTake r true p s m q t n es ms) (b : GoesOneTake r more q t n v u o fs ns) where
  pub goes_then : GoesOneTake r more p s m v u o (es ++ fs) (ms ++ ns)
  goes_then = record {
    does = subst (λ (ts : List Turn). Does r s m ts u o (es ++ fs) (ms ++ ns)) (sym (joined r w p q s t m n es fs ms going a))
        (does_then r s t u m n o (turns_at r p (taken es)) (turns_at r q (taken fs)) es fs ms ns (a.clear going) a.does b.does);
    place = b.place ∙ ap (λ (k : ConnectionPlace). final_at r k (taken fs)) a.place ∙ sym (final_cut r w p.left p.greeted (p.bytes ++ taken es) (taken fs))
        ∙ ap (final r p.left p.greeted) (append_assoc p.bytes (taken es) (taken fs)) ∙ ap (final_at r p) (sym (taken-append es fs));
    clear = λ z. ap has_refused (joined r w p q s t m n es fs ms going a) ∙ clear_then (turns_at r p (taken es)) (turns_at r q (taken fs)) (a.clear going) (b.clear z);
    ends = over-append es fs ∙ ap (λ e. e || no_more_bytes fs) a.ends ∙ b.ends;
    inside = crosses-append es fs ∙ ap (λ e. e || crosses fs) a.inside ∙ b.inside;
    idle = idle_both r w p q s t m n es ms (a.clear going) a.does a.ends a.place fs ns a.idle b.idle;
  }

-- what a take and its turns left is at rest, so that the next take may come
pub goes_rests : (r : Rules) (w : Lawful r) (more : Bool) (q v : ConnectionPlace) (t u : State) (n o : Bool) (fs : Log) (ns : List ℕ) → GoesOneTake r more q t n v u o fs ns → AtRest r v
goes_rests r w more q v t u n o fs ns b =
    let x = q.bytes ++ taken fs in
    let k = final r q.left q.greeted x in
    let none : turns r k.left k.greeted (k.bytes ++ []) ≡ [] =
    append_same (turns r q.left q.greeted x) (turns r k.left k.greeted (k.bytes ++ [])) (sym (turns_cut r w q.left q.greeted x []) ∙ ap (turns r q.left q.greeted) (append-nil x)) in
    let here : final r k.left k.greeted (k.bytes ++ []) ≡ k = sym (final_cut r w q.left q.greeted x []) ∙ ap (final r q.left q.greeted) (append-nil x) in
    subst (λ (z : ConnectionPlace). AtRest r z) (sym b.place) (
      ap (turns r k.left k.greeted) (sym (append-nil k.bytes)) ∙ none,
      ap (final r k.left k.greeted) (sym (append-nil k.bytes)) ∙ here,
    )

-- before the first take
pub goes_none : (r : Rules) (w : Lawful r) (per : ℕ) (s : State) → GoesOneTake r true (at per false []) s false (at per false []) s false [] []
goes_none r w per s =
    let f = at_unread r per false [] w.nothing in record {
      does = subst (λ (ts : List Turn). Does r s false ts s false [] []) (sym f.0) (does_none r s false);
      place = sym f.1;
      clear = λ _. ap has_refused f.0;
      ends = refl;
      inside = refl;
      idle = tt;
    }

-- turns then a break
pub goes_break : (r : Rules) (w : Lawful r) (fault : RunFault) (next : ℕ) (p q : ConnectionPlace) (s t : State) (m n : Bool) (es fs : Log) (ms ns : List ℕ) → 0 < q.left
    → GoesOneTake r true p s m q t n es ms → GoesSome r fault (reach next ms) q t n fs ns → GoesSome r fault next p s m (es ++ fs) (ms ++ ns)
goes_break r w fault next p q s t m n es fs ms ns going a b = record {
  some = subst (λ (ts : List Turn). DoesSome r fault next s m ts (es ++ fs) (ms ++ ns)) (sym (joined r w p q s t m n es fs ms going a))
      (does_break r fault next s t m n (turns_at r p (taken es)) (turns_at r q (taken fs)) es fs ms ns (a.clear going) a.does b.some);
  inside = crosses-append es fs ∙ ap (λ e. e || crosses fs) a.inside ∙ b.inside;
  idle = idle_both r w p q s t m n es ms (a.clear going) a.does a.ends a.place fs ns a.idle b.idle;
}
