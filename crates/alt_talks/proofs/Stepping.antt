-- One turn at the front.
use Rattle.alt_talks.specs.declared.fault.RunFault.{RunFault}
use Rattle.std.proofs.Common.{◌≡◌, ◌≤◌, ⊎_elim, inl, inr, ◌<◌, ◌+◌, ◌-◌, ◌==◌, take, ℕ, zero, suc, List, [], ◌∷◌, ◌++◌, length, drop, Bool, true, false, cond, None, refl, sym, ap, subst, ◌∙◌, append_assoc, arith}
use Rattle.std.specs.Prelude.{◌||◌}
use Rattle.alt_machine.specs.State.{State}
use Rattle.alt_shell.specs.Log.{Log, said_in}
use Rattle.alt_talks.specs.Faults.{IsCausedBy}
use Rattle.alt_talks.specs.Turns.{or_next}
use Rattle.alt_talks.specs.private.InHand.{asking}
use Rattle.alt_talks.specs.Talks.{Turn, onward, asked, refused, Rules, Head, unread, bad, good, ConnectionPlace, at, turns, final, greets, is_request_whole, request_size, request_of, has_refused}
use Rattle.alt_talks.specs.TalkTexts.{moments_taken, wanted_by_talk}
use Rattle.alt_talks.specs.Stretches.{Begins, TurnsBreakOffFor, IsWorking, IsWriting}
use Rattle.alt_talks.specs.private.Rungs.{Utters, Answers, AnswersSome, MovesConnection, MovesSome, StepsConnection}
use Rattle.alt_talks.proofs.TalkCuts.{at_unread, at_bad, at_hello, at_whole, at_short}
use Rattle.alt_talks.proofs.TalkFolds.{text-more, asks-append}
use Rattle.alt_talks.proofs.Uttering.{does_none, does_onward, quiet_none, moves_none}

pub answers_nothing : (r : Rules) (s : State) (m : Bool) (ts : List Turn) → ts ≡ [] → Answers r s m ts s m [] []
answers_nothing r s m ts e = subst (λ (us : List Turn). Answers r s m us s m [] []) (sym e) (record { does = does_none r s m; quiet = quiet_none })

pub greets_off : (g e : Bool) → e ≡ false → greets g e ≡ []
greets_off g e h = ap (greets g) h

pub greets_done : (g e : Bool) → g ≡ true → greets g e ≡ []
greets_done g true h = ap (λ v. greets v true) h
greets_done g false h = refl

-- letting a client go on is no refusal
pub greets_clear : (g e : Bool) → has_refused (greets g e) ≡ false
greets_clear true true = refl
greets_clear false true = refl
greets_clear true false = refl
greets_clear false false = refl

wanted-none : (r : Rules) (s : State) (us : List Turn) → wanted_by_talk r s us [] ≡ None
wanted-none r s [] = refl
wanted-none r s (onward ∷ us) = wanted-none r s us
wanted-none r s (asked q ∷ us) = refl
wanted-none r s (refused k ∷ us) = wanted-none r s us

wanted-more : (r : Rules) (s : State) (ts us : List Turn) (ms : List ℕ) → length ms ≤ moments_taken ts → wanted_by_talk r s (ts ++ us) ms ≡ wanted_by_talk r s ts ms
wanted-more r s [] us [] h = wanted-none r s us
wanted-more r s [] us (m ∷ ms) h = absurd (omega arith)
wanted-more r s (onward ∷ ts) us ms h = wanted-more r s ts us ms h
wanted-more r s (asked q ∷ ts) us [] h = refl
wanted-more r s (asked q ∷ ts) us (m ∷ ms) h = ap (or_next (r.wants s q m)) (wanted-more r (r.next s q m) ts us ms (omega arith))
wanted-more r s (refused k ∷ ts) us [] h = wanted-more r s ts us [] (omega arith)
wanted-more r s (refused k ∷ ts) us (m ∷ ms) h = wanted-more r s ts us ms (omega arith)

breaks_more : (r : Rules) (fault : RunFault) (next : ℕ) (s : State) (m : Bool) (ts us : List Turn) (es : Log) (ms : List ℕ)
    → length ms ≤ moments_taken ts → TurnsBreakOffFor r fault next s m ts es ms → TurnsBreakOffFor r fault next s m (ts ++ us) es ms
breaks_more r fault next s m ts us es ms few (inl cause) =
    inl (subst (λ w. IsCausedBy w fault) (sym (wanted-more r s ts us ms few)) cause)
breaks_more r fault next s m ts us es ms few (inr work) = inr (
  work.0,
  ⊎_elim (λ (w : IsWriting r s ts ms). inl (record {
    before = w.before;
    request = w.request;
    rest = w.rest ++ us;
    parts = ap (λ l. l ++ us) w.parts ∙ append_assoc w.before (asked w.request ∷ w.rest) us;
    count = w.count;
    first = w.first;
    moment = w.moment;
    moments = w.moments;
    enough = w.enough;
    writes = w.writes;
  })) (λ (w : IsWorking r s m ts es ms). inr (record {
    before = w.before;
    request = w.request;
    rest = w.rest ++ us;
    parts = ap (λ l. l ++ us) w.parts ∙ append_assoc w.before (asked w.request ∷ w.rest) us;
    count = w.count;
    enough = wanted-more r s ts us ms few ∙ w.enough;
    heard = w.heard;
    said = w.said;
  })) work.1,
)

begins_more : (r : Rules) (s : State) (ts us : List Turn) (ms : List ℕ) → Begins r s ts ms
    → Begins r s (ts ++ us) ms
begins_more r s ts us ms b = record {
  done = b.done;
  begun = b.begun;
  rest = b.rest ++ us;
  parts = ap (λ l. l ++ us) b.parts ∙ append_assoc b.done (b.begun ++ b.rest) us
      ∙ ap (λ l. b.done ++ l) (append_assoc b.begun b.rest us);
  few = b.few;
  count = b.count;
  enough = b.enough;
}

-- a break is one of more turns
pub some_more : (r : Rules) (fault : RunFault) (next : ℕ) (s : State) (m : Bool) (ts us vs : List Turn) (es : Log) (ms : List ℕ) → vs ≡ ts ++ us
    → AnswersSome r fault next s m ts es ms → AnswersSome r fault next s m vs es ms
some_more r fault next s m ts us vs es ms e a =
    subst (λ (ws : List Turn). AnswersSome r fault next s m ws es ms) (sym e) (record {
      some = record {
        said = let t = text-more r s ts us ms a.some.most in (a.some.said.0 ++ t.0, t.1 ∙ ap (λ bs. bs ++ t.0) a.some.said.1 ∙ append_assoc (said_in es) a.some.said.0 t.0);
        most = let x = asks-append ts us in let y = a.some.most in omega (arith, x, y);
        wants = breaks_more r fault next s m ts us es ms a.some.most a.some.wants;
        silent = a.some.silent;
        hush = a.some.hush;
        still = a.some.still;
        begins = begins_more r s ts us ms a.some.begins;
      };
      quiet = a.quiet;
    })

pub moves_some : (r : Rules) (fault : RunFault) (next : ℕ) (p : ConnectionPlace) (s : State) (m : Bool) (es : Log) (ms : List ℕ) (ts us : List Turn)
    → turns r p.left p.greeted p.bytes ≡ ts ++ us → AnswersSome r fault next s m ts es ms → MovesSome r fault next p s m es ms
moves_some r fault next p s m es ms ts us e a = let b = some_more r fault next s m ts us _ es ms e a in record { some = b.some; quiet = b.quiet }

unfoldable pub steps_unread : (r : Rules) (p : ConnectionPlace) (s : State) (m : Bool) → r.scan p.bytes ≡ unread → StepsConnection r false p s m p s m [] []
steps_unread r p s m e = record {
  moves = moves_none r p s m;
  rests = λ _. at_unread r p.left p.greeted p.bytes e;
  fewer = λ h. absurd (let f : ⊥ = cc in f);
}

unfoldable pub steps_bad : (r : Rules) (p : ConnectionPlace) (s t : State) (m n : Bool) (k : ℕ) (es : Log) (ms : List ℕ) → 0 < p.left → r.scan p.bytes ≡ bad k
    → Answers r s m (refused k ∷ []) t n es ms → StepsConnection r true p s m (at 0 p.greeted p.bytes) t n es ms
steps_bad r p s t m n k es ms h e a =
    let l = at_bad r p.left p.greeted p.bytes k h e in record {
      moves = record { done = refused k ∷ []; does = a.does; splits = l.0; same = l.1; clear = λ z. absurd (omega arith); quiet = a.quiet };
      rests = λ z. absurd (let f : ⊥ = cc in f);
      fewer = λ _. h;
    }

-- the client was let go on
unfoldable pub moves_hello : (r : Rules) (p : ConnectionPlace) (h : Head) (s t : State) (m n : Bool) (es : Log) (ms : List ℕ) → 0 < p.left → r.scan p.bytes ≡ good h
    → Answers r s m (greets p.greeted h.expect) t n es ms → MovesConnection r p s m (at p.left (p.greeted || h.expect) p.bytes) t n es ms
moves_hello r p h s t m n es ms l e a =
    let f = at_hello r p.left p.greeted p.bytes h e l in
    record { done = greets p.greeted h.expect; does = a.does; splits = f.0; same = f.1; clear = λ _. greets_clear p.greeted h.expect; quiet = a.quiet }

unfoldable pub steps_short : (r : Rules) (p : ConnectionPlace) (h : Head) (s t : State) (m n : Bool) (es : Log) (ms : List ℕ) → 0 < p.left → r.scan p.bytes ≡ good h → is_request_whole h p.bytes ≡ false
    → Answers r s m (greets p.greeted h.expect) t n es ms → StepsConnection r false p s m (at p.left (p.greeted || h.expect) p.bytes) t n es ms
steps_short r p h s t m n es ms l e w a = record {
  moves = moves_hello r p h s t m n es ms l e a;
  rests = λ _. at_short r p.left p.greeted p.bytes h e w l;
  fewer = λ z. absurd (let f : ⊥ = cc in f);
}

-- what stands at the front where a whole request does
pub whole_at : (r : Rules) (left : ℕ) (g : Bool) (bytes : List ℕ) (h : Head) → 0 < left → r.scan bytes ≡ good h → is_request_whole h bytes ≡ true
    → (turns r left (g || h.expect) bytes ≡ asked (request_of h bytes (left - 1)) ∷ turns r (cond h.close 0 (left - 1)) false (drop (request_size h) bytes))
    × (final r left (g || h.expect) bytes ≡ final r (cond h.close 0 (left - 1)) false (drop (request_size h) bytes))
whole_at r zero g bytes h l e w = absurd (omega arith)
whole_at r (suc n) g bytes h l e w =
    let same : n ≡ suc n - 1 = omega arith in
    subst (λ (k : ℕ). (turns r (suc n) (g || h.expect) bytes ≡ asked (request_of h bytes k) ∷ turns r (cond h.close 0 k) false (drop (request_size h) bytes))
    × (final r (suc n) (g || h.expect) bytes ≡ final r (cond h.close 0 k) false (drop (request_size h) bytes))) same (at_whole r n g bytes h e w)

pub fewer_left : (c : Bool) (left : ℕ) → 0 < left → cond c 0 (left - 1) < left
fewer_left true left l = l
fewer_left false left l = omega arith

-- the client was let go on
pub answers_greeted : (r : Rules) (s : State) (m n g e : Bool) → e ≡ true → g ≡ false → (es : Log)
    (ms : List ℕ) → Utters m r.greeting n es ms → Answers r s m (greets g e) s n es ms
answers_greeted r s m n true true is not es ms u = absurd (let f : ⊥ = cc in f)
answers_greeted r s m n true false is not es ms u = absurd (let f : ⊥ = cc in f)
answers_greeted r s m n false false is not es ms u = absurd (let f : ⊥ = cc in f)
answers_greeted r s m n false true is not es ms u =
    record { does = does_onward r s m n es ms u; quiet = u.quiet }

-- the request of a head, by the body behind it and whether its reply closes
pub asking_same : (h : Head) (bytes front body : List ℕ) (left : ℕ) (last : Bool) → front ≡ bytes
    → body ≡ take (h.taken + h.length - h.taken) (drop h.taken front)
    → last ≡ (h.close || (left - 1 == 0))
    → asking h.target body last ≡ request_of h bytes (left - 1)
asking_same h bytes front body left last same is closes =
    let count : h.taken + h.length - h.taken ≡ h.length = omega arith in
    let found : body ≡ take h.length (drop h.taken bytes) =
    is ∙ ap (λ (k : ℕ). take k (drop h.taken front)) count
    ∙ ap (λ (bs : List ℕ). take h.length (drop h.taken bs)) same in
    ap (λ (bs : List ℕ). asking h.target bs last) found
    ∙ ap (λ (b : Bool). asking h.target (take h.length (drop h.taken bytes)) b) closes

-- the place behind it
pub left_at : (h : Head) (p : ConnectionPlace) (left : ℕ) (bytes : List ℕ)
    → left ≡ cond h.close 0 (p.left - 1) → bytes ≡ drop (h.taken + h.length) p.bytes
    → at left false bytes ≡ at (cond h.close 0 (p.left - 1)) false (drop (request_size h) p.bytes)
left_at h p left bytes is rest =
    ap (λ (k : ℕ). at k false bytes) is
    ∙ ap (λ (bs : List ℕ). at (cond h.close 0 (p.left - 1)) false bs) rest
