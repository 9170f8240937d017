-- What a stop leaves while the turns at hand are done.
use Rattle.std.proofs.Common.{◌≡◌, ◌≤◌, ◌<◌, ◌-◌, ℕ, List, [], ◌∷◌, ◌++◌, length, Bool, true, false, cond, drop, refl, sym, ap, subst, ◌∙◌, append-nil}
use Rattle.std.specs.Prelude.{◌||◌}
use Rattle.alt_disk.specs.Disk.{DiskState}
use Rattle.alt_machine.specs.State.{State}
use Rattle.alt_shell.specs.Log.{Log, until, said_in}
use Rattle.alt_talks.specs.Faults.{reach}
use Rattle.alt_talks.specs.Stops.{IsLeft, AtEach}
use Rattle.alt_talks.specs.Talks.{Turn, asked, refused, Rules, Head, ConnectionPlace, at, unread, bad, good, greets, is_request_whole, request_size, request_of, turns, final}
use Rattle.alt_talks.specs.private.Lawful.{Lawful}
use Rattle.alt_talks.specs.TalkStops.{deeds, LeavesNow, LeftOn}
use Rattle.alt_talks.specs.private.RungStops.{AnswersOn, AnswersSomeOn, CarriesOn, CarriesSomeOn, MovesOn, StepsOn, MovesAllOn, MovesSomeOn}
use Rattle.alt_talks.specs.TalkTexts.{moments_taken}
use Rattle.alt_talks.specs.Turns.{Turn as Deed}
use Rattle.alt_talks.specs.declared.fault.RunFault.{RunFault}
use Rattle.alt_talks.proofs.Stepping.{steps_short, steps_bad, steps_unread, moves_hello, moves_some, whole_at, fewer_left}
use Rattle.alt_talks.proofs.Stopping.{left-more}
use Rattle.alt_talks.proofs.StretchLeaving.{Meet, leaves-weaker}
use Rattle.alt_talks.proofs.TalkDeeds.{deeds-more, left_then}
use Rattle.alt_talks.proofs.Uttering.{moves_none, moves_then, moves_all, moves_break}
use Rattle.alt_talks.proofs.AnswerLeaving.{none_on}

-- none was
pub steps_unread_on : (r : Rules) (a : DiskState) (p : ConnectionPlace) (s : State) (m : Bool)
    → r.scan p.bytes ≡ unread → LeavesNow a s → StepsOn r false p s m p s m a a [] []
unfolding steps_unread moves_none
steps_unread_on r a p s m e here = (steps_unread r p s m e, none_on r a s here)

-- before the first
pub moves_none_on : (r : Rules) (a : DiskState) (p : ConnectionPlace) (s : State) (m : Bool) → LeavesNow a s
    → MovesOn r p s m p s m a a [] []
unfolding moves_none
moves_none_on r a p s m here = (moves_none r p s m, none_on r a s here)

module _ (r : Rules) (w : Lawful r) (a b : DiskState) where
  -- what breaks off some turns breaks off more
  pub left_some : (s : State) (ts us vs : List Turn) (es : Log) (ms : List ℕ) → vs ≡ ts ++ us
      → length ms ≤ moments_taken ts → AtEach a b (LeftOn r s ts es ms) → AtEach a b (LeftOn r s vs es ms)
  left_some s ts us vs es ms e few left =
      let more = deeds-more r w s ts us ms few in
      leaves-weaker a b (LeftOn r s ts es ms) (LeftOn r s vs es ms)
      (λ u image x. subst (λ (ds : List Deed). IsLeft s ds (said_in (until u es)) image)
      (sym more.2 ∙ ap (λ (ks : List Turn). deeds r s ks ms) (sym e))
      (left-more s (deeds r s ts ms) more.0 (said_in (until u es)) image more.1 x)) left

  pub moves_some_on : (fault : RunFault) (next : ℕ) (p : ConnectionPlace) (s : State) (m : Bool) (es : Log) (ms : List ℕ)
      (ts us : List Turn) → turns r p.left p.greeted p.bytes ≡ ts ++ us
      → AnswersSomeOn r fault next s m ts a b es ms → MovesSomeOn r fault next p s m a b es ms
  moves_some_on fault next p s m es ms ts us e x = (
    moves_some r fault next p s m es ms ts us e x.0,
    left_some s ts us (turns r p.left p.greeted p.bytes) es ms e x.0.some.most x.1,
  )

  pub steps_bad_on : (p : ConnectionPlace) (s t : State) (m n : Bool) (k : ℕ) (es : Log) (ms : List ℕ)
      → 0 < p.left → r.scan p.bytes ≡ bad k → AnswersOn r s m (refused k ∷ []) t n a b es ms
      → StepsOn r true p s m (at 0 p.greeted p.bytes) t n a b es ms
  unfolding steps_bad
  steps_bad_on p s t m n k es ms h e x = (steps_bad r p s t m n k es ms h e x.0, x.1)

  pub steps_short_on : (p : ConnectionPlace) (h : Head) (s t : State) (m n : Bool) (es : Log) (ms : List ℕ)
      → 0 < p.left → r.scan p.bytes ≡ good h → is_request_whole h p.bytes ≡ false
      → AnswersOn r s m (greets p.greeted h.expect) t n a b es ms
      → StepsOn r false p s m (at p.left (p.greeted || h.expect) p.bytes) t n a b es ms
  unfolding steps_short moves_hello
  steps_short_on p h s t m n es ms l e v x = (steps_short r p h s t m n es ms l e v x.0, x.1)

  -- all at hand were done
  pub moves_all_on : (p q : ConnectionPlace) (s t : State) (m n : Bool) (es : Log) (ms : List ℕ)
      → turns r q.left q.greeted q.bytes ≡ []
      → final r q.left q.greeted q.bytes ≡ q
      → MovesOn r p s m q t n a b es ms → MovesAllOn r p s m q t n a b es ms
  moves_all_on p q s t m n es ms none here x =
      let all : turns r p.left p.greeted p.bytes ≡ x.0.done =
      x.0.splits ∙ ap (λ ts. x.0.done ++ ts) none ∙ append-nil x.0.done in (
        moves_all r p q s t m n es ms none here x.0,
        subst (λ (ts : List Turn). AtEach a b (LeftOn r s ts es ms)) (sym all) x.1,
      )

module _ (r : Rules) (w : Lawful r) (a b c : DiskState) where
  -- moves and then more
  pub moves_then_on : (p q v : ConnectionPlace) (s t u : State) (m n o : Bool) (es fs : Log) (ms ns : List ℕ)
      → Meet a b c es fs → 0 < q.left → MovesOn r p s m q t n a b es ms
      → MovesOn r q t n v u o b c fs ns → MovesOn r p s m v u o a c (es ++ fs) (ms ++ ns)
  unfolding moves_then
  moves_then_on p q v s t u m n o es fs ms ns meet going x y = (
    moves_then r p q v s t u m n o es fs ms ns going x.0 y.0,
    left_then r w a b c s t m n x.0.done y.0.done es fs ms ns meet (x.0.clear going) x.0.does
        (λ e. (y.0.does.silent e).0) x.1 y.1,
  )

  -- moves and then a break
  pub moves_break_on : (fault : RunFault) (next : ℕ) (p q : ConnectionPlace) (s t : State) (m n : Bool) (es fs : Log)
      (ms ns : List ℕ) → Meet a b c es fs → 0 < q.left → MovesOn r p s m q t n a b es ms
      → MovesSomeOn r fault (reach next ms) q t n b c fs ns → MovesSomeOn r fault next p s m a c (es ++ fs) (ms ++ ns)
  moves_break_on fault next p q s t m n es fs ms ns meet going x y = (
    moves_break r fault next p q s t m n es fs ms ns going x.0 y.0,
    subst (λ (ts : List Turn). AtEach a c (LeftOn r s ts (es ++ fs) (ms ++ ns))) (sym x.0.splits)
        (left_then r w a b c s t m n x.0.done (turns r q.left q.greeted q.bytes) es fs ms ns meet
        (x.0.clear going) x.0.does y.0.some.silent x.1 y.1),
  )

  -- the client was let go on, and the whole request was carried out
  module _ (p : ConnectionPlace) (h : Head) (s t u : State) (m n o : Bool) (es fs : Log) (ms ns : List ℕ)
      (meet : Meet a b c es fs) (l : 0 < p.left) (e : r.scan p.bytes ≡ good h)
      (v : is_request_whole h p.bytes ≡ true)
      (x : AnswersOn r s m (greets p.greeted h.expect) t n a b es ms) where
    abbrev mid : ConnectionPlace
    mid = at p.left (p.greeted || h.expect) p.bytes

    abbrev end : ConnectionPlace
    end = at (cond h.close 0 (p.left - 1)) false (drop (request_size h) p.bytes)

    abbrev whole : Turn
    whole = asked (request_of h p.bytes (p.left - 1))

    first : MovesOn r p s m mid t n a b es ms
    unfolding moves_hello
    first = (moves_hello r p h s t m n es ms l e x.0, x.1)

    pub steps_whole_on : (q : ConnectionPlace) → CarriesOn r h mid t n q u o b c fs ns
        → StepsOn r true p s m q u o a c (es ++ fs) (ms ++ ns)
    steps_whole_on q y =
        let f = whole_at r p.left p.greeted p.bytes h l e v in
        let second : MovesOn r mid t n end u o b c fs ns = (
          record {
            done = whole ∷ [];
            does = y.0.answers.does;
            splits = f.0;
            same = f.1;
            clear = λ _. refl;
            quiet = y.0.answers.quiet;
          },
          y.1,
        ) in
        let both = moves_then_on p mid end s t u m n o es fs ms ns meet l first second in
        subst (λ (z : ConnectionPlace). StepsOn r true p s m z u o a c (es ++ fs) (ms ++ ns)) (sym y.0.place) (
          record {
            moves = both.0;
            rests = λ z. absurd (let g : ⊥ = cc in g);
            fewer = λ _. fewer_left h.close p.left l;
          },
          both.1,
        )

    -- or that broke off
    pub some_whole_on : (fault : RunFault) (next : ℕ) → CarriesSomeOn r fault (reach next ms) h mid t n b c fs ns
        → MovesSomeOn r fault next p s m a c (es ++ fs) (ms ++ ns)
    some_whole_on fault next y =
        let f = whole_at r p.left p.greeted p.bytes h l e v in
        moves_break_on fault next p mid s t m n es fs ms ns meet l first
        (moves_some_on r w b c fault (reach next ms) mid t n fs ns (whole ∷ []) _ f.0 y)
