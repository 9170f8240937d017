-- Where bytes are taken on a connection, one stretch after another.
use Rattle.std.proofs.Common.{◌≡◌, ◌<◌, inl, inr, ℕ, List, [], ◌∷◌, ◌++◌, length, Bool, true, false, Option, Some, None, refl, sym, ap, subst, ◌∙◌, append-nil, append_assoc, arith, length-append}
use Rattle.std.specs.Prelude.{◌||◌}
use Rattle.alt_base.proofs.Bools.{neither_first, or_grouped, neither_second}
use Rattle.alt_machine.specs.State.{State}
use Rattle.alt_shell.specs.Log.{Log, Event, took, said, take_failed, say_failed, accepted, none_came, hung_up, event_of, bytes_taken, is_say_failed, bytes_said, taken, said_in, says_failed}
use Rattle.alt_talks.specs.Talks.{Turn, onward, asked, refused, Rules, ConnectionPlace, turns, final, turns_at, final_at, has_refused}
use Rattle.alt_talks.specs.private.Lawful.{Lawful}
use Rattle.alt_talks.specs.TalkTexts.{text, moments_taken}
use Rattle.alt_talks.specs.Stretches.{is_last_take, no_more_bytes, is_take, Idle, TakesIdle, RefusedHeadIsTimed, MomentsAreCounted, Does}
use Rattle.alt_talks.specs.private.Rungs.{AtRest}
use Rattle.alt_talks.proofs.Stretching.{taken-append, said_in-append}
use Rattle.alt_talks.proofs.TalkCuts.{turns_cut, final_cut}
use Rattle.alt_talks.proofs.TalkFolds.{asks-append, asks-requests, text-append}
use Rattle.alt_talks.proofs.TalkLogs.{over-append, broken-append}

-- ---- entries among which nothing is taken

none_behind : (xs ys : List ℕ) → xs ++ ys ≡ [] → ys ≡ []
none_behind [] ys e = e
none_behind (x ∷ xs) ys e = absurd (let f : ⊥ = cc in f)

-- one that takes gives bytes, or no more will come
no_take : (x : Option Event) (ys : List ℕ) → bytes_taken x ++ ys ≡ [] → is_last_take x ≡ false
    → is_take x ≡ false
no_take None ys e o = refl
no_take (Some (took [])) ys e o = absurd (let f : ⊥ = cc in f)
no_take (Some (took (b ∷ bytes))) ys e o = absurd (let f : ⊥ = cc in f)
no_take (Some (said bytes)) ys e o = refl
no_take (Some take_failed) ys e o = absurd (let f : ⊥ = cc in f)
no_take (Some (say_failed bytes)) ys e o = refl
no_take (Some accepted) ys e o = refl
no_take (Some none_came) ys e o = refl
no_take (Some hung_up) ys e o = refl

module _ (r : Rules) (p : ConnectionPlace) (s : State) (m : Bool) where
  -- where no bytes were taken and more may come, none of the entries takes
  pub idle_quiet : (told : List ℕ) (before es : Log) → taken es ≡ [] → no_more_bytes es ≡ false
      → TakesIdle r p s m told before es
  idle_quiet told before [] e o = tt
  idle_quiet told before (x ∷ es) e o = (
    λ t. absurd (let n = no_take (event_of x.1) (taken es) e
        (neither_first (is_last_take (event_of x.1)) (no_more_bytes es) o) in let f : ⊥ = cc in f),
    idle_quiet told (before ++ x ∷ []) es (none_behind (bytes_taken (event_of x.1)) (taken es) e)
        (neither_second (is_last_take (event_of x.1)) (no_more_bytes es) o),
  )

  -- one that is no take
  pub idle_other : (told : List ℕ) (before : Log) (x : ℕ × List ℕ) → is_take (event_of x.1) ≡ false
      → TakesIdle r p s m told before (x ∷ [])
  idle_other told before x n = (λ t. absurd (let f : ⊥ = cc in f), tt)

  -- one after another
  pub idle-append : (told : List ℕ) (before es fs : Log) → TakesIdle r p s m told before es
      → TakesIdle r p s m told (before ++ es) fs → TakesIdle r p s m told before (es ++ fs)
  idle-append told before [] fs h k =
      subst (λ (b : Log). TakesIdle r p s m told b fs) (append-nil before) k
  idle-append told before (x ∷ es) fs h k = (
    h.0,
    idle-append told (before ++ x ∷ []) es fs h.1
        (subst (λ (b : Log). TakesIdle r p s m told b fs) (sym (append_assoc before (x ∷ []) es)) k),
  )

  -- with more moments behind
  pub one_more : (ms ns : List ℕ) (before : Log) → Idle r p s m ms before → Idle r p s m (ms ++ ns) before
  one_more ms ns before i = record {
    goes_on = i.goes_on;
    heard = i.heard;
    goes = i.goes;
    first = i.first;
    rest = i.rest ++ ns;
    moments = ap (λ (l : List ℕ). l ++ ns) i.moments ∙ append_assoc i.first i.rest ns;
    count = i.count;
    said = i.said;
  }

  pub idle_more : (ms ns : List ℕ) (before es : Log) → TakesIdle r p s m ms before es
      → TakesIdle r p s m (ms ++ ns) before es
  idle_more ms ns before [] h = tt
  idle_more ms ns before (x ∷ es) h =
      (λ t. one_more ms ns before (h.0 t), idle_more ms ns (before ++ x ∷ []) es h.1)

  -- at the beginning, where no turn is at hand
  pub idle_start : AtRest r p → 0 < p.left → m ≡ false → Idle r p s m [] []
  idle_start rest going heard =
      let none : turns_at r p [] ≡ [] = ap (turns r p.left p.greeted) (append-nil p.bytes) ∙ rest.0 in
      let here : final_at r p [] ≡ p = ap (final r p.left p.greeted) (append-nil p.bytes) ∙ rest.1 in
      record {
        goes_on = refl;
        heard = ap (λ b. b || false) heard;
        goes = subst (λ (q : ConnectionPlace). 0 < q.left) (sym here) going;
        first = [];
        rest = [];
        moments = refl;
        count = sym (ap moments_taken none);
        said = sym (ap (λ (ts : List Turn). text r s ts []) none);
      }

-- ---- what stood while a refused head was heard

module _ (r : Rules) (s : State) (m : Bool) (ts : List Turn) (ms : List ℕ) where
  -- behind an entry that says nothing
  heard_front : (x : ℕ × List ℕ) (es : Log) → bytes_said (event_of x.1) ≡ []
      → is_say_failed (event_of x.1) ≡ false → RefusedHeadIsTimed r s m ts es ms → RefusedHeadIsTimed r s m ts (x ∷ es) ms
  heard_front x es silent well h = record {
    first = h.first;
    refusal = h.refusal;
    last = h.last;
    moments = h.moments;
    moment = h.moment;
    ends = h.ends;
    before = x ∷ h.before;
    behind = h.behind;
    splits = ap (λ (l : Log). x ∷ l) h.splits;
    well = ap (λ b. m || (b || says_failed h.before)) well ∙ h.well;
    said = ap (λ (l : List ℕ). l ++ said_in h.before) silent ∙ h.said;
  }

  -- with more entries behind
  heard_behind : (es fs : Log) → RefusedHeadIsTimed r s m ts es ms → RefusedHeadIsTimed r s m ts (es ++ fs) ms
  heard_behind es fs h = record {
    first = h.first;
    refusal = h.refusal;
    last = h.last;
    moments = h.moments;
    moment = h.moment;
    ends = h.ends;
    before = h.before;
    behind = h.behind ++ fs;
    splits = ap (λ (l : Log). l ++ fs) h.splits ∙ append_assoc h.before h.behind fs;
    well = h.well;
    said = h.said;
  }

  pub counted_front : (n : Bool) (x : ℕ × List ℕ) (es : Log) → bytes_said (event_of x.1) ≡ []
      → is_say_failed (event_of x.1) ≡ false → MomentsAreCounted r s m ts n es ms
      → MomentsAreCounted r s m ts n (x ∷ es) ms
  counted_front n x es silent well (inl e) = inl (e.0, λ h. heard_front x es silent well (e.1 h))
  counted_front n x es silent well (inr e) = inr e

  pub counted_behind : (n : Bool) (es fs : Log) → MomentsAreCounted r s m ts n es ms
      → MomentsAreCounted r s m ts n (es ++ fs) ms
  counted_behind n es fs (inl e) = inl (e.0, λ h. heard_behind es fs (e.1 h))
  counted_behind n es fs (inr e) = inr e

-- ---- one stretch behind another

-- a refusal stands among the turns behind
pub refused_behind : (ts us : List Turn) → has_refused ts ≡ false → has_refused (ts ++ us) ≡ true
    → has_refused us ≡ true
refused_behind [] us c h = h
refused_behind (onward ∷ ts) us c h = refused_behind ts us c h
refused_behind (asked q ∷ ts) us c h = refused_behind ts us c h
refused_behind (refused k ∷ ts) us c h = absurd (let f : ⊥ = cc in f)

-- turns that took as many moments as they may, of which no say failed, said their whole text
whole_said : (r : Rules) (s t : State) (m n : Bool) (ts : List Turn) (es : Log) (ms : List ℕ)
    → n ≡ false → Does r s m ts t n es ms → said_in es ≡ text r s ts ms
whole_said r s t m true ts es ms e d = absurd (let f : ⊥ = cc in f)
whole_said r s t m false ts es ms e d = d.said

module _ (r : Rules) (s t : State) (m n : Bool) (ts : List Turn) (es : Log) (ms : List ℕ)
    (clear : has_refused ts ≡ false) (p : Does r s m ts t n es ms) where
  pub exact_count : length ms ≡ moments_taken ts
  exact_count = elim p.count [ inl e ↦ e.0 | inr e ↦ e.1 ∙ asks-requests ts clear ]

  -- what was said by a part behind, and by all
  said_both : (us : List Turn) (before : Log) (ns : List ℕ) → n ≡ false
      → said_in before ≡ text r t us ns → said_in (es ++ before) ≡ text r s (ts ++ us) (ms ++ ns)
  said_both us before ns e h =
      said_in-append es before
      ∙ ap (λ (l : List ℕ). l ++ said_in before) (whole_said r s t m n ts es ms e p)
      ∙ ap (λ (l : List ℕ). text r s ts ms ++ l) h
      ∙ ap (λ (v : State). text r s ts ms ++ text r v us ns) p.state
      ∙ sym (text-append r s ts us ms ns exact_count)

  -- no say failed by then
  well_both : (before : Log) → (n || says_failed before) ≡ false
      → (m || says_failed (es ++ before)) ≡ false
  well_both before e =
      ap (λ b. m || b) (broken-append es before)
      ∙ or_grouped m (says_failed es) (says_failed before)
      ∙ ap (λ b. b || says_failed before) (sym p.broke) ∙ e

  pub heard_then : (us : List Turn) (fs : Log) (ns : List ℕ) → RefusedHeadIsTimed r t n us fs ns
      → RefusedHeadIsTimed r s m (ts ++ us) (es ++ fs) (ms ++ ns)
  heard_then us fs ns x = record {
    first = ts ++ x.first;
    refusal = x.refusal;
    last = ap (λ (l : List Turn). ts ++ l) x.last
        ∙ sym (append_assoc ts x.first (refused x.refusal ∷ []));
    moments = ms ++ x.moments;
    moment = x.moment;
    ends = ap (λ (l : List ℕ). ms ++ l) x.ends ∙ sym (append_assoc ms x.moments (x.moment ∷ []));
    before = es ++ x.before;
    behind = x.behind;
    splits = ap (λ (l : Log). es ++ l) x.splits ∙ sym (append_assoc es x.before x.behind);
    well = well_both x.before x.well;
    said =
        said_both x.first x.before x.moments (neither_first n (says_failed x.before) x.well) x.said;
  }

-- takes behind turns of which all were done
module _ (r : Rules) (w : Lawful r) (p q : ConnectionPlace) (s t : State) (m n : Bool) (es : Log) (ms : List ℕ)
    (clear : has_refused (turns_at r p (taken es)) ≡ false)
    (d : Does r s m (turns_at r p (taken es)) t n es ms) (more : no_more_bytes es ≡ false)
    (place : q ≡ final_at r p (taken es)) where
  both : (before : Log) → p.bytes ++ taken (es ++ before) ≡ (p.bytes ++ taken es) ++ taken before
  both before = ap (λ (l : List ℕ). p.bytes ++ l) (taken-append es before)
      ∙ sym (append_assoc p.bytes (taken es) (taken before))

  turns_both : (before : Log) → turns_at r p (taken (es ++ before))
      ≡ turns_at r p (taken es) ++ turns_at r q (taken before)
  turns_both before = ap (turns r p.left p.greeted) (both before)
      ∙ turns_cut r w p.left p.greeted (p.bytes ++ taken es) (taken before)
      ∙ ap (λ (k : ConnectionPlace). turns_at r p (taken es) ++ turns_at r k (taken before)) (sym place)

  final_both : (before : Log) → final_at r p (taken (es ++ before)) ≡ final_at r q (taken before)
  final_both before = ap (final r p.left p.greeted) (both before)
      ∙ final_cut r w p.left p.greeted (p.bytes ++ taken es) (taken before)
      ∙ ap (λ (k : ConnectionPlace). final_at r k (taken before)) (sym place)

  idle_one : (before : Log) (ns : List ℕ) → Idle r q t n ns before
      → Idle r p s m (ms ++ ns) (es ++ before)
  idle_one before ns i =
      let front = turns_at r p (taken es) in
      let back = turns_at r q (taken before) in
      record {
        goes_on = over-append es before ∙ ap (λ b. b || no_more_bytes before) more ∙ i.goes_on;
        heard = well_both r s t m n front es ms clear d before i.heard;
        goes = subst (λ (k : ConnectionPlace). 0 < k.left) (sym (final_both before)) i.goes;
        first = ms ++ i.first;
        rest = i.rest;
        moments = ap (λ (l : List ℕ). ms ++ l) i.moments ∙ sym (append_assoc ms i.first i.rest);
        count =
            let sum = length-append ms i.first in
            let all = asks-append front back in
            let one = exact_count r s t m n front es ms clear d in
            let two = i.count in
            let same = ap moments_taken (turns_both before) in
            omega (arith, sum, all, one, two, same);
        said = said_both r s t m n front es ms clear d back before i.first
            (neither_first n (says_failed before) i.heard) i.said
            ∙ ap (λ (ts : List Turn). text r s ts (ms ++ i.first)) (sym (turns_both before));
      }

  pub idle_then : (before fs : Log) (ns : List ℕ) → TakesIdle r q t n ns before fs
      → TakesIdle r p s m (ms ++ ns) (es ++ before) fs
  idle_then before [] ns h = tt
  idle_then before (x ∷ fs) ns h = (
    λ k. idle_one before ns (h.0 k),
    subst (λ (b : Log). TakesIdle r p s m (ms ++ ns) b fs) (sym (append_assoc es before (x ∷ [])))
        (idle_then (before ++ x ∷ []) fs ns h.1),
  )

  -- the takes of both
  pub idle_both : (fs : Log) (ns : List ℕ) → TakesIdle r p s m ms [] es → TakesIdle r q t n ns [] fs
      → TakesIdle r p s m (ms ++ ns) [] (es ++ fs)
  idle_both fs ns a b =
      idle-append r p s m (ms ++ ns) [] es fs (idle_more r p s m ms ns [] es a)
      (subst (λ (l : Log). TakesIdle r p s m (ms ++ ns) l fs) (append-nil es) (idle_then [] fs ns b))
