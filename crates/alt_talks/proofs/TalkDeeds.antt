-- What turns come to, one list of turns after another, and what a stop leaves of them.
use Rattle.std.proofs.Common.{◌≡◌, ◌≤◌, inl, inr, ℕ, List, [], ◌∷◌, ◌++◌, length, Bool, true, false, refl, sym, ap, subst, ◌∙◌, append-nil, arith}
use Rattle.std.proofs.Math.Nat.{suc_inj}
use Rattle.alt_base.specs.Prefix.{IsPrefix}
use Rattle.alt_base.proofs.Lists.{length-none}
use Rattle.alt_disk.specs.Disk.{DiskState}
use Rattle.alt_machine.specs.State.{State}
use Rattle.alt_shell.specs.Log.{Log, until, said_in}
use Rattle.alt_talks.specs.Stops.{Image, StandsBehind, IsLeft, AtEach}
use Rattle.alt_talks.specs.Stretches.{SaidOf, Does}
use Rattle.alt_talks.specs.Talks.{Turn, onward, asked, refused, Rules, has_refused}
use Rattle.alt_talks.specs.private.Lawful.{Lawful}
use Rattle.alt_talks.specs.TalkStops.{deeds, saying, carrying, LeftOn}
use Rattle.alt_talks.specs.TalkTexts.{text, after, moments_taken}
use Rattle.alt_talks.specs.Turns.{answered_turns, Turn as Deed, turns_text, after as deed_after}
use Rattle.alt_talks.proofs.Stretching.{said_in-append}
use Rattle.alt_talks.proofs.Stopping.{AllSay, answered-front, answered-prefix, prefix-within, left-more, left-behind, said-by, stands-behind, stands-fewer, until-append, until-before, until-behind, IsPrefix-longer}
use Rattle.alt_talks.proofs.StretchLeaving.{Meet, spans_two}
use Rattle.alt_talks.proofs.TalkFolds.{asks-requests}
use Rattle.alt_talks.proofs.TurnLaws.{text_of-append}

-- ---- one list after another

pub deeds-append : (r : Rules) (s : State) (ts us : List Turn) (ms ns : List ℕ) → length ms ≡ moments_taken ts
    → deeds r s (ts ++ us) (ms ++ ns) ≡ deeds r s ts ms ++ deeds r (after r s ts ms) us ns
deeds-append r s [] us [] ns e = refl
deeds-append r s [] us (m ∷ ms) ns e = absurd (omega arith)
deeds-append r s (onward ∷ ts) us ms ns e =
    ap (λ ds. saying r.greeting ∷ ds) (deeds-append r s ts us ms ns e)
deeds-append r s (asked q ∷ ts) us [] ns e = absurd (omega arith)
deeds-append r s (asked q ∷ ts) us (m ∷ ms) ns e =
    ap (λ ds. carrying r s q m ∷ ds) (deeds-append r (r.next s q m) ts us ms ns (suc_inj e))
deeds-append r s (refused k ∷ ts) us [] ns e = absurd (omega arith)
deeds-append r s (refused k ∷ ts) us (m ∷ ms) ns e =
    ap (λ ds. saying (r.refusal k m) ∷ ds) (deeds-append r s ts us ms ns (suc_inj e))

-- their text is what is to be said
pub text_of-deeds : (r : Rules) (s : State) (ts : List Turn) (ms : List ℕ)
    → turns_text (deeds r s ts ms) ≡ text r s ts ms
text_of-deeds r s [] ms = refl
text_of-deeds r s (onward ∷ ts) ms = ap (λ bs. r.greeting ++ bs) (text_of-deeds r s ts ms)
text_of-deeds r s (asked q ∷ ts) [] = refl
text_of-deeds r s (asked q ∷ ts) (m ∷ ms) =
    ap (λ bs. r.reply s q m ++ bs) (text_of-deeds r (r.next s q m) ts ms)
text_of-deeds r s (refused k ∷ ts) [] = refl
text_of-deeds r s (refused k ∷ ts) (m ∷ ms) =
    ap (λ bs. r.refusal k m ++ bs) (text_of-deeds r s ts ms)

after-spent : (r : Rules) (s : State) (ts : List Turn) → after r s ts [] ≡ s
after-spent r s [] = refl
after-spent r s (onward ∷ ts) = after-spent r s ts
after-spent r s (asked q ∷ ts) = refl
after-spent r s (refused k ∷ ts) = after-spent r s ts

module _ (r : Rules) (w : Lawful r) where
  -- the state after them is that after the last
  pub after-deeds : (s : State) (ts : List Turn) (ms : List ℕ)
      → deed_after s (deeds r s ts ms) ≡ after r s ts ms
  after-deeds s [] ms = refl
  after-deeds s (onward ∷ ts) ms = after-deeds s ts ms
  after-deeds s (asked q ∷ ts) [] = refl
  after-deeds s (asked q ∷ ts) (m ∷ ms) =
      ap (λ (u : State). deed_after u (deeds r (r.next s q m) ts ms)) (sym (w.steps s q m))
      ∙ after-deeds (r.next s q m) ts ms
  after-deeds s (refused k ∷ ts) [] = sym (after-spent r s ts)
  after-deeds s (refused k ∷ ts) (m ∷ ms) = after-deeds s ts ms

  -- each of them says something
  pub deeds_say : (s : State) (ts : List Turn) (ms : List ℕ) → AllSay (deeds r s ts ms)
  deeds_say s [] ms = tt
  deeds_say s (onward ∷ ts) ms = (w.greets, deeds_say s ts ms)
  deeds_say s (asked q ∷ ts) [] = tt
  deeds_say s (asked q ∷ ts) (m ∷ ms) = (w.replies s q m, deeds_say (r.next s q m) ts ms)
  deeds_say s (refused k ∷ ts) [] = tt
  deeds_say s (refused k ∷ ts) (m ∷ ms) = (w.refuses k m, deeds_say s ts ms)

  -- the first of more turns
  pub deeds-more : (s : State) (ts us : List Turn) (ms : List ℕ) → length ms ≤ moments_taken ts
      → (ds : List Deed) × AllSay ds × (deeds r s (ts ++ us) ms ≡ deeds r s ts ms ++ ds)
  deeds-more s [] us [] h = (deeds r s us [], deeds_say s us [], refl)
  deeds-more s [] us (m ∷ ms) h = absurd (omega arith)
  deeds-more s (onward ∷ ts) us ms h =
      let e = deeds-more s ts us ms h in
      (e.0, e.1, ap (λ ds. saying r.greeting ∷ ds) e.2)
  deeds-more s (asked q ∷ ts) us [] h = ([], tt, refl)
  deeds-more s (asked q ∷ ts) us (m ∷ ms) h =
      let e = deeds-more (r.next s q m) ts us ms (omega arith) in
      (e.0, e.1, ap (λ ds. carrying r s q m ∷ ds) e.2)
  deeds-more s (refused k ∷ ts) us [] h = ([], tt, refl)
  deeds-more s (refused k ∷ ts) us (m ∷ ms) h =
      let e = deeds-more s ts us ms (omega arith) in
      (e.0, e.1, ap (λ ds. saying (r.refusal k m) ∷ ds) e.2)

  -- and with more moments
  pub deeds-longer : (s : State) (ts : List Turn) (ms ns : List ℕ)
      → (ds : List Deed) × AllSay ds × (deeds r s ts (ms ++ ns) ≡ deeds r s ts ms ++ ds)
  deeds-longer s [] ms ns = ([], tt, refl)
  deeds-longer s (onward ∷ ts) ms ns =
      let e = deeds-longer s ts ms ns in
      (e.0, e.1, ap (λ ds. saying r.greeting ∷ ds) e.2)
  deeds-longer s (asked q ∷ ts) [] ns =
      (deeds r s (asked q ∷ ts) ns, deeds_say s (asked q ∷ ts) ns, refl)
  deeds-longer s (asked q ∷ ts) (m ∷ ms) ns =
      let e = deeds-longer (r.next s q m) ts ms ns in
      (e.0, e.1, ap (λ ds. carrying r s q m ∷ ds) e.2)
  deeds-longer s (refused k ∷ ts) [] ns =
      (deeds r s (refused k ∷ ts) ns, deeds_say s (refused k ∷ ts) ns, refl)
  deeds-longer s (refused k ∷ ts) (m ∷ ms) ns =
      let e = deeds-longer s ts ms ns in
      (e.0, e.1, ap (λ ds. saying (r.refusal k m) ∷ ds) e.2)

-- ---- what is left

-- behind turns of which a say failed nothing more is said
pub left-muted : (s : State) (ts us : List Deed) (said : List ℕ) (image : Image) → AllSay us
    → IsPrefix said (turns_text ts) → IsLeft (deed_after s ts) us [] image
    → IsLeft s (ts ++ us) said image
left-muted s ts us said image say front p = record {
  behind = subst (StandsBehind image s (ts ++ us))
      (sym (answered-front ts us said say (prefix-within said (turns_text ts) front)))
      (stands-fewer image s (ts ++ us) (answered_turns ts said) (ts ++ answered_turns us [])
      (IsPrefix-longer (answered_turns ts said) ts (answered_turns us []) (answered-prefix ts said))
      (stands-behind image s ts us (answered_turns us []) p.behind));
  front = subst (IsPrefix said) (sym (text_of-append ts us))
      (IsPrefix-longer said (turns_text ts) (turns_text us) front);
}

-- turns, and then more of them
module _ (r : Rules) (w : Lawful r) (a b c : DiskState) (s t : State) (m n : Bool)
    (ts us : List Turn) (es fs : Log) (ms ns : List ℕ) (meet : Meet a b c es fs)
    (clear : has_refused ts ≡ false) (p : Does r s m ts t n es ms)
    (mute : n ≡ true → said_in fs ≡ []) where
  exact : length ms ≡ moments_taken ts
  exact = elim p.count [ inl e ↦ e.0 | inr e ↦ e.1 ∙ asks-requests ts clear ]

  pub both : deeds r s (ts ++ us) (ms ++ ns) ≡ deeds r s ts ms ++ deeds r t us ns
  both = deeds-append r s ts us ms ns exact
      ∙ ap (λ (u : State). deeds r s ts ms ++ deeds r u us ns) (sym p.state)

  reached : t ≡ deed_after s (deeds r s ts ms)
  reached = p.state ∙ sym (after-deeds r w s ts ms)

  -- what was said by a moment behind the first
  pub behind : (v : ℕ) (image : Image) → (x : Bool) → n ≡ x
      → IsLeft t (deeds r t us ns) (said_in (until v fs)) image
      → IsLeft s (deeds r s ts ms ++ deeds r t us ns) (said_in es ++ said_in (until v fs)) image
  behind v image true is left =
      let none : said_in (until v fs) ≡ [] = length-none (said_in (until v fs))
      (let h = said-by v fs in let k = ap length (mute is) in omega (arith, h, k)) in
      let front : IsPrefix (said_in es) (turns_text (deeds r s ts ms)) =
      subst (IsPrefix (said_in es)) (sym (text_of-deeds r s ts ms))
      (subst (λ (y : Bool). SaidOf y (said_in es) (text r s ts ms)) is p.said) in
      subst (λ (bs : List ℕ). IsLeft s (deeds r s ts ms ++ deeds r t us ns) bs image)
      (sym (append-nil (said_in es)) ∙ ap (λ (bs : List ℕ). said_in es ++ bs) (sym none))
      (left-muted s (deeds r s ts ms) (deeds r t us ns) (said_in es) image (deeds_say r w t us ns)
      front
      (subst (λ (u : State). IsLeft u (deeds r t us ns) [] image) reached
      (subst (λ (bs : List ℕ). IsLeft t (deeds r t us ns) bs image) none left)))
  behind v image false is left =
      let whole : said_in es ≡ turns_text (deeds r s ts ms) =
      subst (λ (y : Bool). SaidOf y (said_in es) (text r s ts ms)) is p.said
      ∙ sym (text_of-deeds r s ts ms) in
      subst (λ (bs : List ℕ). IsLeft s (deeds r s ts ms ++ deeds r t us ns)
      (bs ++ said_in (until v fs)) image) (sym whole)
      (left-behind s (deeds r s ts ms) (deeds r t us ns) (said_in (until v fs)) image
      (subst (λ (u : State). IsLeft u (deeds r t us ns) (said_in (until v fs)) image) reached left))

  pub left_then : AtEach a b (LeftOn r s ts es ms) → AtEach b c (LeftOn r t us fs ns)
      → AtEach a c (LeftOn r s (ts ++ us) (es ++ fs) (ms ++ ns))
  left_then first then trusted =
      spans_two a b c (LeftOn r s ts es ms) (LeftOn r t us fs ns)
      (LeftOn r s (ts ++ us) (es ++ fs) (ms ++ ns))
      (first trusted) (then (meet.trusts trusted))
      (λ v image before x.
      subst (λ (ds : List Deed). IsLeft s ds (said_in (until v (es ++ fs))) image) (sym both)
      (subst (λ (bs : List ℕ). IsLeft s (deeds r s ts ms ++ deeds r t us ns) bs image)
      (ap said_in (sym (append-nil (until v es))
      ∙ ap (λ (gs : Log). until v es ++ gs)
      (sym (until-before b.moment c.moment v fs meet.behind before))
      ∙ sym (until-append v es fs)))
      (left-more s (deeds r s ts ms) (deeds r t us ns) (said_in (until v es)) image
      (deeds_say r w t us ns) x)))
      (λ v image from x.
      subst (λ (ds : List Deed). IsLeft s ds (said_in (until v (es ++ fs))) image) (sym both)
      (subst (λ (bs : List ℕ). IsLeft s (deeds r s ts ms ++ deeds r t us ns) bs image)
      (sym (said_in-append es (until v fs))
      ∙ ap said_in (ap (λ (gs : Log). gs ++ until v fs)
      (sym (until-behind a.moment b.moment v es meet.before from))
      ∙ sym (until-append v es fs)))
      (behind v image n refl x)))
