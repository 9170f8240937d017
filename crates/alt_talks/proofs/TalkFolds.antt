-- The fold over turns, one list of turns after another.
use Rattle.std.proofs.Common.{◌≡◌, ◌≤◌, ◌+◌, ℕ, suc, List, [], ◌∷◌, ◌++◌, length, false, Option, Some, None, refl, sym, ap, ◌∙◌, append_assoc, arith}
use Rattle.std.proofs.Math.Nat.{suc_inj}
use Rattle.alt_machine.specs.State.{State}
use Rattle.alt_machine.specs.Wanted.{Lack}
use Rattle.alt_talks.specs.Turns.{or_next}
use Rattle.alt_talks.specs.Talks.{Turn, onward, asked, refused, Rules, has_refused}
use Rattle.alt_talks.specs.TalkTexts.{text, after, request_count, moments_taken, wanted_by_talk}

pub asks-append : (ts us : List Turn) → moments_taken (ts ++ us) ≡ moments_taken ts + moments_taken us
asks-append [] us = omega arith
asks-append (onward ∷ ts) us = asks-append ts us
asks-append (asked q ∷ ts) us = let e = asks-append ts us in omega (arith, e)
asks-append (refused k ∷ ts) us = let e = asks-append ts us in omega (arith, e)

pub requests-append : (ts us : List Turn) → request_count (ts ++ us) ≡ request_count ts + request_count us
requests-append [] us = omega arith
requests-append (onward ∷ ts) us = requests-append ts us
requests-append (asked q ∷ ts) us = let e = requests-append ts us in omega (arith, e)
requests-append (refused k ∷ ts) us = requests-append ts us

-- without a refusal they are the same
pub asks-requests : (ts : List Turn) → has_refused ts ≡ false → request_count ts ≡ moments_taken ts
asks-requests [] h = refl
asks-requests (onward ∷ ts) h = asks-requests ts h
asks-requests (asked q ∷ ts) h = ap suc (asks-requests ts h)
asks-requests (refused k ∷ ts) h = absurd (let f : ⊥ = cc in f)

pub text-append : (r : Rules) (s : State) (ts us : List Turn) (ms ns : List ℕ) → length ms ≡ moments_taken ts
    → text r s (ts ++ us) (ms ++ ns) ≡ text r s ts ms ++ text r (after r s ts ms) us ns
text-append r s [] us [] ns e = refl
text-append r s [] us (m ∷ ms) ns e = absurd (omega arith)
text-append r s (onward ∷ ts) us ms ns e = ap (λ t. r.greeting ++ t) (text-append r s ts us ms ns e) ∙ sym (append_assoc r.greeting _ _)
text-append r s (asked q ∷ ts) us [] ns e = absurd (omega arith)
text-append r s (asked q ∷ ts) us (m ∷ ms) ns e =
    ap (λ t. r.reply s q m ++ t) (text-append r (r.next s q m) ts us ms ns (suc_inj e))
    ∙ sym (append_assoc (r.reply s q m) _ _)
text-append r s (refused k ∷ ts) us [] ns e = absurd (omega arith)
text-append r s (refused k ∷ ts) us (m ∷ ms) ns e = ap (λ t. r.refusal k m ++ t)
    (text-append r s ts us ms ns (suc_inj e)) ∙ sym (append_assoc (r.refusal k m) _ _)

pub after-append : (r : Rules) (s : State) (ts us : List Turn) (ms ns : List ℕ) → length ms ≡ moments_taken ts
    → after r s (ts ++ us) (ms ++ ns) ≡ after r (after r s ts ms) us ns
after-append r s [] us [] ns e = refl
after-append r s [] us (m ∷ ms) ns e = absurd (omega arith)
after-append r s (onward ∷ ts) us ms ns e = after-append r s ts us ms ns e
after-append r s (asked q ∷ ts) us [] ns e = absurd (omega arith)
after-append r s (asked q ∷ ts) us (m ∷ ms) ns e =
    after-append r (r.next s q m) ts us ms ns (suc_inj e)
after-append r s (refused k ∷ ts) us [] ns e = absurd (omega arith)
after-append r s (refused k ∷ ts) us (m ∷ ms) ns e = after-append r s ts us ms ns (suc_inj e)

pub first_none : (v w : Option Lack) → or_next v w ≡ None → (v ≡ None) × (w ≡ None)
first_none None w e = (refl, e)
first_none (Some n) w e = absurd (let f : ⊥ = cc in f)

pub wanted-append : (r : Rules) (s : State) (ts us : List Turn) (ms ns : List ℕ) → length ms ≡ moments_taken ts → wanted_by_talk r s ts ms ≡ None
    → wanted_by_talk r s (ts ++ us) (ms ++ ns) ≡ wanted_by_talk r (after r s ts ms) us ns
wanted-append r s [] us [] ns e h = refl
wanted-append r s [] us (m ∷ ms) ns e h = absurd (omega arith)
wanted-append r s (onward ∷ ts) us ms ns e h = wanted-append r s ts us ms ns e h
wanted-append r s (asked q ∷ ts) us [] ns e h = absurd (omega arith)
wanted-append r s (asked q ∷ ts) us (m ∷ ms) ns e h =
    let here = first_none (r.wants s q m) (wanted_by_talk r (r.next s q m) ts ms) h in
    ap (λ w. or_next w (wanted_by_talk r (r.next s q m) (ts ++ us) (ms ++ ns))) here.0
    ∙ wanted-append r (r.next s q m) ts us ms ns (suc_inj e) here.1
wanted-append r s (refused k ∷ ts) us [] ns e h = absurd (omega arith)
wanted-append r s (refused k ∷ ts) us (m ∷ ms) ns e h = wanted-append r s ts us ms ns (suc_inj e) h

-- turns past the moments aren't answered and want nothing
pub text-more : (r : Rules) (s : State) (ts us : List Turn) (ms : List ℕ) → length ms ≤ moments_taken ts → (rest : List ℕ) × (text r s (ts ++ us) ms ≡ text r s ts ms ++ rest)
text-more r s [] us [] h = (text r s us [], refl)
text-more r s [] us (m ∷ ms) h = absurd (omega arith)
text-more r s (onward ∷ ts) us ms h = let e = text-more r s ts us ms h in (e.0, ap (λ t. r.greeting ++ t) e.1 ∙ sym (append_assoc r.greeting _ _))
text-more r s (asked q ∷ ts) us [] h = ([], refl)
text-more r s (asked q ∷ ts) us (m ∷ ms) h = let e = text-more r (r.next s q m) ts us ms (omega arith) in (e.0, ap (λ t. r.reply s q m ++ t) e.1 ∙ sym (append_assoc (r.reply s q m) _ _))
text-more r s (refused k ∷ ts) us [] h = ([], refl)
text-more r s (refused k ∷ ts) us (m ∷ ms) h = let e = text-more r s ts us ms (omega arith) in (e.0, ap (λ t. r.refusal k m ++ t) e.1 ∙ sym (append_assoc (r.refusal k m) _ _))
