-- What is answered for bytes is one thing, and stays when more come.
use Rattle.std.proofs.Common.{◌≡◌, ◌<◌, ◌≤◌, ◌+◌, ◌-◌, ℕ, List, [], ◌∷◌, ◌++◌, length, take, drop, refl, sym, ap, subst, ◌∙◌, append_assoc, append-nil, arith, inl, inr, Option, None, Some, Bool}
use Rattle.std.specs.Prelude.{All, ◌==◌, false}
use Rattle.std.proofs.lemmas.List.{length-append, length-take, take_all, take-append-le}
use Rattle.std.proofs.lemmas.Bool.{cases_lt}
use Rattle.std.proofs.Math.Seq.{take-append-add}
use Rattle.std.proofs.lemmas.List.Elements.{All-weaker, All-nil}
use Rattle.httparse.specs.declared.spans.HeaderSpan.{HeaderSpan}
use Rattle.httparse.specs.declared.spans.RequestSpans.{RequestSpans}
use Rattle.httparse.specs.Grammar.{RequestHead, print_request, ReadsRequest}
use Rattle.httparse.specs.Spans.{IsHeaderWithin, IsRequestAt}
use Rattle.httparse.proofs.GrammarLemmas.{ReadsRequest-append, request_unique}
use Rattle.alt_http.specs.Feeds.{IsPlain}
use Rattle.alt_http.specs.Heads.{window, most_of_head, HasHead, IsHeadFront, NeverBecomesHead, CanGoOn}
use Rattle.alt_http.specs.Judged.{Parts, parts_of, head_refusal, answer_to_head, judged_head, LiesIn, ScanStays, IsScan, by_head, by_bad, by_size, by_more}
use Rattle.alt_http.specs.Spans.{parts_at}
use Rattle.alt_http.specs.declared.outcome.Scan.{Scan}
use Rattle.alt_http.specs.declared.outcome.Scan.TheVariants.{More, Refused, Head}
use Rattle.alt_http.proofs.Fronts.{within_front, head_in_window, head_ends, prefix_split, go_on_plain}

-- ---- a head that spans tell

-- spans within a part of the bytes lie within them
pub fields_within : (n m : ℕ) (headers : List HeaderSpan) → n ≤ m → All (IsHeaderWithin n) headers
    → All (IsHeaderWithin m) headers
fields_within n m headers le all =
    All-weaker (IsHeaderWithin n) (IsHeaderWithin m)
    (λ h x. ((x.0.0, (let y = x.0.1 in omega arith)), (x.1.0, (let y = x.1.1 in omega arith))))
    headers all

-- the parts that spans tell are those of the head
pub parts_same : (buf : List ℕ) (headers : List HeaderSpan) (spans : RequestSpans) (h : RequestHead)
    → IsRequestAt buf headers spans h
    → parts_at buf (take spans.headers headers) spans ≡ parts_of h
parts_same buf headers spans h at =
    λ i. record {
      size = at.len i;
      method = at.method i;
      target = at.path i;
      minor =
          at.version i;
      fields = at.fields i;
    }

-- where spans tell a head in a front of the bytes, the answer is what is judged of its parts
pub found_head : (bytes front : List ℕ) (headers : List HeaderSpan) (spans : RequestSpans)
    (scan : Scan) → IsHeadFront bytes front
    → (h : RequestHead) × IsRequestAt front headers spans h
    → scan ≡ judged_head (parts_at front (take spans.headers headers) spans) → IsScan bytes scan
found_head bytes front headers spans scan is_front found is =
    by_head found.0 (head_in_window bytes front is_front found.0
    (drop spans.len front) found.1.reads)
    (is ∙ ap judged_head (parts_same front headers spans found.0 found.1))

-- ---- one answer

bad_no_head : (bytes : List ℕ) (h : RequestHead) → HasHead bytes h → NeverBecomesHead bytes → ⊥
bad_no_head bytes h head bad =
    let is_front = bad.is_front in
    let print = print_request h in
    elim (prefix_split print bad.front head.0 is_front.rest (sym head.1.1 ∙ is_front.parts)) [
      | inl x ↦ bad.never [] h x.0 (head.1.0, append-nil bad.front ∙ x.1)
      | inr x ↦ bad.never x.0 h [] (head.1.0, sym x.1 ∙ sym (append-nil print))
    ]

bad_no_more : (bytes : List ℕ) → CanGoOn bytes → NeverBecomesHead bytes → ⊥
bad_no_more bytes on bad = let may = on.each bad.front bad.is_front in
    bad.never may.more may.head [] may.reads

-- bytes have one answer
pub IsScan_unique : (bytes : List ℕ) (a b : Scan) → IsScan bytes a → IsScan bytes b → a ≡ b
IsScan_unique bytes a b (by_head h x e) (by_head k y f) =
    let same = request_unique (window bytes) h k x.0 y.0 x.1 y.1 in
    e ∙ ap (λ (g : RequestHead). judged_head (parts_of g)) same.0 ∙ sym f
IsScan_unique bytes a b (by_head h x e) (by_bad y f) = absurd (bad_no_head bytes h x y)
IsScan_unique bytes a b (by_head h x e) (by_size y n f) = absurd (y.none h x.0 x.1)
IsScan_unique bytes a b (by_head h x e) (by_more y n f) = absurd (y.none h x.0 x.1)
IsScan_unique bytes a b (by_bad x e) (by_head k y f) = absurd (bad_no_head bytes k y x)
IsScan_unique bytes a b (by_bad x e) (by_bad y f) = e ∙ sym f
IsScan_unique bytes a b (by_bad x e) (by_size y n f) = absurd (bad_no_more bytes y x)
IsScan_unique bytes a b (by_bad x e) (by_more y n f) = absurd (bad_no_more bytes y x)
IsScan_unique bytes a b (by_size x m e) (by_head k y f) = absurd (x.none k y.0 y.1)
IsScan_unique bytes a b (by_size x m e) (by_bad y f) = absurd (bad_no_more bytes x y)
IsScan_unique bytes a b (by_size x m e) (by_size y n f) = e ∙ sym f
IsScan_unique bytes a b (by_size x m e) (by_more y n f) = absurd (omega arith)
IsScan_unique bytes a b (by_more x m e) (by_head k y f) = absurd (x.none k y.0 y.1)
IsScan_unique bytes a b (by_more x m e) (by_bad y f) = absurd (bad_no_more bytes x y)
IsScan_unique bytes a b (by_more x m e) (by_size y n f) = absurd (omega arith)
IsScan_unique bytes a b (by_more x m e) (by_more y n f) = e ∙ sym f

-- ---- more bytes

-- the window of more bytes begins with that of the first
window_more : (bytes more : List ℕ) → (s : List ℕ) × (window (bytes ++ more) ≡ window bytes ++ s)
window_more bytes more = elim (cases_lt most_of_head (length bytes)) [
  | inl long ↦ (
    [],
    take-append-le most_of_head bytes more (omega arith)
        ∙ sym (append-nil (window bytes)),
  )
  | inr short ↦ (
    take (most_of_head - length bytes) more,
    let sum : most_of_head ≡ length bytes + (most_of_head - length bytes) = omega arith in
        ap (λ (n : ℕ). take n (bytes ++ more)) sum
        ∙ take-append-add bytes more (most_of_head - length bytes)
        ∙ ap (λ (l : List ℕ). l ++ take (most_of_head - length bytes) more)
        (sym (take_all most_of_head bytes short)),
  )
]

window_full : (bytes more : List ℕ) → most_of_head ≤ length bytes
    → window (bytes ++ more) ≡ window bytes
window_full bytes more full = take-append-le most_of_head bytes more full

-- a front of the bytes is one of more bytes
pub front_stays : (bytes more front : List ℕ) → IsHeadFront bytes front → IsHeadFront (bytes ++ more) front
front_stays bytes more front is_front =
    let w = window_more bytes more in record {
      line = is_front.line;
      ends = is_front.ends;
      rest = is_front.rest ++ w.0;
      parts = w.1 ∙ ap (λ (l : List ℕ). l ++ w.0) is_front.parts
          ∙ append_assoc front is_front.rest w.0;
    }

-- bytes that fill the window and can go on do so with more bytes
full_stays : (bytes more : List ℕ) → most_of_head ≤ length bytes → CanGoOn bytes
    → CanGoOn (bytes ++ more)
full_stays bytes more full on = record {
  none = λ h r reads. on.none h r (subst (λ (l : List ℕ). ReadsRequest l h r)
      (window_full bytes more full) reads);
  each = λ front is_front. on.each front (record {
    line = is_front.line;
    ends =
        is_front.ends;
    rest = is_front.rest;
    parts =
        sym (window_full bytes more full) ∙ is_front.parts;
  });
}

-- What isn't More stays, whatever comes.
pub IsScan_stays : (bytes more : List ℕ) (scan : Scan) → IsScan bytes scan → (scan ≡ More → ⊥)
    → IsScan (bytes ++ more) scan
IsScan_stays bytes more scan (by_head h x e) final =
    let w = window_more bytes more in
    by_head h (
      x.0 ++ w.0,
      subst (λ (l : List ℕ). ReadsRequest l h (x.0 ++ w.0)) (sym w.1)
          (ReadsRequest-append (window bytes) h x.0 w.0 x.1),
    ) e
IsScan_stays bytes more scan (by_bad x e) final =
    by_bad (record {
      front = x.front;
      is_front = front_stays bytes more x.front x.is_front;
      never =
          x.never;
    }) e
IsScan_stays bytes more scan (by_size x full e) final =
    let n = length-append bytes more in by_size (full_stays bytes more full x) (omega (arith, n)) e
IsScan_stays bytes more scan (by_more x few e) final = absurd (final e)

-- of no bytes more are needed
pub IsScan_nothing : IsScan [] More
IsScan_nothing = by_more (go_on_plain [] (All-nil (λ b. (b == 10) ≡ false))) (omega arith) refl

-- ---- bytes without a line feed

-- a head isn't answered by More
pub no_more : (p : Parts) (o : Option ℕ) → More ≡ answer_to_head p o → ⊥
no_more p (Some n) e = cc
no_more p None e = cc

-- a head of bytes stands before the plain ones at their end
plain_head : (bytes plain : List ℕ) (h : RequestHead) (r : List ℕ) → IsPlain plain
    → length (bytes ++ plain) < most_of_head → ReadsRequest (window (bytes ++ plain)) h r
    → HasHead bytes h
plain_head bytes plain h r is few reads =
    let e = length-append bytes plain in
    let ends = head_ends h in
    let inside = within_front ends.line (print_request h) bytes plain r ends.is is
    (sym reads.1 ∙ take_all most_of_head (bytes ++ plain) (omega arith)) in
    (inside.0, (reads.0, take_all most_of_head bytes (omega (arith, e)) ∙ inside.1))

plain_front : (bytes plain front : List ℕ) → IsPlain plain → length (bytes ++ plain) < most_of_head
    → IsHeadFront (bytes ++ plain) front → IsHeadFront bytes front
plain_front bytes plain front is few is_front =
    let e = length-append bytes plain in
    let inside = within_front is_front.line front bytes plain is_front.rest is_front.ends is
    (sym is_front.parts ∙ take_all most_of_head (bytes ++ plain) (omega arith)) in
    record {
      line = is_front.line;
      ends = is_front.ends;
      rest = inside.0;
      parts =
          take_all most_of_head bytes (omega (arith, e)) ∙ inside.1;
    }

-- More stays where no line feed comes, below the limit.
pub IsScan_plain : (bytes plain : List ℕ) → IsScan bytes More → IsPlain plain
    → length (bytes ++ plain) < most_of_head → IsScan (bytes ++ plain) More
IsScan_plain bytes plain (by_head h x e) is few =
    absurd (no_more (parts_of h) (head_refusal (parts_of h)) e)
IsScan_plain bytes plain (by_bad x e) is few = cc
IsScan_plain bytes plain (by_size x n e) is few = cc
IsScan_plain bytes plain (by_more on n e) is few = by_more (record {
  none = λ h r reads. let head = plain_head bytes plain h r is few reads in on.none h head.0 head.1;
  each = λ front is_front. on.each front (plain_front bytes plain front is few is_front);
}) few refl

-- ---- the bytes of a head

sized : (p : Parts) (o : Option ℕ) (taken : ℕ) (target : Option (List ℕ)) (body : ℕ)
    (expect close : Bool)
    → Head taken target body expect close ≡ answer_to_head p o → taken ≡ p.size
sized p (Some n) taken target body expect close e = cc
sized p None taken target body expect close e = cc

-- a head has a byte, and they are all there
pub IsScan_within : (bytes : List ℕ) (scan : Scan) → IsScan bytes scan → LiesIn bytes scan
IsScan_within bytes More is = tt
IsScan_within bytes (Refused n) is = tt
IsScan_within bytes (Head taken target body expect close) (by_head h x e) =
    let size : taken ≡ length (print_request h) =
    sized (parts_of h) (head_refusal (parts_of h)) taken target body expect close e in
    let ends = head_ends h in
    let some = ap length ends.is in
    let one = length-append ends.line (10 ∷ []) in
    let parts = ap length x.1.1 in
    let both = length-append (print_request h) x.0 in
    let few = length-take most_of_head bytes in
    (omega (arith, some, one), omega (arith, parts, both, few))
IsScan_within bytes (Head taken target body expect close) (by_bad x e) = cc
IsScan_within bytes (Head taken target body expect close) (by_size x n e) = cc
IsScan_within bytes (Head taken target body expect close) (by_more x n e) = cc

-- what the answer says of more bytes
pub IsScan_final : (bytes : List ℕ) (scan : Scan) → IsScan bytes scan → ScanStays bytes scan
IsScan_final bytes More is = tt
IsScan_final bytes (Refused n) is = λ more. IsScan_stays bytes more (Refused n) is (λ e. cc)
IsScan_final bytes (Head taken target body expect close) is =
    λ more. IsScan_stays bytes more (Head taken target body expect close) is (λ e. cc)
