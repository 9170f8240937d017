-- Heads end in a line feed. So a head at the front ends within the longest front that does, and what becomes of that front
-- becomes of the bytes.
use Rattle.std.proofs.Common.{◌≡◌, ◌<◌, ◌≤◌, ◌+◌, ◌*◌, ℕ, suc, zero, min, List, [], ◌∷◌, ◌++◌, length, take, drop, Bool, true, false, refl, sym, ap, subst, ◌∙◌, append_assoc, append-nil, arith, inl, inr, Option, None, Some}
use Rattle.std.specs.Prelude.{◌⊎◌, All, IsTrue, ◌==◌, MatchOption, slice_index}
use Rattle.std.specs.List.{flat_map}
use Rattle.std.proofs.lemmas.List.{length-append, length-drop, length-take, get_or-drop, take_all}
use Rattle.std.proofs.lemmas.List.Elements.{All-cons, All-head, All-tail, All-take, All-weaker, All-from_get_or}
use Rattle.std.proofs.lemmas.Bool.{cases_lt, false_from_ne_true}
use Rattle.std.proofs.Math.Seq.{take-append_seam}
use Rattle.memchr.specs.Find.{IsLastByte, is_byte}
use Rattle.httparse.specs.Grammar.{is_uri_byte, LineEnd, crlf, lf, print_end, print_blank, print_version, Field, print_field, IsField, print_section, RequestHead, print_request, ReadsRequest, HasNoRequest, NeverHasRequest, EndsInTarget, MayBecomeRequest}
use Rattle.httparse.specs.Spans.{RequestExceeds}
use Rattle.httparse.proofs.GrammarLemmas.{ReadsRequest-append}
use Rattle.alt_http.specs.Feeds.{IsPlain, LastLineFeedStandsAt, IsLastFront}
use Rattle.alt_http.specs.Heads.{window, HasHead, IsHeadFront, NeverBecomesHead, CanGoOn}

-- two ways to cut one list: one front goes on where the other ends
pub prefix_split : (p front r rest : List ℕ) → p ++ r ≡ front ++ rest
    → ((s : List ℕ) × (front ≡ p ++ s) × (r ≡ s ++ rest))
    ⊎ ((s : List ℕ) × (p ≡ front ++ s) × (rest ≡ s ++ r))
prefix_split [] front r rest e = inl (front, refl, e)
prefix_split (b ∷ p) [] r rest e = inr (b ∷ p, refl, sym e)
prefix_split (b ∷ p) (c ∷ front) r rest e =
    let heads : b ≡ c = cc in
    let tails : p ++ r ≡ front ++ rest = cc in
    elim (prefix_split p front r rest tails) [
      | inl x ↦ inl (x.0, (λ i. sym heads i ∷ x.1 i), x.2)
      | inr x ↦ inr (x.0, (λ i. heads i ∷ x.1 i), x.2)
    ]

-- bytes that end in a line feed have one
feed_not_plain : (q : List ℕ) → IsPlain (q ++ 10 ∷ []) → ⊥
feed_not_plain [] plain = let no : true ≡ false = plain 0 0 (omega arith) in cc
feed_not_plain (b ∷ q) plain = feed_not_plain q
    (All-tail (λ n. (n == 10) ≡ false) b (q ++ 10 ∷ []) plain)

-- behind a front within bytes that end in a line feed, plain bytes are none
plain_end : (q front s : List ℕ) → q ++ 10 ∷ [] ≡ front ++ s → IsPlain s → s ≡ []
plain_end [] [] s e plain = absurd (feed_not_plain [] (subst IsPlain (sym e) plain))
plain_end [] (c ∷ front) [] e plain = refl
plain_end [] (c ∷ []) (b ∷ s) e plain = cc
plain_end [] (c ∷ d ∷ front) (b ∷ s) e plain = cc
plain_end (b ∷ q) [] s e plain = absurd (feed_not_plain (b ∷ q) (subst IsPlain (sym e) plain))
plain_end (b ∷ q) (c ∷ front) s e plain = let tails : q ++ 10 ∷ [] ≡ front ++ s = cc in
    plain_end q front s tails plain

plain_front : (s r : List ℕ) → IsPlain (s ++ r) → IsPlain s
plain_front s r plain = subst IsPlain (take-append_seam s r)
    (All-take (λ b. (b == 10) ≡ false) (length s) (s ++ r) plain)

-- what ends in a line feed stands within the longest front that does
pub within_front : (q p front rest r : List ℕ) → p ≡ q ++ 10 ∷ [] → IsPlain rest
    → p ++ r ≡ front ++ rest
    → (s : List ℕ) × (front ≡ p ++ s) × (r ≡ s ++ rest)
within_front q p front rest r ends plain e =
    elim (prefix_split p front r rest e) [
      | inl x ↦ x
      | inr x ↦ let none : x.0 ≡ [] = plain_end q front x.0 (sym ends ∙ x.1)
          (plain_front x.0 r (subst IsPlain x.2 plain)) in (
            [],
            sym (append-nil front) ∙ ap (λ (l : List ℕ). front ++ l) (sym none) ∙ sym x.1
                ∙ sym (append-nil p),
            sym (x.2 ∙ ap (λ (l : List ℕ). l ++ r) none),
          )
    ]

-- the last byte of a head
pub record EndsInFeed (bytes : List ℕ) : Type 0 where
  pub line : List ℕ
  pub is : bytes ≡ line ++ 10 ∷ []

-- the end of a line ends in a line feed
end_feed : (front : List ℕ) (end : LineEnd) → EndsInFeed (front ++ print_end end)
end_feed front crlf = record {
  line = front ++ 13 ∷ [];
  is =
      sym (append_assoc front (13 ∷ []) (10 ∷ []));
}
end_feed front lf = record { line = front; is = refl }

-- so does a head
pub head_ends : (h : RequestHead) → EndsInFeed (print_request h)
unfolding print_request
head_ends h =
    let a = print_blank h.blank ++ h.method ++ 32 ∷ h.target ++ 32 ∷ print_version h.minor
    ++ print_end h.line_end in
    subst EndsInFeed (append_assoc a (flat_map print_field h.fields) (print_end h.last))
    (end_feed (a ++ flat_map print_field h.fields) h.last)

-- ---- what the longest front says of the bytes

-- a head in the window stands in the front
pub head_in_front : (bytes front : List ℕ) (last : IsLastFront bytes front) (h : RequestHead)
    (r : List ℕ) → ReadsRequest (window bytes) h r
    → (s : List ℕ) × ReadsRequest front h s
head_in_front bytes front last h r reads =
    let ends = head_ends h in
    let inside = within_front ends.line (print_request h) front last.is_front.rest r ends.is
    last.plain (sym reads.1 ∙ last.is_front.parts) in
    (inside.0, (reads.0, inside.1))

-- and a head in the front stands in the window
pub head_in_window : (bytes front : List ℕ) (is_front : IsHeadFront bytes front) (h : RequestHead)
    (r : List ℕ) → ReadsRequest front h r → HasHead bytes h
head_in_window bytes front is_front h r reads = (
  r ++ is_front.rest,
  subst (λ (l : List ℕ). ReadsRequest l h (r ++ is_front.rest))
      (sym is_front.parts) (ReadsRequest-append front h r is_front.rest reads),
)

-- no byte of a target is a line feed
uri_plain : (b : ℕ) → IsTrue (is_uri_byte b) → (b == 10) ≡ false
uri_plain b uri = by_test (b == 10) refl
  where
    by_test : (t : Bool) → (b == 10) ≡ t → (b == 10) ≡ false
    by_test false same = same
    by_test true same =
        let feed : b ≡ 10 = grind arith in
        let no : IsTrue (is_uri_byte 10) = subst (λ (n : ℕ). IsTrue (is_uri_byte n)) feed uri in cc

-- a front that ends in a line feed doesn't end in a target
pub not_in_target : (front line : List ℕ) → front ≡ line ++ 10 ∷ [] → EndsInTarget front → ⊥
not_in_target front line ends x =
    let plain : IsPlain (32 ∷ x.2) = All-cons (λ b. (b == 10) ≡ false) 32 x.2 refl
    (All-weaker (λ b. IsTrue (is_uri_byte b)) (λ b. (b == 10) ≡ false) uri_plain x.2 x.4) in
    let none : 32 ∷ x.2 ≡ [] = plain_end line (print_blank x.0 ++ x.1) (32 ∷ x.2)
    (sym ends ∙ x.5) plain in cc

-- a front of the bytes is a front of the longest one
pub front_in_front : (bytes front other : List ℕ) (last : IsLastFront bytes front)
    (is_front : IsHeadFront bytes other) → (s : List ℕ) × (front ≡ other ++ s)
front_in_front bytes front other last is_front =
    let inside = within_front is_front.line other front last.is_front.rest is_front.rest
    is_front.ends last.plain (sym is_front.parts ∙ last.is_front.parts) in
    (inside.0, inside.1)

-- where no head stands in the longest front, and one may come, the bytes can go on
pub go_on : (bytes front : List ℕ) → IsLastFront bytes front → HasNoRequest front
    → MayBecomeRequest front → CanGoOn bytes
go_on bytes front last none (inr target) = absurd
    (not_in_target front last.is_front.line last.is_front.ends target)
go_on bytes front last none (inl may) = record {
  none = λ h r reads. let inside = head_in_front bytes front last h r reads in
      none h inside.0 inside.1;
  each = λ other is_front.
      let s = front_in_front bytes front other last is_front in record {
        more = s.0 ++ may.0;
        head = may.1;
        reads = subst (λ (l : List ℕ). ReadsRequest l may.1 [])
            (ap (λ (l : List ℕ). l ++ may.0) s.1 ∙ append_assoc other s.0 may.0) may.2;
      };
}

-- bytes without a line feed
pub go_on_plain : (bytes : List ℕ) → IsPlain (window bytes) → CanGoOn bytes
go_on_plain bytes plain = record {
  none = λ h r reads.
      let ends = head_ends h in
      let inside = within_front ends.line (print_request h) [] (window bytes) r ends.is plain
      (sym reads.1) in
      nothing_feed (print_request h) ends.line inside.0 ends.is inside.1;
  each = λ front is_front.
      let inside = within_front is_front.line front []
      (window bytes) is_front.rest is_front.ends plain (sym is_front.parts) in
      absurd (nothing_feed front is_front.line inside.0 is_front.ends inside.1);
}
  where
    nothing_feed : (p line s : List ℕ) → p ≡ line ++ 10 ∷ [] → [] ≡ p ++ s → ⊥
    nothing_feed [] [] s e n = cc
    nothing_feed [] (b ∷ line) s e n = cc
    nothing_feed (c ∷ p) line s e n = cc

-- where none can come, the bytes are bad
pub bad : (bytes front : List ℕ) → IsLastFront bytes front → NeverHasRequest front → NeverBecomesHead bytes
bad bytes front last never = record { front = front; is_front = last.is_front; never = never }

-- ---- how many fields have room

fields_long : (fields : List Field) → All IsField fields
    → length fields * 3 ≤ length (flat_map print_field fields)
fields_long [] all = omega arith
fields_long (f ∷ fields) all =
    let one = All-head IsField f fields all in
    let more = fields_long fields (All-tail IsField f fields all) in
    let e = length-append (print_field f) (flat_map print_field fields) in
    let n = length-append (f.name ++ 58 ∷ f.raw) (print_end f.end) in
    let m = length-append f.name (58 ∷ f.raw) in
    let w = end_long f.end in
    let some = one.name.0 in omega (arith, e, n, m)
  where
    end_long : (end : LineEnd) → 1 ≤ length (print_end end)
    end_long crlf = omega arith
    end_long lf = omega arith

-- each field has three bytes at least
pub head_long : (h : RequestHead) → All IsField h.fields
    → length h.fields * 3 ≤ length (print_request h)
unfolding print_request
head_long h all =
    let a = print_blank h.blank ++ h.method ++ 32 ∷ h.target ++ 32 ∷ print_version h.minor
    ++ print_end h.line_end in
    let e = length-append a (print_section h.fields h.last) in
    let n = length-append (flat_map print_field h.fields) (print_end h.last) in
    let f = fields_long h.fields all in omega (arith, e, n)

-- room for a third of the bytes is enough
pub enough_room : (front : List ℕ) (room : ℕ) → length front < room * 3 → RequestExceeds room front
    → ⊥
enough_room front room enough x =
    let h = x.3 in
    let long = head_long h x.4.0.fields in
    let parts = ap length x.2 in
    let e = length-append x.0 x.1 in
    let p = ap length x.4.1 in
    let q = length-append x.0 (10 ∷ []) in
    let r = append-nil (print_request h) in
    let s = ap length r in
    let many = x.5 in omega (arith, long, parts, e, p, q, s)

-- ---- the last line feed

plain_behind : (w : List ℕ) (k : ℕ) → ((j : ℕ) → k ≤ j → j < length w
    → ((slice_index w j == 10) ≡ true → ⊥)) → IsPlain (drop k w)
plain_behind w k none = All-from_get_or (λ b. (b == 10) ≡ false) (drop k w) 0 (λ i below.
    let e = length-drop k w in
    subst (λ (b : ℕ). (b == 10) ≡ false) (sym (get_or-drop k w i 0))
    (false_from_ne_true (slice_index w (k + i) == 10)
    (none (k + i) (omega arith) (omega (arith, e)))))

feed_parts : (w : List ℕ) (k : ℕ) → k < length w → (slice_index w k == 10) ≡ true
    → w ≡ (take k w ++ 10 ∷ []) ++ drop (suc k) w
feed_parts [] k below is = absurd (omega arith)
feed_parts (b ∷ w) zero below is = let feed : b ≡ 10 = grind arith in ap (λ (n : ℕ). n ∷ w) feed
feed_parts (b ∷ w) (suc k) below is = ap (λ (l : List ℕ). b ∷ l) (feed_parts w k (omega arith) is)

-- what a search from the end for a line feed says
pub last_feed : (w : List ℕ) (found : Option ℕ) → IsLastByte (is_byte 10) w found
    → MatchOption found (IsPlain w) (LastLineFeedStandsAt w)
last_feed w None none = plain_behind w 0 (λ j low below. none j low below)
last_feed w (Some k) last = record {
  below = last.0.high;
  parts = feed_parts w k last.0.high last.1;
  plain = plain_behind w (suc k) (λ j low below. last.0.after j (omega arith) below);
}

-- the front that ends there
pub last_front : (bytes : List ℕ) (k : ℕ) → LastLineFeedStandsAt (window bytes) k
    → IsLastFront bytes (take (k + 1) (window bytes))
last_front bytes k ends =
    let w = window bytes in
    let below = ends.below in
    let len : length (take k w ++ 10 ∷ []) ≡ k + 1 = let e = length-append (take k w) (10 ∷ []) in
    let n = length-take k w in omega (arith, e, n) in
    let front : take (k + 1) w ≡ take k w ++ 10 ∷ [] =
    ap (λ (n : ℕ). take n w) (sym len) ∙ ap (λ (l : List ℕ). take (length (take k w ++ 10 ∷ [])) l)
    ends.parts
    ∙ take-append_seam (take k w ++ 10 ∷ []) (drop (suc k) w) in record {
      is_front = record {
        line = take k w;
        ends = front;
        rest = drop (suc k) w;
        parts = ends.parts ∙ ap (λ (l : List ℕ). l ++ drop (suc k) w) (sym front);
      };
      plain = ends.plain;
    }

-- the window, where it is cut by the number of bytes
pub window_cut : (n : ℕ) (bytes : List ℕ) → take (min (length bytes) n) bytes ≡ take n bytes
window_cut n bytes =
    elim (cases_lt n (length bytes)) [
      | inl more ↦ ap (λ (k : ℕ). take k bytes) (omega arith)
      | inr few ↦ let all : min (length bytes) n ≡ length bytes = omega arith in
          ap (λ (k : ℕ). take k bytes) all ∙ take_all (length bytes) bytes (omega arith)
          ∙ sym (take_all n bytes few)
    ]
