-- The answer as a function is the answer.
use Rattle.std.proofs.Common.{◌≡◌, ◌<◌, ◌≤◌, ℕ, List, [], ◌∷◌, ◌++◌, length, take, drop, Bool, true, false, cond, refl, sym, ap, subst, ◌∙◌, arith, inl, inr, Option}
use Rattle.std.specs.Prelude.{◌==◌, ◌||◌, nat_lt}
use Rattle.std.proofs.lemmas.Bool.Decides.{nat_tests}
use Rattle.std.proofs.lemmas.List.{take-append-drop}
use Rattle.std.proofs.lemmas.List.Elements.{All-nil, All-cons}
use Rattle.httparse.specs.Grammar.{ReadsRequest}
use Rattle.httparse.specs.Pieces.{Then, Section, RequestStart, Begins, Never, Completes}
use Rattle.httparse.proofs.GrammarLemmas.{request_from_pieces, ReadsRequest-append}
use Rattle.httparse.proofs.HeadLemmas.{request_not_yet, request_never}
use Rattle.httparse.proofs.OpenLemmas.{request_may, Completes_first, line_blank, some_section}
use Rattle.httparse.proofs.PieceLemmas.{Never_elim}
use Rattle.alt_http.specs.Feeds.{IsPlain, IsLastFront}
use Rattle.alt_http.specs.Heads.{window, most_of_head, CanGoOn}
use Rattle.alt_http.specs.Judged.{parts_of, judged_head, IsScan, by_head, by_bad, by_size, by_more}
use Rattle.alt_http.specs.Reading.{PartRead, got, short, never, by_read, Lines, head_of, read_head, front_to_line_feed, scan_of}
use Rattle.alt_http.specs.declared.outcome.Scan.{Scan}
use Rattle.alt_http.specs.declared.outcome.Scan.TheVariants.{More, Refused, Head}
use Rattle.alt_http.proofs.Fronts.{EndsInFeed, go_on, go_on_plain, bad}
use Rattle.alt_http.proofs.Laws.{IsScan_unique, IsScan_nothing, IsScan_stays, IsScan_within, IsScan_plain}
use Rattle.alt_http.proofs.Readers.{Reads-head}
use Rattle.alt_http.proofs.LinePieces.{blank_cut, Reads, IsTail}

-- the longest front that ends in a line feed, and the plain bytes behind it
record IsFrontOf (w front : List ℕ) : Type 0 where
  rest : List ℕ
  parts : w ≡ front ++ rest
  plain : IsPlain rest
  tail : IsTail front

front_is : (w : List ℕ) → IsFrontOf w (front_to_line_feed w)
unfolding front_to_line_feed
front_is [] = record {
  rest = [];
  parts = refl;
  plain = All-nil (λ b. (b == 10) ≡ false);
  tail =
      inl refl;
}
front_is (b ∷ w) = by_byte (b == 10) refl (front_to_line_feed w) (front_is w)
  where
    feed_tail : (front : List ℕ) → IsTail front → (b == 10) ≡ true → IsTail (b ∷ front)
    feed_tail front (inl none) is = let feed : b ≡ 10 = grind arith in
        inr (record { line = []; is = λ i. feed i ∷ none i })
    feed_tail front (inr ends) is = inr (record {
      line = b ∷ ends.line;
      is =
          ap (λ (l : List ℕ). b ∷ l) ends.is;
    })

    some_tail : (c : ℕ) (front : List ℕ) → IsTail (c ∷ front) → IsTail (b ∷ c ∷ front)
    some_tail c front (inl none) = cc
    some_tail c front (inr ends) = inr (record {
      line = b ∷ ends.line;
      is =
          ap (λ (l : List ℕ). b ∷ l) ends.is;
    })

    by_byte : (x : Bool) → (b == 10) ≡ x → (front : List ℕ) → IsFrontOf w front
        → IsFrontOf (b ∷ w) (cond (x || nat_lt 0 (length front)) (b ∷ front) [])
    by_byte true is front f = record {
      rest = f.rest;
      parts =
          ap (λ (l : List ℕ). b ∷ l) f.parts;
      plain = f.plain;
      tail = feed_tail front f.tail is;
    }
    by_byte false is (c ∷ front) f = by_some (nat_lt 0 (length (c ∷ front))) refl
      where
        by_some : (y : Bool) → nat_lt 0 (length (c ∷ front)) ≡ y
            → IsFrontOf (b ∷ w) (cond y (b ∷ c ∷ front) [])
        by_some true e = record {
          rest = f.rest;
          parts = ap (λ (l : List ℕ). b ∷ l) f.parts;
          plain =
              f.plain;
          tail = some_tail c front f.tail;
        }
        by_some false e = let none : length (c ∷ front) ≤ 0 = grind (arith, nat_tests) in
            absurd (omega arith)
    by_byte false is [] f = record {
      rest = b ∷ w;
      parts = refl;
      plain =
          All-cons (λ n. (n == 10) ≡ false) b w is (subst IsPlain (sym f.parts) f.plain);
      tail =
          inl refl;
    }

-- the front of the bytes
last_of : (bytes front : List ℕ) (f : IsFrontOf (window bytes) front) → EndsInFeed front
    → IsLastFront bytes front
last_of bytes front f ends = record {
  is_front =
      record { line = ends.line; ends = ends.is; rest = f.rest; parts = f.parts };
  plain = f.plain;
}

-- nothing can be continued to a head
nothing_may : Never (Begins (Then RequestStart Section)) [] → ⊥
nothing_may none =
    let may : Completes (Then RequestStart Section) [] =
    Completes_first (line_blank (blank_cut [] [] refl)) some_section in
    Never_elim none (may.more ++ []) (may.tree, [], may.reads [])

-- bytes that have no head yet, by how many there are
by_length : (bytes : List ℕ) → CanGoOn bytes → (t : Bool) → nat_lt (length bytes) most_of_head ≡ t
    → IsScan bytes (cond t More (Refused 2))
by_length bytes on true is = by_more on (let few : length bytes < 16384 =
    grind (arith, nat_tests) in few) refl
by_length bytes on false is = by_size on (let many : 16384 ≤ length bytes =
    grind (arith, nat_tests) in many) refl

by_front : (bytes front : List ℕ) (f : IsFrontOf (window bytes) front) (r : PartRead Lines)
    → Reads (Then RequestStart Section) front r
    → IsScan bytes (by_read r (λ t rest. judged_head (parts_of (head_of t)))
    (cond (nat_lt (length bytes) most_of_head) More (Refused 2)) (Refused 1))
by_front bytes front f (got t rest) read =
    let reads : ReadsRequest front (head_of t) rest = request_from_pieces front t rest read in
    by_head (head_of t) (
      rest ++ f.rest,
      subst
          (λ (l : List ℕ). ReadsRequest l (head_of t) (rest ++ f.rest)) (sym f.parts)
          (ReadsRequest-append front (head_of t) rest f.rest reads),
    ) refl
by_front bytes front f short read = by_length bytes (on f.tail)
    (nat_lt (length bytes) most_of_head) refl
  where
    on : IsTail front → CanGoOn bytes
    on (inl none) = go_on_plain bytes (subst IsPlain
        (sym (f.parts ∙ ap (λ (l : List ℕ). l ++ f.rest) none)) f.plain)
    on (inr ends) = go_on bytes front (last_of bytes front f ends) (request_not_yet read.0)
        (request_may (read.1 f.tail))
by_front bytes front f never read = by_tail f.tail
  where
    by_tail : IsTail front → IsScan bytes (Refused 1)
    by_tail (inl none) = absurd (nothing_may (subst
        (Never (Begins (Then RequestStart Section))) none read))
    by_tail (inr ends) = by_bad (bad bytes front (last_of bytes front f ends) (request_never read))
        refl

-- the answer that the reading gives is the one that the grammar gives
pub scan_of-is : (bytes : List ℕ) → IsScan bytes (scan_of bytes)
unfolding scan_of
scan_of-is bytes = by_front bytes (front_to_line_feed (window bytes)) (front_is (window bytes))
    (read_head (front_to_line_feed (window bytes))) (Reads-head (front_to_line_feed (window bytes)))

-- and the answer that the grammar gives is the one that the reading gives
pub is-scan_of : (bytes : List ℕ) (scan : Scan) → IsScan bytes scan → scan ≡ scan_of bytes
is-scan_of bytes scan is = IsScan_unique bytes scan (scan_of bytes) is (scan_of-is bytes)

-- ---- the laws on which a server stands

-- of no bytes more are needed
pub scan_of-nothing : scan_of [] ≡ More
scan_of-nothing = sym (is-scan_of [] More IsScan_nothing)

-- a refusal stays, whatever comes behind
pub scan_of-refused : (bytes more : List ℕ) (n : ℕ) → scan_of bytes ≡ Refused n
    → scan_of (bytes ++ more) ≡ Refused n
scan_of-refused bytes more n is =
    sym (is-scan_of (bytes ++ more) (Refused n)
    (IsScan_stays bytes more (Refused n) (subst (IsScan bytes) is (scan_of-is bytes))
    (λ e. cc)))

-- a head stays, whatever comes behind
pub scan_of-head : (bytes more : List ℕ) (taken : ℕ) (target : Option (List ℕ)) (body : ℕ)
    (expect close : Bool)
    → scan_of bytes ≡ Head taken target body expect close
    → scan_of (bytes ++ more) ≡ Head taken target body expect close
scan_of-head bytes more taken target body expect close is =
    sym (is-scan_of (bytes ++ more) (Head taken target body expect close)
    (IsScan_stays bytes more (Head taken target body expect close)
    (subst (IsScan bytes) is (scan_of-is bytes)) (λ e. cc)))

-- and lies within the bytes
pub scan_of-within : (bytes : List ℕ) (taken : ℕ) (target : Option (List ℕ)) (body : ℕ)
    (expect close : Bool)
    → scan_of bytes ≡ Head taken target body expect close → (0 < taken) × (taken ≤ length bytes)
scan_of-within bytes taken target body expect close is =
    IsScan_within bytes (Head taken target body expect close)
    (subst (IsScan bytes) is (scan_of-is bytes))

-- more stays the answer where no line feed comes, below the limit
pub scan_of-plain : (bytes : List ℕ) (seen : ℕ) → IsPlain (drop seen bytes)
    → length bytes < most_of_head → scan_of (take seen bytes) ≡ More → scan_of bytes ≡ More
scan_of-plain bytes seen plain few more =
    let same : take seen bytes ++ drop seen bytes ≡ bytes = take-append-drop seen bytes in
    let before : IsScan (take seen bytes) More =
    subst (IsScan (take seen bytes)) more (scan_of-is (take seen bytes)) in
    sym (is-scan_of bytes More (subst (λ (l : List ℕ). IsScan l More) same
    (IsScan_plain (take seen bytes) (drop seen bytes) before plain
    (subst (λ (l : List ℕ). length l < most_of_head) (sym same) few))))
