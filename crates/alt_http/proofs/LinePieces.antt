-- What it is that a reader agrees with a piece of the grammar, and the pieces of all lines: their ends, empty lines, words.
use Rattle.std.proofs.Common.{◌≡◌, ◌≢◌, ◌<◌, ◌≤◌, ℕ, List, [], ◌∷◌, ◌++◌, length, Bool, true, false, cond, refl, sym, ap, subst, ◌∙◌, append_assoc, append-nil, arith, inl, inr}
use Rattle.std.specs.Prelude.{◌⊎◌, ◌==◌, ◌&&◌, nat_lt}
use Rattle.std.proofs.lemmas.Bool.Decides.{nat_tests}
use Rattle.std.proofs.lemmas.List.Elements.{All-push}
use Rattle.httparse.specs.Grammar.{AllPass, LineEnd, crlf, lf, print_end, print_blank}
use Rattle.httparse.specs.Pieces.{Piece, Begins, Then, NotYet, Never, Completes, is_newline, Newline, Blank, BlankLines, Word}
use Rattle.httparse.proofs.RunLemmas.{run_unique, run_unstopped}
use Rattle.httparse.proofs.PieceLemmas.{IsDeterministic, Refutes_first, Refutes_next, Never_intro, NotYet_intro}
use Rattle.httparse.proofs.ReadLemmas.{Blank_open, Blank_newline, Blank_after, blank_more}
use Rattle.httparse.proofs.OpenLemmas.{Completes_first, Completes_next, some_newline, Newline_after_cr, Word_cut, BlankLines_after}
use Rattle.alt_http.specs.Reading.{PartRead, got, short, never, by_read, then_read, read_end, read_blank, read_word}
use Rattle.alt_http.proofs.Fronts.{EndsInFeed, prefix_split}

-- nothing, or bytes that end in a line feed
abbrev pub IsTail : List ℕ → Type 0
IsTail bytes = (bytes ≡ []) ⊎ EndsInFeed bytes

-- behind a part of a line feed there is nothing, or it ends in one
one_feed : (s r : List ℕ) → 10 ∷ [] ≡ s ++ r → IsTail r
one_feed [] r f = inr (record { line = []; is = sym f })
one_feed (c ∷ s) [] f = inl refl
one_feed (c ∷ []) (d ∷ r) f = cc
one_feed (c ∷ d ∷ s) (f ∷ r) g = cc

-- what is behind a part of such bytes
pub tail_behind : (text p rest : List ℕ) → text ≡ p ++ rest → IsTail text → IsTail rest
tail_behind text [] rest e tail = subst IsTail e tail
tail_behind text (b ∷ p) rest e (inl none) = cc
tail_behind text (b ∷ p) rest e (inr ends) = by_split
    (prefix_split ends.line (b ∷ p) (10 ∷ []) rest (sym ends.is ∙ e))
  where
    by_split : (((s : List ℕ) × (b ∷ p ≡ ends.line ++ s) × (10 ∷ [] ≡ s ++ rest))
        ⊎ ((s : List ℕ) × (ends.line ≡ (b ∷ p) ++ s) × (rest ≡ s ++ 10 ∷ []))) → IsTail rest
    by_split (inr x) = inr (record { line = x.0; is = x.2 })
    by_split (inl x) = one_feed x.0 rest x.2

-- what a reading says of a piece: it is read; or it isn't there yet, and where the bytes end in a line feed they can be continued
-- to it; or they never can
abbrev pub Reads : {A : Type 0} → Piece A → List ℕ → PartRead A → Type 0
Reads G text (got a rest) = G a text rest
Reads G text short = NotYet (Begins G) text × (IsTail text → Completes G text)
Reads G text never = Never (Begins G) text

-- a piece stands in front of what is behind it
abbrev pub IsFront : {A : Type 0} → Piece A → Type 0
IsFront {A} G = (a : A) (text rest : List ℕ) → G a text rest → (p : List ℕ) × (text ≡ p ++ rest)

-- one piece and then another
pub Reads-then : {A B : Type 0} (G : Piece A) (H : Piece B) → IsDeterministic G → IsFront G
    → Completes H []
    → (text : List ℕ) (r : PartRead A) (f : List ℕ → PartRead B) → Reads G text r
    → ((rest : List ℕ) → Reads H rest (f rest)) → Reads (Then G H) text (then_read r f)
Reads-then G H det front some text (got a rest) f read next = by_next (f rest) (next rest)
  where
    by_next : (q : PartRead _) → Reads H rest q → Reads (Then G H) text
        (by_read q (λ b behind. got (a, b) behind) short never)
    by_next (got b behind) here = (rest, read, here)
    by_next short here = (
      Refutes_next H det {a = a} read here.0,
      λ tail. let cut =
          front a text rest read in Completes_next det {a = a} read
          (here.1 (tail_behind text cut.0 rest cut.1 tail)),
    )
    by_next never here = Refutes_next H det {a = a} read here
Reads-then G H det front some text short f read next =
    (Refutes_first G H read.0, λ tail. Completes_first (read.1 tail) some)
Reads-then G H det front some text never f read next = Refutes_first G H read

-- of the empty lines before the first line there may be more
abbrev pub ReadsBlank : List ℕ → PartRead (List LineEnd) → Type 0
ReadsBlank text (got a rest) = Blank a text rest
ReadsBlank text short = NotYet (Begins Blank) text × (IsTail text → Completes BlankLines text)
ReadsBlank text never = Never (Begins Blank) text

-- ---- line ends

end_none : (e : LineEnd) (rest : List ℕ) → Newline e [] rest → ⊥
end_none crlf rest h = cc
end_none lf rest h = cc

end_first : (e : LineEnd) (b : ℕ) (text rest : List ℕ) → Newline e (b ∷ text) rest
    → (b == 10) ≡ false → (b == 13) ≡ false → ⊥
end_first crlf b text rest h a c = let cr : b ≡ 13 = cc in grind arith
end_first lf b text rest h a c = let feed : b ≡ 10 = cc in grind arith

end_after_cr : (e : LineEnd) (b c : ℕ) (text rest : List ℕ) → Newline e (b ∷ c ∷ text) rest
    → (b == 10) ≡ false → (c == 10) ≡ false → ⊥
end_after_cr crlf b c text rest h x y = let feed : c ≡ 10 = cc in grind arith
end_after_cr lf b c text rest h x y = let feed : b ≡ 10 = cc in grind arith

-- a byte that is told to be a line feed is 10
pub is_feed : (b : ℕ) → (b == 10) ≡ true → b ≡ 10
is_feed b h = grind arith

-- a byte that is told to be a carriage return is 13
pub is_cr : (b : ℕ) → (b == 13) ≡ true → b ≡ 13
is_cr b h = grind arith

-- no line ends in another byte alone than a line feed
cut_cr : (e : LineEnd) (b : ℕ) (rest : List ℕ) → Newline e (b ∷ []) rest → (b == 10) ≡ false → ⊥
cut_cr crlf b rest h x = cc
cut_cr lf b rest h x = let feed : b ≡ 10 = cc in grind arith

cut_newline : (b : ℕ) → (b == 10) ≡ false → NotYet (Begins Newline) (b ∷ [])
cut_newline b other = NotYet_intro (λ h. cut_cr h.0 b h.1 h.2 other)

-- the end of a line is read as the grammar has it
pub Reads-end : (text : List ℕ) → Reads Newline text (read_end text)
Reads-end [] = (NotYet_intro (λ h. end_none h.0 h.1 h.2), λ tail. some_newline)
Reads-end (b ∷ []) = by_feed (b == 10) (b == 13) refl refl
  where
    by_feed : (x y : Bool) → (b == 10) ≡ x → (b == 13) ≡ y
        → Reads Newline (b ∷ []) (cond x (got lf []) (cond y short never))
    by_feed true y is cr = ap (λ (n : ℕ). n ∷ []) (is_feed b is)
    by_feed false true is cr = (
      cut_newline b is,
      λ tail. Newline_after_cr (ap (λ (n : ℕ). n ∷ []) (is_cr b cr)),
    )
    by_feed false false is cr = Never_intro (λ more h. end_first h.0 b more h.1 h.2 is cr)
Reads-end (b ∷ c ∷ text) = by_feed (b == 10) (b == 13) (c == 10) refl refl refl
  where
    by_feed : (x y z : Bool) → (b == 10) ≡ x → (b == 13) ≡ y → (c == 10) ≡ z
        → Reads Newline (b ∷ c ∷ text) (cond x (got lf (c ∷ text))
        (cond (y && z) (got crlf text) never))
    by_feed true y z is cr feed = ap (λ (n : ℕ). n ∷ c ∷ text) (is_feed b is)
    by_feed false true true is cr feed = λ i. is_cr b cr i ∷ is_feed c feed i ∷ text
    by_feed false true false is cr feed = Never_intro
        (λ more h. end_after_cr h.0 b c (text ++ more) h.1 h.2 is feed)
    by_feed false false z is cr feed = Never_intro
        (λ more h. end_first h.0 b (c ∷ (text ++ more)) h.1 h.2 is cr)

-- the end of a line is a front of the bytes
pub Newline_front : IsFront Newline
Newline_front e text rest h = (print_end e, h)

-- ---- empty lines

-- empty lines alone may go on
pub blank_cut : (es : List LineEnd) (whole : List ℕ) → whole ≡ print_blank es ++ []
    → Completes BlankLines whole
blank_cut es whole e = record {
  more = [];
  tree = es;
  reads = λ rest. ap (λ (l : List ℕ). l ++ rest) (e ∙ append-nil (print_blank es));
}

-- another byte than a carriage return and a line feed ends no line
no_newline : (b : ℕ) → (b == 10) ≡ false → (b == 13) ≡ false → is_newline b ≡ false
no_newline b x y = grind (arith, nat_tests)

pub newline_cr : (b : ℕ) → (b == 13) ≡ true → is_newline b ≡ true
newline_cr b x = grind (arith, nat_tests)

blank_stop : (ends : List LineEnd) (whole : List ℕ) (b : ℕ) (text : List ℕ)
    → whole ≡ print_blank ends ++ (b ∷ text)
    → (b == 10) ≡ false → (b == 13) ≡ false → Blank ends whole (b ∷ text)
blank_stop ends whole b text e x y = (e, no_newline b x y)

-- the empty lines, behind those that were read
pub Reads-blank : (ends : List LineEnd) (whole text : List ℕ) → whole ≡ print_blank ends ++ text
    → ReadsBlank whole (read_blank ends text)
unfolding read_blank
Reads-blank ends whole [] e = (
  Blank_after ends e (Blank_open [] 0 (omega arith)),
  λ tail. blank_cut ends whole e,
)
Reads-blank ends whole (b ∷ []) e = by_byte (b == 10) (b == 13) refl refl
  where
    by_byte : (x y : Bool) → (b == 10) ≡ x → (b == 13) ≡ y
        → ReadsBlank whole (cond x short (cond y short (got ends (b ∷ []))))
    by_byte true y is cr =
        let more = blank_more ends lf whole (b ∷ []) [] e (ap (λ (n : ℕ). n ∷ []) (is_feed b is)) in (
          Blank_after (ends ++ lf ∷ []) more (Blank_open [] 0 (omega arith)),
          λ tail. blank_cut (ends ++ lf ∷ []) whole more,
        )
    by_byte false true is cr =
        let none : NotYet (Begins Newline) (b ∷ []) = cut_newline b is in (
          Blank_after ends e (Blank_newline (b ∷ []) 0 (omega arith) (newline_cr b cr) none),
          λ tail. BlankLines_after ends e (Newline_after_cr
              (ap (λ (n : ℕ). n ∷ []) (is_cr b cr))),
        )
    by_byte false false is cr = blank_stop ends whole b [] e is cr
Reads-blank ends whole (b ∷ c ∷ text) e =
    by_byte (b == 10) (b == 13) (c == 10) refl refl refl
    (λ is. Reads-blank (ends ++ lf ∷ []) whole (c ∷ text)
    (blank_more ends lf whole (b ∷ c ∷ text) (c ∷ text) e
    (ap (λ (n : ℕ). n ∷ c ∷ text) (is_feed b is))))
    (λ cr feed. Reads-blank (ends ++ crlf ∷ []) whole text
    (blank_more ends crlf whole (b ∷ c ∷ text) text e
    (λ i. is_cr b cr i ∷ is_feed c feed i ∷ text)))
  where
    by_byte : (x y z : Bool) → (b == 10) ≡ x → (b == 13) ≡ y → (c == 10) ≡ z
        → ((b == 10) ≡ true → ReadsBlank whole (read_blank (ends ++ lf ∷ []) (c ∷ text)))
        → ((b == 13) ≡ true → (c == 10) ≡ true
        → ReadsBlank whole (read_blank (ends ++ crlf ∷ []) text))
        → ReadsBlank whole (cond x (read_blank (ends ++ lf ∷ []) (c ∷ text))
        (cond y (cond z (read_blank (ends ++ crlf ∷ []) text) never) (got ends (b ∷ c ∷ text))))
    by_byte true y z is cr feed one two = one is
    by_byte false true true is cr feed one two = two cr feed
    by_byte false true false is cr feed one two =
        let none : Never (Begins Newline) (b ∷ c ∷ text) =
        Never_intro (λ more h. end_after_cr h.0 b c (text ++ more) h.1 h.2 is feed) in
        Blank_after ends e (Blank_newline (b ∷ c ∷ text) 0 (omega arith) (newline_cr b cr) none)
    by_byte false false z is cr feed one two = blank_stop ends whole b (c ∷ text) e is cr

-- ---- words

pub all_push : (test : ℕ → Bool) (word : List ℕ) (b : ℕ) → AllPass test word → test b ≡ true
    → AllPass test (word ++ b ∷ [])
all_push test word b all passes = All-push (λ v. test v ≡ true) word b all passes

-- a word, behind the bytes of it that were read
pub Reads-word : (test : ℕ → Bool) (stop some : ℕ) → test stop ≡ false → test some ≡ true
    → (word whole text : List ℕ) → AllPass test word → whole ≡ word ++ text
    → Reads (Word test stop) whole (read_word test stop word text)
unfolding read_word
Reads-word test stop some fails passes word whole [] all e =
    let same : whole ≡ word = e ∙ append-nil word in (
      NotYet_intro (λ h. run_unstopped test h.0 (stop ∷ h.1)
          (subst (AllPass test) (sym same ∙ h.2.2) all) fails),
      λ tail. Word_cut test stop some passes (subst (AllPass test) (sym same) all),
    )
Reads-word test stop some fails passes word whole (b ∷ text) all e =
    by_byte (test b) (b == stop) (nat_lt 0 (length word)) refl refl refl
    (λ is. Reads-word test stop some fails passes (word ++ b ∷ []) whole text
    (all_push test word b all is) (e ∙ sym (append_assoc word (b ∷ []) text)))
  where
    wrong : test b ≡ false → (b ≡ stop → 0 < length word → ⊥)
        → Never (Begins (Word test stop)) whole
    wrong not_it none = Never_intro (λ more h.
        let same = run_unique test word h.0 (b ∷ (text ++ more)) (stop ∷ h.1) all h.2.1 not_it fails
        (sym (append_assoc word (b ∷ text) more) ∙ ap (λ (l : List ℕ). l ++ more) (sym e)
        ∙ h.2.2) in
        let first : b ≡ stop = cc in none first
        (subst (λ (w : List ℕ). 0 < length w) (sym same.0) h.2.0))

    by_byte : (x y z : Bool) → test b ≡ x → (b == stop) ≡ y → nat_lt 0 (length word) ≡ z
        → (test b ≡ true → Reads (Word test stop) whole (read_word test stop (word ++ b ∷ []) text))
        → Reads (Word test stop) whole (cond x (read_word test stop (word ++ b ∷ []) text)
        (cond (y && z) (got word text) never))
    by_byte true y z is here full later = later is
    by_byte false true true is here full later =
        let first : b ≡ stop = grind arith in
        let most : 0 < length word = grind (arith, nat_tests) in
        (most, all, e ∙ ap (λ (n : ℕ). word ++ n ∷ text) first)
    by_byte false true false is here full later =
        wrong is (λ first most. let few : length word ≤ 0 = grind (arith, nat_tests) in omega arith)
    by_byte false false z is here full later =
        wrong is (λ first most. let other : b ≢ stop = grind (arith, nat_tests) in other first)

-- a word is a front of the bytes
pub Word_front : (test : ℕ → Bool) (stop : ℕ) → IsFront (Word test stop)
Word_front test stop word text rest h = (
  word ++ stop ∷ [],
  h.2
      ∙ sym (append_assoc word (stop ∷ []) rest),
)

-- where the bytes end before the word does, all of them pass
pub word_short : (test : ℕ → Bool) (stop : ℕ) (word text : List ℕ) → AllPass test word
    → read_word test stop word text ≡ short → AllPass test (word ++ text)
unfolding read_word
word_short test stop word [] all is = subst (AllPass test) (sym (append-nil word)) all
word_short test stop word (b ∷ text) all is =
    by_byte (test b) ((b == stop) && nat_lt 0 (length word)) refl is
    (λ passes later. subst (AllPass test) (append_assoc word (b ∷ []) text)
    (word_short test stop (word ++ b ∷ []) text (all_push test word b all passes) later))
  where
    by_byte : (x y : Bool) → test b ≡ x → cond x (read_word test stop (word ++ b ∷ []) text)
        (cond y (got word text) never) ≡ short
        → (test b ≡ true → read_word test stop (word ++ b ∷ []) text ≡ short
        → AllPass test (word ++ b ∷ text)) → AllPass test (word ++ b ∷ text)
    by_byte true y passes s later = later passes s
    by_byte false true passes s later = cc
    by_byte false false passes s later = cc
