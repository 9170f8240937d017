-- Where a head is read so far: bytes that end in a line feed, at which no reading stops in the middle of a line.
use Rattle.std.proofs.Common.{◌≡◌, ◌≢◌, ◌≤◌, ◌+◌, ℕ, zero, suc, List, [], ◌∷◌, ◌++◌, Bool, true, false, cond, refl, sym, ap, subst, ◌∙◌, append_assoc, append-nil, arith, inl, inr, codes}
use Rattle.std.specs.Prelude.{◌⊎◌, ◌==◌, ◌&&◌, ⊤}
use Rattle.std.specs.Str.{is_utf8}
use Rattle.std.proofs.lemmas.Bool.Decides.{nat_tests}
use Rattle.std.proofs.lemmas.List.Elements.{All-nil, All-cons, All-head, All-tail}
use Rattle.httparse.specs.Grammar.{is_token_byte, is_uri_byte, is_value_byte, AllPass, LineEnd, crlf, lf, print_blank, Field, print_field}
use Rattle.httparse.specs.Pieces.{Bytes, Stops, is_newline, Blank, Word, Target, Version, FieldLine, FieldLines}
use Rattle.httparse.proofs.RunLemmas.{run_unstopped}
use Rattle.httparse.proofs.PieceLemmas.{FieldLines_push, colon_ends_token}
use Rattle.httparse.proofs.OpenLemmas.{letter_is_token}
use Rattle.httparse.proofs.ReadLemmas.{blank_more}
use Rattle.alt_http.specs.Feeds.{IsPlain}
use Rattle.alt_http.specs.Reading.{PartRead, got, short, never, by_read, then_read, read_end, read_blank, read_word, read_method, read_target, read_expected_bytes, read_minor, read_version, read_value, read_header_field, read_fields, read_start}
use Rattle.alt_http.proofs.Fronts.{EndsInFeed, prefix_split}
use Rattle.alt_http.proofs.Readers.{Reads-field}
use Rattle.alt_http.proofs.LinePieces.{Reads, ReadsBlank, IsTail, tail_behind, Reads-blank, Reads-word, word_short, is_feed, is_cr}
use Rattle.alt_http.proofs.FirstLine.{Reads-method, Reads-target, Reads-version, Reads-bytes}

last_same : (c : ℕ) (s : List ℕ) → (c == 10) ≡ false → c ∷ [] ≡ s ++ 10 ∷ [] → ⊥
last_same c [] other e = let feed : c ≡ 10 = cc in let no_feed : c ≢ 10 = grind arith in
    no_feed feed
last_same c (b ∷ []) other e = cc
last_same c (b ∷ d ∷ s) other e = cc

last_feed_same : (c : ℕ) (s : List ℕ) → (c == 10) ≡ false → 10 ∷ [] ≡ s ++ c ∷ [] → ⊥
last_feed_same c [] other e = let feed : c ≡ 10 = cc in let no_feed : c ≢ 10 = grind arith in
    no_feed feed
last_feed_same c (b ∷ []) other e = cc
last_feed_same c (b ∷ d ∷ s) other e = cc

-- bytes that end in another byte don't end in a line feed
not_feed_end : (front : List ℕ) (c : ℕ) → (c == 10) ≡ false → EndsInFeed (front ++ c ∷ []) → ⊥
not_feed_end front c other ends = by_split (prefix_split front ends.line (c ∷ []) (10 ∷ []) ends.is)
  where
    by_split : (((s : List ℕ) × (ends.line ≡ front ++ s) × (c ∷ [] ≡ s ++ 10 ∷ []))
        ⊎ ((s : List ℕ) × (front ≡ ends.line ++ s) × (10 ∷ [] ≡ s ++ c ∷ []))) → ⊥
    by_split (inl x) = last_same c x.0 other x.2
    by_split (inr x) = last_feed_same c x.0 other x.2

no_feed_nothing : EndsInFeed [] → ⊥
no_feed_nothing ends = go ends.line ends.is
  where
    go : (line : List ℕ) → [] ≡ line ++ 10 ∷ [] → ⊥
    go [] e = cc
    go (b ∷ line) e = cc

-- what is behind another byte ends in the line feed
feed_behind : (text p rest : List ℕ) (c : ℕ) → text ≡ (p ++ c ∷ []) ++ rest → (c == 10) ≡ false
    → EndsInFeed text → EndsInFeed rest
feed_behind text p rest c e other ends = by_tail (tail_behind text (p ++ c ∷ []) rest e (inr ends))
  where
    by_tail : IsTail rest → EndsInFeed rest
    by_tail (inr later) = later
    by_tail (inl none) = absurd (not_feed_end p c other
        (subst EndsInFeed (e ∙ ap (λ (l : List ℕ). (p ++ c ∷ []) ++ l) none
        ∙ append-nil (p ++ c ∷ [])) ends))

-- a reading of two parts stops in the first or in the second
pub short_split : {A B : Type 0} (r : PartRead A) (f : List ℕ → PartRead B) → then_read r f ≡ short
    → (r ≡ short) ⊎ ((a : A) × (rest : List ℕ) × (r ≡ got a rest) × (f rest ≡ short))
short_split {A} {B} (got a rest) f is = inr (a, rest, refl, second (f rest) is)
  where
    second : (q : PartRead B) → by_read {A = B} {B = PartRead (A × B)} q
        (λ b behind. got (a, b) behind) short never ≡ short → q ≡ short
    second (got b behind) e = cc
    second short e = refl
    second never e = cc
short_split short f is = inl refl
short_split never f is = cc

-- a line feed is no byte of a token
token_feed : is_token_byte 10 ≡ false
unfolding is_token_byte
token_feed = refl

-- ---- no part of a line is cut short by the line feed

word_whole : (test : ℕ → Bool) (stop : ℕ) (text : List ℕ) → test 10 ≡ false → EndsInFeed text
    → read_word test stop [] text ≡ short → ⊥
word_whole test stop text fails ends is = run_unstopped test ends.line (10 ∷ [])
    (subst (AllPass test) ends.is (word_short test stop [] text (All-nil _) is)) fails

end_whole : (text : List ℕ) → EndsInFeed text → read_end text ≡ short → ⊥
end_whole [] ends is = no_feed_nothing ends
end_whole (b ∷ []) ends is = by_byte (b == 10) (b == 13) refl refl is
  where
    by_byte : (x y : Bool) → (b == 10) ≡ x → (b == 13) ≡ y
        → cond x (got lf []) (cond y short never) ≡ short → ⊥
    by_byte true y feed cr e = cc
    by_byte false true feed cr e = not_feed_end [] b feed ends
    by_byte false false feed cr e = cc
end_whole (b ∷ c ∷ text) ends is = by_byte (b == 10) ((b == 13) && (c == 10)) is
  where
    by_byte : (x y : Bool) → cond x (got lf (c ∷ text)) (cond y (got crlf text) never) ≡ short → ⊥
    by_byte true y e = cc
    by_byte false true e = cc
    by_byte false false e = cc

target_whole : (text : List ℕ) → EndsInFeed text → read_target text ≡ short → ⊥
target_whole text ends is = go (read_word is_uri_byte 32 [] text) is
    (word_whole is_uri_byte 32 text refl ends)
  where
    go : (r : PartRead (List ℕ)) → by_read r (λ target rest. cond (is_utf8 target)
        (got target rest) never) short never ≡ short → (r ≡ short → ⊥) → ⊥
    go (got target rest) e no_short = by_test (is_utf8 target) e
      where
        by_test : (t : Bool) → cond t (got target rest) never ≡ short → ⊥
        by_test true f = cc
        by_test false f = cc
    go short e no_short = no_short refl
    go never e no_short = cc

bytes_whole : (wanted text : List ℕ) → IsPlain wanted → EndsInFeed text
    → read_expected_bytes wanted text ≡ short → ⊥
unfolding read_expected_bytes
bytes_whole [] text plain ends is = cc
bytes_whole (e ∷ wanted) [] plain ends is = no_feed_nothing ends
bytes_whole (e ∷ wanted) (b ∷ text) plain ends is = by_byte (b == e) refl is
    (λ same later. bytes_whole wanted text (All-tail (λ n. (n == 10) ≡ false) e wanted plain)
    (feed_behind (b ∷ text) [] text b refl (subst (λ (n : ℕ). (n == 10) ≡ false) (sym same)
    (All-head (λ n. (n == 10) ≡ false) e wanted plain)) ends) later)
  where
    by_byte : (x : Bool) → (b == e) ≡ x → cond x (read_expected_bytes wanted text) never ≡ short
        → (b ≡ e → read_expected_bytes wanted text ≡ short → ⊥) → ⊥
    by_byte true same s later = let one : b ≡ e = grind arith in later one s
    by_byte false same s later = cc

minor_whole : (rest : List ℕ) → read_minor rest ≡ short → rest ≡ []
minor_whole [] is = refl
minor_whole (b ∷ rest) is = by_byte (b == 48) (b == 49) is
  where
    by_byte : (x y : Bool) → cond {A = PartRead ℕ} x (got 0 rest) (cond y (got 1 rest) never) ≡ short
        → b ∷ rest ≡ []
    by_byte true y e = cc
    by_byte false true e = cc
    by_byte false false e = cc

version_plain : IsPlain (codes "HTTP/1.")
version_plain =
    let P : ℕ → Type 0 = λ n. (n == 10) ≡ false in
    All-cons P 72 (codes "TTP/1.") refl (All-cons P 84 (codes "TP/1.") refl
    (All-cons P 84 (codes "P/1.") refl (All-cons P 80 (codes "/1.") refl
    (All-cons P 47 (codes "1.") refl (All-cons P 49 (codes ".") refl
    (All-cons P 46 [] refl (All-nil P)))))))

version_whole : (text : List ℕ) → EndsInFeed text → read_version text ≡ short → ⊥
version_whole text ends is =
    go (read_expected_bytes (codes "HTTP/1.") text) (Reads-bytes (codes "HTTP/1.") text) is
    (bytes_whole (codes "HTTP/1.") text version_plain ends)
  where
    go : (r : PartRead ⊤) → Reads (Bytes (codes "HTTP/1.")) text r
        → by_read r (λ _ rest. read_minor rest) short never ≡ short → (r ≡ short → ⊥) → ⊥
    go (got t rest) read e no_short = not_feed_end (codes "HTTP/1") 46 refl
        (subst EndsInFeed (read ∙ ap (λ (l : List ℕ). codes "HTTP/1." ++ l) (minor_whole rest e))
        ends)
    go short read e no_short = no_short refl
    go never read e no_short = cc

value_whole : (value text : List ℕ) → EndsInFeed text → read_value value text ≡ short → ⊥
unfolding read_value
value_whole value [] ends is = no_feed_nothing ends
value_whole value (b ∷ text) ends is = by_byte (is_value_byte b) refl is
    (λ passes later. value_whole (value ++ b ∷ []) text
    (feed_behind (b ∷ text) [] text b refl (value_plain b passes) ends) later)
  where
    value_plain : (n : ℕ) → is_value_byte n ≡ true → (n == 10) ≡ false
    value_plain n passes = grind (arith, nat_tests)

    by_end : (r : PartRead LineEnd) → by_read {B = PartRead (List ℕ × LineEnd)} r
        (λ end rest. got (value, end) rest) short never ≡ short → r ≡ short
    by_end (got end rest) e = cc
    by_end short e = refl
    by_end never e = cc

    by_byte : (x : Bool) → is_value_byte b ≡ x
        → cond x (read_value (value ++ b ∷ []) text)
        (by_read {B = PartRead (List ℕ × LineEnd)} (read_end (b ∷ text))
        (λ end rest. got (value, end) rest) short never) ≡ short
        → (is_value_byte b ≡ true → read_value (value ++ b ∷ []) text ≡ short → ⊥) → ⊥
    by_byte true passes e later = later passes e
    by_byte false passes e later = end_whole (b ∷ text) ends (by_end (read_end (b ∷ text)) e)

-- ---- empty lines

-- empty lines that are cut short by nothing but the end are all there is
blank_whole : (ends' : List LineEnd) (whole text : List ℕ) → whole ≡ print_blank ends' ++ text
    → EndsInFeed whole → read_blank ends' text ≡ short
    → (es : List LineEnd) × (whole ≡ print_blank es)
unfolding read_blank
blank_whole ends' whole [] e ends is = (ends', e ∙ append-nil (print_blank ends'))
blank_whole ends' whole (b ∷ []) e ends is = by_byte (b == 10) (b == 13) refl refl is
  where
    by_byte : (x y : Bool) → (b == 10) ≡ x → (b == 13) ≡ y
        → cond x short (cond y short (got ends' (b ∷ []))) ≡ short
        → (es : List LineEnd) × (whole ≡ print_blank es)
    by_byte true y feed cr s = (
      ends' ++ lf ∷ [],
      blank_more ends' lf whole (b ∷ []) [] e (ap (λ (n : ℕ). n ∷ []) (is_feed b feed))
          ∙ append-nil (print_blank (ends' ++ lf ∷ [])),
    )
    by_byte false true feed cr s = absurd (not_feed_end (print_blank ends') b feed
        (subst EndsInFeed e ends))
    by_byte false false feed cr s = cc
blank_whole ends' whole (b ∷ c ∷ text) e ends is =
    by_byte (b == 10) (b == 13) (c == 10) refl refl refl is
    (λ feed later. blank_whole (ends' ++ lf ∷ []) whole (c ∷ text)
    (blank_more ends' lf whole (b ∷ c ∷ text) (c ∷ text) e
    (ap (λ (n : ℕ). n ∷ c ∷ text) (is_feed b feed))) ends later)
    (λ cr feed later. blank_whole (ends' ++ crlf ∷ []) whole text
    (blank_more ends' crlf whole (b ∷ c ∷ text) text e
    (λ i. is_cr b cr i ∷ is_feed c feed i ∷ text)) ends later)
  where
    by_byte : (x y z : Bool) → (b == 10) ≡ x → (b == 13) ≡ y → (c == 10) ≡ z
        → cond x (read_blank (ends' ++ lf ∷ []) (c ∷ text))
        (cond y (cond z (read_blank (ends' ++ crlf ∷ []) text) never)
        (got ends' (b ∷ c ∷ text))) ≡ short
        → ((b == 10) ≡ true → read_blank (ends' ++ lf ∷ []) (c ∷ text) ≡ short
        → (es : List LineEnd) × (whole ≡ print_blank es))
        → ((b == 13) ≡ true → (c == 10) ≡ true → read_blank (ends' ++ crlf ∷ []) text ≡ short
        → (es : List LineEnd) × (whole ≡ print_blank es))
        → (es : List LineEnd) × (whole ≡ print_blank es)
    by_byte true y z feed cr last s one two = one feed s
    by_byte false true true feed cr last s one two = two cr last s
    by_byte false true false feed cr last s one two = cc
    by_byte false false z feed cr last s one two = cc

-- ---- the first line

words_whole : (text : List ℕ) → EndsInFeed text
    → then_read (read_method text) (λ b. then_read (read_target b)
    (λ c. then_read (read_version c) read_end)) ≡ short → ⊥
words_whole text ends is = by_method (short_split (read_method text)
    (λ b. then_read (read_target b) (λ c. then_read (read_version c) read_end)) is)
  where
    by_end : (c : List ℕ) → EndsInFeed c → ((read_version c ≡ short)
        ⊎ ((v : ℕ) × (d : List ℕ) × (read_version c ≡ got v d) × (read_end d ≡ short))) → ⊥
    by_end c e (inl s) = version_whole c e s
    by_end c e (inr x) =
        let read : Version x.0 c x.1 = subst (Reads Version c) x.2 (Reads-version c) in
        end_whole x.1 (feed_behind c (codes "HTTP/1.") x.1 (48 + x.0) read.1 (digit x.0 read.0) e)
        x.3
      where
        digit : (m : ℕ) → m ≤ 1 → (48 + m == 10) ≡ false
        digit m few = let other : 48 + m ≢ 10 = λ same. omega arith in grind arith

    by_target : (b : List ℕ) → EndsInFeed b
        → ((read_target b ≡ short) ⊎ ((t : List ℕ) × (c : List ℕ) × (read_target b ≡ got t c)
        × (then_read (read_version c) read_end ≡ short))) → ⊥
    by_target b e (inl s) = target_whole b e s
    by_target b e (inr x) =
        let read : Target x.0 b x.1 = subst (Reads Target b) x.2 (Reads-target b) in
        by_end x.1 (feed_behind b x.0 x.1 32 (read.0.2 ∙ sym (append_assoc x.0 (32 ∷ []) x.1)) refl
        e) (short_split (read_version x.1) read_end x.3)

    by_method : ((read_method text ≡ short) ⊎ ((m : List ℕ) × (b : List ℕ)
        × (read_method text ≡ got m b) × (then_read (read_target b)
        (λ c. then_read (read_version c) read_end) ≡ short))) → ⊥
    by_method (inl s) = word_whole is_token_byte 32 text token_feed ends s
    by_method (inr x) =
        let read : Word is_token_byte 32 x.0 text x.1 =
        subst (Reads (Word is_token_byte 32) text) x.2 (Reads-method text) in
        by_target x.1 (feed_behind text x.0 x.1 32
        (read.2 ∙ sym (append_assoc x.0 (32 ∷ []) x.1)) refl ends)
        (short_split (read_target x.1) (λ c. then_read (read_version c) read_end) x.3)

-- a first line that isn't there yet: all is empty lines
pub start_whole : (text : List ℕ) → EndsInFeed text → read_start text ≡ short
    → (es : List LineEnd) × (text ≡ print_blank es)
unfolding read_start
start_whole text ends is = by_blank (short_split (read_blank [] text)
    (λ a. then_read (read_method a) (λ b. then_read (read_target b)
    (λ c. then_read (read_version c) read_end))) is)
  where
    by_blank : ((read_blank [] text ≡ short) ⊎ ((es : List LineEnd) × (a : List ℕ)
        × (read_blank [] text ≡ got es a)
        × (then_read (read_method a) (λ b. then_read (read_target b)
        (λ c. then_read (read_version c) read_end)) ≡ short)))
        → (es : List LineEnd) × (text ≡ print_blank es)
    by_blank (inl s) = blank_whole [] text text refl ends s
    by_blank (inr x) =
        let read : Blank x.0 text x.1 = subst (ReadsBlank text) x.2
        (Reads-blank [] text text refl) in
        absurd (words_whole x.1 (some_tail x.1 read.1
        (tail_behind text (print_blank x.0) x.1 read.0 (inr ends))) x.3)
      where
        some_tail : (a : List ℕ) → Stops is_newline a → IsTail a → EndsInFeed a
        some_tail a stops (inl none) = let no_stop : Stops is_newline [] =
            subst (Stops is_newline) none stops in absurd no_stop
        some_tail a stops (inr e) = e

-- ---- the fields

field_whole : (text : List ℕ) → EndsInFeed text → read_header_field text ≡ short → ⊥
field_whole text ends is = by_field (then_read (read_word is_token_byte 58 [] text) (read_value []))
    is (λ s. by_word (short_split (read_word is_token_byte 58 [] text) (read_value []) s))
  where
    by_word : ((read_word is_token_byte 58 [] text ≡ short)
        ⊎ ((n : List ℕ) × (v : List ℕ) × (read_word is_token_byte 58 [] text ≡ got n v)
        × (read_value [] v ≡ short))) → ⊥
    by_word (inl s) = word_whole is_token_byte 58 text token_feed ends s
    by_word (inr x) =
        let read : Word is_token_byte 58 x.0 text x.1 =
        subst (Reads (Word is_token_byte 58) text) x.2
        (Reads-word is_token_byte 58 65 colon_ends_token letter_is_token [] text text
        (All-nil _) refl) in
        value_whole [] x.1 (feed_behind text x.0 x.1 58
        (read.2 ∙ sym (append_assoc x.0 (58 ∷ []) x.1)) refl ends) x.3

    by_field : (r : PartRead (List ℕ × (List ℕ × LineEnd)))
        → by_read {B = PartRead Field} r (λ f rest. got
        (record { name = f.0; raw = f.1.0; end = f.1.1 }) rest) short never ≡ short
        → (r ≡ short → ⊥) → ⊥
    by_field (got f rest) e no_short = cc
    by_field short e no_short = no_short refl
    by_field never e no_short = cc

-- fields whose empty line isn't there yet: all is whole lines
pub fields_whole : (n : ℕ) (fields : List Field) (whole text : List ℕ)
    → FieldLines fields whole text → IsTail text → read_fields n fields text ≡ short
    → (fs : List Field) × FieldLines fs whole []
unfolding read_fields
fields_whole zero fields whole text lines tail is = cc
fields_whole (suc n) fields whole text lines tail is =
    by_end (read_end text) refl (read_header_field text) (Reads-field text) refl is
    (λ f rest read later. fields_whole n (fields ++ f ∷ []) whole rest
    (FieldLines_push fields f whole text rest lines read)
    (tail_behind text (print_field f) rest read.1 tail) later)
  where
    at_end : IsTail text → read_end text ≡ short → (fs : List Field) × FieldLines fs whole []
    at_end (inl none) s = (fields, subst (FieldLines fields whole) none lines)
    at_end (inr ends) s = absurd (end_whole text ends s)

    no_short_field : IsTail text → read_end text ≡ never → read_header_field text ≡ short → ⊥
    no_short_field (inl none) e s = let nothing : read_end [] ≡ never =
        ap read_end (sym none) ∙ e in cc
    no_short_field (inr ends) e s = field_whole text ends s

    by_field : read_end text ≡ never → (q : PartRead Field) → Reads FieldLine text q
        → read_header_field text ≡ q
        → by_read q (λ f rest. read_fields n (fields ++ f ∷ []) rest) short never ≡ short
        → ((f : Field) (rest : List ℕ) → FieldLine f text rest
        → read_fields n (fields ++ f ∷ []) rest ≡ short
        → (fs : List Field) × FieldLines fs whole [])
        → (fs : List Field) × FieldLines fs whole []
    by_field e (got f rest) read same s later = later f rest read s
    by_field e short read same s later = absurd (no_short_field tail e same)
    by_field e never read same s later = cc

    by_end : (r : PartRead LineEnd) → read_end text ≡ r → (q : PartRead Field) → Reads FieldLine text q
        → read_header_field text ≡ q
        → by_read r (λ last rest. got (fields, last) rest) short
        (by_read q (λ f rest. read_fields n (fields ++ f ∷ []) rest) short never) ≡ short
        → ((f : Field) (rest : List ℕ) → FieldLine f text rest
        → read_fields n (fields ++ f ∷ []) rest ≡ short
        → (fs : List Field) × FieldLines fs whole [])
        → (fs : List Field) × FieldLines fs whole []
    by_end (got last rest) e q read same s later = cc
    by_end short e q read same s later = at_end tail e
    by_end never e q read same s later = by_field e q read same s later
