-- Where line feeds stand, and the lines that they end.
use Rattle.std.proofs.Common.{◌≢◌, subst, get_or, Option, None, Some, ◌≡◌, ◌<◌, ◌≤◌, ◌+◌, ◌-◌, ℕ, zero, suc, List, [], ◌∷◌, ◌++◌, length, take, drop, map, Bool, true, false, cond, refl, sym, ap, ◌∙◌, append_assoc, append-nil, arith}
use Rattle.memchr.specs.Find.{IsFirstByte, is_byte}
use Rattle.std.specs.Prelude.{MatchOption, ◌==◌, nat_le, slice_index}
use Rattle.std.specs.List.{onto_first}
use Rattle.std.specs.Str.Lines.{strip_carriage_return}
use Rattle.std.proofs.lemmas.List.{length-append, length-drop, length-take, take-append-drop, drop-drop, get_or-drop, get_or-take}
use Rattle.std.proofs.Math.Seq.{take-add}
use Rattle.std.proofs.lemmas.List.Elements.{All-append, All-nil, All-cons, All-from_get_or}
use Rattle.std.proofs.lemmas.List.Splits.{slice_split_at, slice_split_none}
use Rattle.std.proofs.lemmas.Bool.{false_from_ne_true}
use Rattle.alt_lines.specs.Feeds.{AllPlain, FirstLineFeedStandsAt}
use Rattle.alt_lines.specs.Lines.{is_line_feed, split_at_line_feeds, but_last, last_piece, unless_empty, raw_lines, Line, whole, too_long, read_line, lines_of}

-- there is always a piece
record SomePiece (ps : List (List ℕ)) : Type 0 where
  head : List ℕ
  tail : List (List ℕ)
  is : ps ≡ head ∷ tail

-- one byte more before the first piece
some_onto : (b : ℕ) (ps : List (List ℕ)) → SomePiece (onto_first b ps)
some_onto b [] = record { head = b ∷ []; tail = []; is = refl }
some_onto b (p ∷ ps) = record { head = b ∷ p; tail = ps; is = refl }

-- bytes have a piece
some_piece : (bytes : List ℕ) → SomePiece (split_at_line_feeds bytes)
some_piece [] = record { head = []; tail = []; is = refl }
some_piece (b ∷ bytes) =
    elim (b == 10) as (λ t. SomePiece (cond t ([] ∷ split_at_line_feeds bytes) (onto_first b (split_at_line_feeds bytes)))) [
      | true ↦ record { head = []; tail = split_at_line_feeds bytes; is = refl }
      | false ↦ some_onto b (split_at_line_feeds bytes)
    ]

-- one piece more before others changes neither which is the last nor what the others are
but_last-cons : (q : List ℕ) (ps : List (List ℕ)) → SomePiece ps
    → but_last (q ∷ ps) ≡ q ∷ but_last ps
but_last-cons q ps some = ap (λ (rs : List (List ℕ)). but_last (q ∷ rs)) some.is
    ∙ ap (λ (rs : List (List ℕ)). q ∷ but_last rs) (sym some.is)

last_piece-cons : (q : List ℕ) (ps : List (List ℕ)) → SomePiece ps
    → last_piece (q ∷ ps) ≡ last_piece ps
last_piece-cons q ps some = ap (λ (rs : List (List ℕ)). last_piece (q ∷ rs)) some.is
    ∙ ap last_piece (sym some.is)

-- the line up to the first line feed, and then those behind it
pub raw_lines-feed : (ended : Bool) (line rest : List ℕ) → AllPlain line
    → raw_lines ended (line ++ 10 ∷ rest) ≡ line ∷ raw_lines ended rest
unfolding raw_lines
raw_lines-feed ended line rest plain =
    let some = some_piece rest in
    ap (λ (ps : List (List ℕ)). but_last ps ++ cond ended (unless_empty (last_piece ps)) [])
    (slice_split_at is_line_feed line 10 rest plain refl)
    ∙ (λ i. but_last-cons line (split_at_line_feeds rest) some i
    ++ cond ended (unless_empty (last_piece-cons line (split_at_line_feeds rest) some i)) [])

-- bytes without a line feed are at most one line
pub raw_lines-plain : (ended : Bool) (line : List ℕ) → AllPlain line
    → raw_lines ended line ≡ cond ended (unless_empty line) []
unfolding raw_lines
raw_lines-plain ended line plain =
    ap (λ (ps : List (List ℕ)). but_last ps ++ cond ended (unless_empty (last_piece ps)) [])
    (slice_split_none is_line_feed line plain)

-- the same of lines as they are read
pub lines_of-feed : (most : ℕ) (ended : Bool) (line rest : List ℕ) → AllPlain line
    → lines_of most ended (line ++ 10 ∷ rest) ≡ read_line most line ∷ lines_of most ended rest
lines_of-feed most ended line rest plain =
    ap (map (read_line most)) (raw_lines-feed ended line rest plain)

-- nothing is whole yet
pub lines_of-open : (most : ℕ) (line : List ℕ) → AllPlain line → lines_of most false line ≡ []
lines_of-open most line plain = ap (map (read_line most)) (raw_lines-plain false line plain)

-- the last bytes
pub lines_of-last : (most : ℕ) (line : List ℕ) → AllPlain line → 0 < length line
    → lines_of most true line ≡ read_line most line ∷ []
lines_of-last most [] plain some = absurd (omega arith)
lines_of-last most (b ∷ line) plain some =
    ap (map (read_line most)) (raw_lines-plain true (b ∷ line) plain)

-- no bytes are no line
pub lines_of-empty : (most : ℕ) (ended : Bool) → lines_of most ended [] ≡ []
lines_of-empty most true =
    ap (map (read_line most)) (raw_lines-plain true [] (All-nil (λ b. is_line_feed b ≡ false)))
lines_of-empty most false = lines_of-open most [] (All-nil (λ b. is_line_feed b ≡ false))

-- a line of more bytes is too long
pub read_line-long : (most : ℕ) (line : List ℕ) → most < length line
    → read_line most line ≡ too_long
unfolding read_line
read_line-long most line long =
    ap (λ t. cond t (whole (strip_carriage_return line)) too_long)
    (at_most-not (length line) most long)
  where
    at_most-not : (n m : ℕ) → m < n → nat_le n m ≡ false
    at_most-not n m h = grind arith

-- a line of at most so many bytes is read whole
pub read_line-short : (most : ℕ) (line : List ℕ) → length line ≤ most
    → read_line most line ≡ whole (strip_carriage_return line)
unfolding read_line
read_line-short most line short =
    ap (λ t. cond t (whole (strip_carriage_return line)) too_long)
    (at_most (length line) most short)
  where
    at_most : (n m : ℕ) → n ≤ m → nat_le n m ≡ true
    at_most n m h = grind arith

-- the same at one more byte, where the lines behind it are the same
long_by : (most : ℕ) (ended : Bool) (line other : List ℕ) (b : ℕ) (more : List ℕ) → AllPlain line
    → AllPlain other → most < length line → most < length other
    → (t : Bool) → (b == 10) ≡ t
    → (AllPlain (line ++ b ∷ []) → AllPlain (other ++ b ∷ [])
    → lines_of most ended ((line ++ b ∷ []) ++ more)
    ≡ lines_of most ended ((other ++ b ∷ []) ++ more))
    → lines_of most ended (line ++ b ∷ more) ≡ lines_of most ended (other ++ b ∷ more)
long_by most ended line other b more plain plain' long long' true is later =
    let feed : b ≡ 10 = grind arith in
    ap (λ (n : ℕ). lines_of most ended (line ++ n ∷ more)) feed
    ∙ lines_of-feed most ended line more plain
    ∙ ap (λ (l : Line). l ∷ lines_of most ended more) (read_line-long most line long
    ∙ sym (read_line-long most other long'))
    ∙ sym (lines_of-feed most ended other more plain')
    ∙ sym (ap (λ (n : ℕ). lines_of most ended (other ++ n ∷ more)) feed)
long_by most ended line other b more plain plain' long long' false is later =
    let one : AllPlain (b ∷ []) =
    All-cons (λ n. is_line_feed n ≡ false) b [] is (All-nil (λ n. is_line_feed n ≡ false)) in
    ap (lines_of most ended) (sym (append_assoc line (b ∷ []) more))
    ∙ later (All-append (λ n. is_line_feed n ≡ false) line (b ∷ []) plain one)
    (All-append (λ n. is_line_feed n ≡ false) other (b ∷ []) plain' one)
    ∙ ap (lines_of most ended) (append_assoc other (b ∷ []) more)

-- of a line that is too long its bytes don't matter
pub lines_of-long : (most : ℕ) (ended : Bool) (line other more : List ℕ) → AllPlain line
    → AllPlain other → most < length line → most < length other
    → lines_of most ended (line ++ more) ≡ lines_of most ended (other ++ more)
lines_of-long most true line other [] plain plain' long long' =
    ap (lines_of most true) (append-nil line) ∙ lines_of-last most line plain (omega arith)
    ∙ ap (λ (l : Line). l ∷ []) (read_line-long most line long
    ∙ sym (read_line-long most other long'))
    ∙ sym (lines_of-last most other plain' (omega arith))
    ∙ sym (ap (lines_of most true) (append-nil other))
lines_of-long most false line other [] plain plain' long long' =
    ap (lines_of most false) (append-nil line) ∙ lines_of-open most line plain
    ∙ sym (lines_of-open most other plain') ∙ sym (ap (lines_of most false) (append-nil other))
lines_of-long most ended line other (b ∷ more) plain plain' long long' =
    long_by most ended line other b more plain plain' long long' (b == 10) refl
    (λ plainer plainer'. lines_of-long most ended (line ++ b ∷ []) (other ++ b ∷ []) more plainer
    plainer'
    (let e = length-append line (b ∷ []) in
    omega (arith, e)) (let e = length-append other (b ∷ []) in omega (arith, e)))

-- a search by bytes found none before this place
abbrev NoneBefore : List ℕ → ℕ → Type 0
NoneBefore bytes k = (j : ℕ) → 0 ≤ j → j < k → (is_line_feed (slice_index bytes j) ≡ true → ⊥)

-- what such a search of all bytes says of them
plain_before : (bytes : List ℕ) → NoneBefore bytes (length bytes) → AllPlain bytes
plain_before bytes none =
    All-from_get_or (λ b. is_line_feed b ≡ false) bytes 0
    (λ i below. false_from_ne_true (is_line_feed (slice_index bytes i))
    (none i (omega arith) below))

-- and of those before the place
plain_front : (bytes : List ℕ) (k : ℕ) → NoneBefore bytes k → AllPlain (take k bytes)
plain_front bytes zero none = All-nil (λ b. is_line_feed b ≡ false)
plain_front [] (suc k) none = All-nil (λ b. is_line_feed b ≡ false)
plain_front (b ∷ bytes) (suc k) none =
    All-cons (λ n. is_line_feed n ≡ false) b (take k bytes)
    (false_from_ne_true (b == 10) (none 0 (omega arith) (omega arith)))
    (plain_front bytes k (λ j low below. none (suc j) (omega arith) (omega arith)))

-- the bytes round a line feed
feed_parts : (bytes : List ℕ) (k : ℕ) → k < length bytes → is_line_feed (slice_index bytes k) ≡ true
    → bytes ≡ take k bytes ++ 10 ∷ drop (suc k) bytes
feed_parts [] k below is = absurd (omega arith)
feed_parts (b ∷ bytes) zero below is = let feed : b ≡ 10 = grind arith in
    ap (λ (n : ℕ). n ∷ bytes) feed
feed_parts (b ∷ bytes) (suc k) below is =
    ap (λ (l : List ℕ). b ∷ l) (feed_parts bytes k (omega arith) is)

-- what a search for a line feed says
pub first_feed : (bytes : List ℕ) (found : Option ℕ) → IsFirstByte (is_byte 10) bytes found
    → MatchOption found (AllPlain bytes) (FirstLineFeedStandsAt bytes)
first_feed bytes None none = plain_before bytes none
first_feed bytes (Some k) first = record {
  below = first.0.high;
  plain = plain_front bytes k first.0.before;
  parts = feed_parts bytes k first.0.high first.1;
}

-- the first line feed behind bytes that have none
pub EndsAt-behind : (bytes : List ℕ) (n place : ℕ) → n ≤ length bytes → AllPlain (take n bytes)
    → FirstLineFeedStandsAt (drop n bytes) place → FirstLineFeedStandsAt bytes (n + place)
EndsAt-behind bytes n place within plain ends =
    let same : take n bytes ++ drop n bytes ≡ bytes = take-append-drop n bytes in
    let rest : drop (suc (n + place)) bytes ≡ drop (suc place) (drop n bytes) =
    let add : n + suc place ≡ suc (n + place) = omega arith in
    sym (drop-drop (suc place) n bytes ∙ ap (λ (k : ℕ). drop k bytes) add) in
    let front : take (n + place) bytes ≡ take n bytes ++ take place (drop n bytes) =
    take-add n place bytes in
    record {
      below = let e = length-drop n bytes in let h = ends.below in omega (arith, e, h);
      plain = subst AllPlain (sym front)
          (All-append (λ b. is_line_feed b ≡ false) (take n bytes) (take place (drop n bytes)) plain
          ends.plain);
      parts = sym same ∙ ap (λ (l : List ℕ). take n bytes ++ l) ends.parts
          ∙ sym (append_assoc (take n bytes) (take place (drop n bytes))
          (10 ∷ drop (suc place) (drop n bytes)))
          ∙ (λ i. sym front i ++ 10 ∷ sym rest i);
    }

-- bytes that have none up to a place and none from it on
pub AllPlain-both : (bytes : List ℕ) (n : ℕ) → AllPlain (take n bytes) → AllPlain (drop n bytes)
    → AllPlain bytes
AllPlain-both bytes n front back =
    subst AllPlain (take-append-drop n bytes)
    (All-append (λ b. is_line_feed b ≡ false) (take n bytes) (drop n bytes) front back)

-- bytes that have none by their places
pub AllPlain-between : (bytes : List ℕ) (start end : ℕ) → end ≤ length bytes
    → ((k : ℕ) → start ≤ k → k < end → slice_index bytes k ≢ 10)
    → AllPlain (take (end - start) (drop start bytes))
AllPlain-between bytes start end within none =
    All-from_get_or (λ b. is_line_feed b ≡ false) (take (end - start) (drop start bytes)) 0
    (λ i below.
    let e = length-take (end - start) (drop start bytes) in
    let few : i < end - start = omega (arith, e) in
    subst (λ (b : ℕ). is_line_feed b ≡ false)
    (sym (get_or-take (end - start) (drop start bytes) i 0 few ∙ get_or-drop start bytes i 0))
    (other (slice_index bytes (start + i)) (none (start + i) (omega arith) (omega arith))))
  where
    other : (b : ℕ) → b ≢ 10 → (b == 10) ≡ false
    other b h = grind arith

-- and back
pub none-from_AllPlain : (bytes : List ℕ) (start : ℕ) → AllPlain (drop start bytes) → (k : ℕ)
    → start ≤ k → k < length bytes → slice_index bytes k ≢ 10
none-from_AllPlain bytes start plain k from below is =
    let e = length-drop start bytes in
    let at : is_line_feed (get_or (drop start bytes) (k - start) 0) ≡ false =
    plain (k - start) 0 (omega (arith, e)) in
    let add : start + (k - start) ≡ k = omega arith in
    let here : get_or (drop start bytes) (k - start) 0 ≡ 10 =
    get_or-drop start bytes (k - start) 0 ∙ ap (λ (j : ℕ). get_or bytes j 0) add ∙ is in
    let feed : is_line_feed 10 ≡ false = subst (λ (b : ℕ). is_line_feed b ≡ false) here at in cc
