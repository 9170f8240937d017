-- What is taken from a reader, over the bytes that it holds.
use Rattle.std.proofs.Common.{◌-◌, take, drop, subst, ◌≡◌, ◌<◌, ◌≤◌, ◌+◌, ℕ, suc, List, [], ◌∷◌, ◌++◌, length, Bool, true, false, cond, refl, sym, ap, ◌∙◌, append_assoc, append-nil, arith}
use Rattle.std.proofs.lemmas.Bool.Decides.{nat_tests}
use Rattle.std.specs.Prelude.{nat_lt, Option, None, Some, Result, Ok, Err, IfOk, OnOk, IfSome, IsSomeAnd}
use Rattle.std.specs.List.{copy_within}
use Rattle.std.proofs.lemmas.List.{length-append, length-replicate, length-drop}
use Rattle.std.proofs.lemmas.List.Edits.{paste_all}
use Rattle.std.proofs.Math.Seq.{take-append_seam}
use Rattle.std.proofs.lemmas.List.Elements.{All-append, All-replicate}
use Rattle.alt_base.proofs.Lists.{length-none}
use Rattle.alt_lines.specs.Lines.{is_line_feed, Line, too_long, read_line, lines_of}
use Rattle.alt_lines.specs.Unread.{Unread, too_many, TakesLine, HasNone, TellsLine}
use Rattle.alt_lines.specs.declared.feed.Cut.{Cut}
use Rattle.alt_lines.specs.Feeds.{AllPlain}
use Rattle.alt_lines.proofs.Feeds.{lines_of-feed, lines_of-open, lines_of-last, lines_of-empty, lines_of-long, read_line-long}

-- what a reader holds of the line under way
abbrev pub held : ℕ → Bool → List ℕ → Bool → Unread
held most past bytes ended =
    record { most = most; bytes = cond past (too_many most) [] ++ bytes; ended = ended }

-- what stands for a line that is too long has no line feed
many_plain : (most : ℕ) → AllPlain (too_many most)
many_plain most = All-replicate (λ b. is_line_feed b ≡ false) (suc most) 0 refl

-- and is too long, whatever stands behind it
many_long : (most : ℕ) (line : List ℕ) → most < length (too_many most ++ line)
many_long most line = let e = length-append (too_many most) line in
    let n = length-replicate {A = ℕ} (suc most) 0 in omega (arith, e, n)

-- the front of what is held is a line that a line feed ends
feed_now : (most : ℕ) (past ended : Bool) (line rest : List ℕ) → AllPlain line
    → lines_of most ended (cond past (too_many most) [] ++ (line ++ 10 ∷ rest))
    ≡ cond past too_long (read_line most line) ∷ lines_of most ended rest
feed_now most true ended line rest plain =
    ap (lines_of most ended) (sym (append_assoc (too_many most) line (10 ∷ rest)))
    ∙ lines_of-feed most ended (too_many most ++ line) rest
    (All-append (λ b. is_line_feed b ≡ false) (too_many most) line (many_plain most) plain)
    ∙ ap (λ (l : Line). l ∷ lines_of most ended rest)
    (read_line-long most (too_many most ++ line) (many_long most line))
feed_now most false ended line rest plain = lines_of-feed most ended line rest plain

-- more behind a line feed
front : (a b c d : List ℕ) → (a ++ (b ++ 10 ∷ c)) ++ d ≡ a ++ (b ++ 10 ∷ (c ++ d))
front a b c d = append_assoc a (b ++ 10 ∷ c) d
    ∙ ap (λ (l : List ℕ). a ++ l) (append_assoc b (10 ∷ c) d)

-- a line that a line feed ends is taken
pub takes : (most : ℕ) (past ended : Bool) (line rest bytes : List ℕ) → AllPlain line
    → bytes ≡ line ++ 10 ∷ rest
    → TakesLine (cond past too_long (read_line most line)) (held most past bytes ended)
    (record { most = most; bytes = rest; ended = ended })
takes most past ended line rest bytes plain is = record {
  now = ap (λ (l : List ℕ). lines_of most ended (cond past (too_many most) [] ++ l)) is
      ∙ feed_now most past ended line rest plain;
  most = refl;
  ended = refl;
  later = λ going more ended'.
      ap (λ (l : List ℕ). lines_of most ended' ((cond past (too_many most) [] ++ l) ++ more)) is
      ∙ ap (lines_of most ended') (front (cond past (too_many most) []) line rest more)
      ∙ feed_now most past ended' line (rest ++ more) plain;
}

-- what is held is the last line
last_now : (most : ℕ) (past : Bool) (line : List ℕ) → AllPlain line
    → (past ≡ false → 0 < length line)
    → lines_of most true (cond past (too_many most) [] ++ line)
    ≡ cond past too_long (read_line most line) ∷ []
last_now most true line plain some =
    lines_of-last most (too_many most ++ line)
    (All-append (λ b. is_line_feed b ≡ false) (too_many most) line (many_plain most) plain)
    (let h = many_long most line in omega (arith, h))
    ∙ ap (λ (l : Line). l ∷ []) (read_line-long most (too_many most ++ line) (many_long most line))
last_now most false line plain some = lines_of-last most line plain (some refl)

-- the last bytes are taken once the input has ended
pub takes_last : (most : ℕ) (past : Bool) (line : List ℕ) → AllPlain line
    → (past ≡ false → 0 < length line)
    → TakesLine (cond past too_long (read_line most line)) (held most past line true)
    (record { most = most; bytes = []; ended = true })
takes_last most past line plain some = record {
  now = last_now most past line plain some
      ∙ ap (λ (ls : List Line). cond past too_long (read_line most line) ∷ ls)
      (sym (lines_of-empty most true));
  most = refl;
  ended = refl;
  later = λ going. cc;
}

-- nothing is whole, and what is held is kept
pub has_none : (most : ℕ) (line : List ℕ) → AllPlain line → length line ≤ most
    → HasNone (held most false line false) (held most false line false)
has_none most line plain short = record {
  none = lines_of-open most line plain;
  most = refl;
  ended = refl;
  later = λ more ended. refl;
  few = omega arith;
}

-- nothing is held
pub has_none_left : (most : ℕ) (ended : Bool)
    → HasNone (held most false [] ended) (held most false [] ended)
has_none_left most ended = record {
  none = lines_of-empty most ended;
  most = refl;
  ended = refl;
  later = λ more e. refl;
  few = omega arith;
}

-- nothing is whole, and what is held is too long for a line
pub has_none_long : (most : ℕ) (past : Bool) (line : List ℕ) → AllPlain line
    → (past ≡ false → most < length line)
    → HasNone (held most past line false) (held most true [] false)
has_none_long most past line plain long =
    let kept : too_many most ++ [] ≡ too_many most = append-nil (too_many most) in
    let held_plain : AllPlain (cond past (too_many most) [] ++ line) = by_past past plain in
    let held_long : most < length (cond past (too_many most) [] ++ line) = long_by past long in
    let n = length-replicate {A = ℕ} (suc most) 0 in record {
      none = lines_of-open most (cond past (too_many most) [] ++ line) held_plain;
      most = refl;
      ended = refl;
      later = λ more ended. ap (λ (l : List ℕ). lines_of most ended (l ++ more)) kept
          ∙ lines_of-long most ended (too_many most) (cond past (too_many most) [] ++ line) more
          (many_plain most) held_plain (omega (arith, n)) held_long;
      few = let e = ap length kept in omega (arith, e, n);
    }
  where
    by_past : (p : Bool) → AllPlain line → AllPlain (cond p (too_many most) [] ++ line)
    by_past true plain' =
        All-append (λ b. is_line_feed b ≡ false) (too_many most) line (many_plain most) plain'
    by_past false plain' = plain'

    long_by : (p : Bool) → (p ≡ false → most < length line)
        → most < length (cond p (too_many most) [] ++ line)
    long_by true h = many_long most line
    long_by false h = h refl

-- a line that is too long is told of an input that may have ended with nothing left
pub waits_long : (most : ℕ) (past ended : Bool) (line : List ℕ) → AllPlain line
    → (ended ≡ true → (past ≡ false) × (length line ≤ 0))
    → (past ≡ false → most < length line)
    → HasNone (held most past line ended) (held most true [] ended)
waits_long most past true line plain going long =
    let past_not = (going refl).0 in let few = (going refl).1 in let many = long past_not in
    absurd (omega arith)
waits_long most past false line plain going long = has_none_long most past line plain long

-- the same where what is held is not too long
pub waits : (most : ℕ) (past ended : Bool) (line : List ℕ) → AllPlain line
    → (ended ≡ true → (past ≡ false) × (length line ≤ 0))
    → past ≡ false → length line ≤ most
    → HasNone (held most past line ended) (held most past line ended)
waits most true ended line plain going not_past short = cc
waits most false true line plain going not_past short =
    subst (λ (l : List ℕ). HasNone (held most false l true) (held most false l true))
    (sym (length-none line (going refl).1)) (has_none_left most true)
waits most false false line plain going not_past short = has_none most line plain short

-- a line that was read and taken is one that the call may tell of
pub line_told : {E : Type 0} (r : Result (Option Cut) E) (line : Line) (old new next : Unread)
    (before after : List ℕ)
    → IfOk r (λ found. IsSomeAnd found (λ cut. TellsLine line cut before after)) → OnOk r (new ≡ next)
    → TakesLine line old next
    → IfOk r (λ found. IfSome found (λ cut. (l : Line) × TellsLine l cut before after
    × TakesLine l old new))
line_told (Ok (Some cut)) line old new next before after told moved taken =
    (line, told, subst (λ (u : Unread). TakesLine line old u) (sym moved) taken)
line_told (Ok None) line old new next before after told moved taken = tt
line_told (Err e) line old new next before after told moved taken = tt

-- what is kept moves to the front
pub moved_front : (bytes : List ℕ) (start : ℕ)
    → take (length bytes - start) (copy_within bytes start (length bytes) 0) ≡ drop start bytes
moved_front bytes start =
    let len : length bytes - start ≡ length (drop start bytes) = sym (length-drop start bytes) in
    ap (λ (l : List ℕ). take (length bytes - start) l)
    (paste_all bytes 0 (drop start bytes) (length bytes - start) len)
    ∙ ap (λ (n : ℕ). take n (drop start bytes ++ drop (0 + (length bytes - start)) bytes)) len
    ∙ take-append_seam (drop start bytes) (drop (0 + (length bytes - start)) bytes)

-- what a test says that was kept
pub below-true : (test : Bool) (a b : ℕ) → test ≡ nat_lt a b → test ≡ true → a < b
below-true test a b is holds = grind (arith, nat_tests)

-- and what one that fails says
pub below-false : (test : Bool) (a b : ℕ) → test ≡ nat_lt a b → test ≡ false → b ≤ a
below-false test a b is fails = grind (arith, nat_tests)

-- the bytes that are kept stand among those that aren't given out
pub held-few : (most : ℕ) (past : Bool) (bytes : List ℕ)
    → length bytes ≤ length (cond past (too_many most) [] ++ bytes)
held-few most past bytes =
    let l = length-append (cond past (too_many most) []) bytes in omega (arith, l)

-- where these are too many for a line, a line that isn't too long already is now
pub held-long : (most : ℕ) (past : Bool) (bytes : List ℕ)
    → most < length (cond past (too_many most) [] ++ bytes) → past ≡ false → most < length bytes
held-long most true bytes more e = absurd (let f : ⊥ = cc in f)
held-long most false bytes more e = more
