-- What a phrase of a test derives is read as its tree, and what a test begins with.
use Rattle.std.proofs.Common.{◌≡◌, refl, ap, ◌∙◌, ℕ, ◌<◌, false, List, [], ◌∷◌, ◌++◌, length, map, Some, arith, append_assoc}
use Rattle.std.specs.Prelude.{codes}
use Rattle.alt_expr.specs.Tokens.{Tok, key, word, mark}
use Rattle.alt_expr.specs.Given.{Given}
use Rattle.alt_expr.specs.declared.token.Keyword.TheVariants as k
use Rattle.alt_expr.specs.declared.token.Mark.TheVariants as m
use Rattle.alt_expr.specs.declared.cond.Comparison.{Comparison}
use Rattle.alt_expr.specs.declared.cond.Comparison.TheVariants as c
use Rattle.alt_expr.specs.declared.cond.Operand.{Operand}
use Rattle.alt_expr.specs.declared.cond.Cond.{Cond}
use Rattle.alt_expr.specs.declared.cond.Cond.TheVariants as cond
use Rattle.alt_expr.specs.PathGrammar.{PathPhrase, path, plain, hashed, path_toks, path_tree}
use Rattle.alt_expr.specs.CondGrammar.{OperandPhrase, at, value, size, TestPhrase, compared, between, among, exists, not_exists, has_kind, begins, contains, operand_toks, operands_toks, mark_of, test_toks, operand_tree, test_tree}
use Rattle.alt_expr.specs.Reader.{sees_mark, sees_key, calls, after_key, expect, expect_key, in_brackets}
use Rattle.alt_expr.proofs.PathRead.{Ends, path_read, path_in_brackets, no_call, not_call, close_read, ends_key, ends_close, ends_comma}
use Rattle.alt_expr.proofs.Lists.{listed_read}
use Rattle.alt_expr.specs.CondReader as r

-- ---- operands

named_read : (g : Given) (d : PathPhrase) (rest : List Tok) → Ends rest
    → r.named g (path_toks d ++ rest) ≡ Some (operand_tree g (at d), rest)
unfolding r.named
named_read g d rest e =
    simp (no_call d rest (codes "size") e, not_call d rest e, path_read g.names d rest e)

operand_read : (g : Given) (d : OperandPhrase) (rest : List Tok) → Ends rest
    → r.operand g (operand_toks d ++ rest) ≡ Some (operand_tree g d, rest)
unfolding r.operand r.named calls sees_mark
operand_read g (at (path (plain w) ss)) rest e = named_read g (path (plain w) ss) rest e
operand_read g (at (path (hashed w) ss)) rest e = named_read g (path (hashed w) ss) rest e
operand_read g (value w) rest e = refl
operand_read g (size d) rest e = rw (path_in_brackets g.names d rest) refl

pub operand_some : (d : OperandPhrase) → 0 < length (operand_toks d)
operand_some (at (path n ss)) = omega arith
operand_some (value w) = omega arith
operand_some (size d) = omega arith

operands_read : (g : Given) (d : OperandPhrase) (ds : List OperandPhrase) (rest : List Tok)
    → Ends rest → sees_mark m.Comma rest ≡ false
    → r.operands g (operands_toks d ds ++ rest)
    ≡ Some (operand_tree g d ∷ map (operand_tree g) ds, rest)
operands_read g = listed_read operand_toks (operand_tree g)
    (r.operand g) Ends ends_comma operand_some (operand_read g)

-- an operand doesn't begin as a call, but for that of size
no_call_operand : (name : List ℕ) → calls name (word (codes "size") ∷ mark m.LeftRound ∷ []) ≡ false
    → (d : OperandPhrase) (rest : List Tok) → Ends rest
    → calls name (operand_toks d ++ rest) ≡ false
unfolding calls sees_mark
no_call_operand name other (at d) rest e = no_call d rest name e
no_call_operand name other (value w) rest e = refl
no_call_operand name other (size d) rest e = other

-- ---- tests

ends_comparison : (by : Comparison) (ts : List Tok) → Ends (mark (mark_of by) ∷ ts)
unfolding sees_mark
ends_comparison c.Equal ts = record { no_dot = refl; no_square = refl; no_round = refl }
ends_comparison c.NotEqual ts = record { no_dot = refl; no_square = refl; no_round = refl }
ends_comparison c.Less ts = record { no_dot = refl; no_square = refl; no_round = refl }
ends_comparison c.LessEqual ts = record { no_dot = refl; no_square = refl; no_round = refl }
ends_comparison c.Greater ts = record { no_dot = refl; no_square = refl; no_round = refl }
ends_comparison c.GreaterEqual ts = record { no_dot = refl; no_square = refl; no_round = refl }

tail_read : (g : Given) (by : Comparison) (a : Operand) (ts : List Tok)
    → r.tail g a (mark (mark_of by) ∷ ts) ≡ r.compared g a (Some by) (mark (mark_of by) ∷ ts)
unfolding r.tail r.sees_comparison
tail_read g c.Equal a ts = refl
tail_read g c.NotEqual a ts = refl
tail_read g c.Less a ts = refl
tail_read g c.LessEqual a ts = refl
tail_read g c.Greater a ts = refl
tail_read g c.GreaterEqual a ts = refl

-- no function's name but that of size begins an operand
others : (calls (codes "attribute_exists") (word (codes "size") ∷ mark m.LeftRound ∷ []) ≡ false)
    × (calls (codes "attribute_not_exists") (word (codes "size") ∷ mark m.LeftRound ∷ []) ≡ false)
    × (calls (codes "attribute_type") (word (codes "size") ∷ mark m.LeftRound ∷ []) ≡ false)
    × (calls (codes "begins_with") (word (codes "size") ∷ mark m.LeftRound ∷ []) ≡ false)
    × (calls (codes "contains") (word (codes "size") ∷ mark m.LeftRound ∷ []) ≡ false)
unfolding calls
others = (refl, refl, refl, refl, refl)

-- a test that begins with an operand
from_operand : (g : Given) (a : OperandPhrase) (more : List Tok) → Ends more
    → r.whole_test g (operand_toks a ++ more) ≡ r.tail g (operand_tree g a) more
unfolding r.whole_test r.operand_test
from_operand g a more e =
    rw (
      no_call_operand (codes "attribute_exists") others.0 a more e,
      no_call_operand (codes "attribute_not_exists") others.1 a more e,
      no_call_operand (codes "attribute_type") others.2 a more e,
      no_call_operand (codes "begins_with") others.3 a more e,
      no_call_operand (codes "contains") others.4 a more e,
      operand_read g a more e,
    ) refl

no_comma_close : (ts : List Tok) → sees_mark m.Comma (mark m.RightRound ∷ ts) ≡ false
unfolding sees_mark
no_comma_close ts = refl

among_read : (g : Given) (x : Operand) (b : OperandPhrase) (bs : List OperandPhrase)
    (rest : List Tok)
    → r.among g x (mark m.LeftRound ∷ ((operands_toks b bs ++ mark m.RightRound ∷ []) ++ rest))
    ≡ Some (cond.Among x (operand_tree g b ∷ map (operand_tree g) bs), rest)
unfolding r.among in_brackets expect sees_mark
among_read g x b bs rest =
    rw (close_read (operands_toks b bs) rest, operands_read g b bs (mark m.RightRound ∷ rest) (ends_close rest) (no_comma_close rest)) refl

-- two parts with a comma between, and the bracket behind them
pub comma_read : (xs ys rest : List Tok) →
    ((xs ++ mark m.Comma ∷ ys) ++ mark m.RightRound ∷ []) ++ rest
    ≡ xs ++ mark m.Comma ∷ (ys ++ mark m.RightRound ∷ rest)
comma_read xs ys rest = simp append_assoc

pair_read : (g : Given) (f : Operand → Operand → Cond) (a b : OperandPhrase) (rest : List Tok)
    → r.pair g f (((operand_toks a ++ mark m.Comma ∷ operand_toks b) ++ mark m.RightRound ∷ [])
    ++ rest) ≡ Some (f (operand_tree g a) (operand_tree g b), rest)
unfolding r.pair expect sees_mark
pair_read g f a b rest =
    rw (
      comma_read (operand_toks a) (operand_toks b) rest,
      operand_read g a (mark m.Comma ∷ (operand_toks b ++ mark m.RightRound ∷ rest)) (ends_comma _),
      operand_read g b (mark m.RightRound ∷ rest) (ends_close rest),
    ) refl

kind_read : (g : Given) (p : PathPhrase) (a : OperandPhrase) (rest : List Tok)
    → r.kind g (((path_toks p ++ mark m.Comma ∷ operand_toks a) ++ mark m.RightRound ∷ []) ++ rest)
    ≡ Some (cond.HasKind (path_tree g.names p) (operand_tree g a), rest)
unfolding r.kind expect sees_mark
kind_read g p a rest =
    rw (
      comma_read (path_toks p) (operand_toks a) rest,
      path_read g.names p (mark m.Comma ∷ (operand_toks a ++ mark m.RightRound ∷ rest))
          (ends_comma _),
      operand_read g a (mark m.RightRound ∷ rest) (ends_close rest),
    ) refl

pub test_read : (g : Given) (d : TestPhrase) (rest : List Tok) → Ends rest
    → r.whole_test g (test_toks d ++ rest) ≡ Some (test_tree g d, rest)
unfolding r.whole_test r.operand_test calls r.tail r.sees_comparison r.between after_key sees_key
    expect_key sees_mark
test_read g (compared a by b) rest e =
    let more = mark (mark_of by) ∷ (operand_toks b ++ rest) in
    append_assoc_at a (mark (mark_of by) ∷ operand_toks b) rest
    ∙ from_operand g a more (ends_comparison by (operand_toks b ++ rest))
    ∙ tail_read g by (operand_tree g a) (operand_toks b ++ rest)
    ∙ rw (operand_read g b rest e) refl
  where
    append_assoc_at : (a : OperandPhrase) (xs rest : List Tok)
        → r.whole_test g ((operand_toks a ++ xs) ++ rest)
        ≡ r.whole_test g (operand_toks a ++ (xs ++ rest))
    append_assoc_at a xs rest = ap (r.whole_test g) (append_assoc (operand_toks a) xs rest)
test_read g (between a low high) rest e =
    let inner = operand_toks low ++ key k.And ∷ operand_toks high in
    let more = key k.Between ∷ (inner ++ rest) in
    let behind = key k.And ∷ (operand_toks high ++ rest) in
    ap (r.whole_test g) (append_assoc (operand_toks a) (key k.Between ∷ inner) rest)
    ∙ from_operand g a more (ends_key k.Between _)
    ∙ rw (
      append_assoc (operand_toks low) (key k.And ∷ operand_toks high) rest,
      operand_read g low behind (ends_key k.And _),
      operand_read g high rest e,
    ) refl
test_read g (among a b bs) rest e =
    let inner = mark m.LeftRound ∷ (operands_toks b bs ++ mark m.RightRound ∷ []) in
    let more = key k.Among ∷ (inner ++ rest) in
    ap (r.whole_test g) (append_assoc (operand_toks a) (key k.Among ∷ inner) rest)
    ∙ from_operand g a more (ends_key k.Among _)
    ∙ among_read g (operand_tree g a) b bs rest
test_read g (exists d) rest e = rw (path_in_brackets g.names d rest) refl
test_read g (not_exists d) rest e = rw (path_in_brackets g.names d rest) refl
test_read g (has_kind p a) rest e = kind_read g p a rest
test_read g (begins a b) rest e = pair_read g cond.BeginsWith a b rest
test_read g (contains a b) rest e = pair_read g cond.Contains a b rest

-- a test begins neither with NOT nor with a bracket
operand_first : (d : OperandPhrase) (rest : List Tok)
    → (sees_key k.Not (operand_toks d ++ rest) ≡ false)
    × (sees_mark m.LeftRound (operand_toks d ++ rest) ≡ false)
unfolding sees_key sees_mark
operand_first (at (path (plain w) ss)) rest = (refl, refl)
operand_first (at (path (hashed w) ss)) rest = (refl, refl)
operand_first (value w) rest = (refl, refl)
operand_first (size d) rest = (refl, refl)

first_of_two : (d : OperandPhrase) (xs rest : List Tok)
    → (sees_key k.Not ((operand_toks d ++ xs) ++ rest) ≡ false)
    × (sees_mark m.LeftRound ((operand_toks d ++ xs) ++ rest) ≡ false)
first_of_two d xs rest = rw (append_assoc (operand_toks d) xs rest) (operand_first d (xs ++ rest))

pub test_first : (d : TestPhrase) (rest : List Tok)
    → (sees_key k.Not (test_toks d ++ rest) ≡ false)
    × (sees_mark m.LeftRound (test_toks d ++ rest) ≡ false)
unfolding sees_key sees_mark
test_first (compared a by b) rest = first_of_two a _ rest
test_first (between a low high) rest = first_of_two a _ rest
test_first (among a b bs) rest = first_of_two a _ rest
test_first (exists d) rest = (refl, refl)
test_first (not_exists d) rest = (refl, refl)
test_first (has_kind p a) rest = (refl, refl)
test_first (begins a b) rest = (refl, refl)
test_first (contains a b) rest = (refl, refl)
