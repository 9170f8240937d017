-- What each function of the parser reads. Private contracts alone cite it; that it meets the grammar is proved of `parse`.
use Rattle.std.specs.Prelude.{ℕ, zero, suc, if◌then◌else◌, List, [], ◌∷◌, ◌++◌, length, Option, Some, None, codes}
use Rattle.alt_expr.specs.Tokens.{Tok, colon, mark}
use Rattle.alt_expr.specs.Given.{Given, value_of}
use Rattle.alt_expr.specs.Reader.{ParseOutcome, Parser, ◌>>=◌, ◌>>◌, ◌<$>◌, pure, refuse, calls, is_call, eat, eat_key, expect, expect_key, skip, path, in_brackets, comma_separated}
use Rattle.alt_expr.specs.declared.token.Keyword.{Keyword}
use Rattle.alt_expr.specs.declared.token.Keyword.TheVariants as k
use Rattle.alt_expr.specs.declared.token.Mark.{Mark}
use Rattle.alt_expr.specs.declared.token.Mark.TheVariants as m
use Rattle.alt_expr.specs.declared.cond.Comparison.{Comparison}
use Rattle.alt_expr.specs.declared.cond.Comparison.TheVariants as c
use Rattle.alt_expr.specs.declared.cond.Operand.{Operand}
use Rattle.alt_expr.specs.declared.cond.Operand.TheVariants as o
use Rattle.alt_expr.specs.declared.cond.Cond.{Cond}
use Rattle.alt_expr.specs.declared.cond.Cond.TheVariants as cond

-- ---- operands

-- an operand that begins with a name: the size of a path, or a path; another call is none
unfoldable pub named : Given → Parser Operand
named g = λ i. if calls (codes "size") i then (skip 2 >> (o.Size <$> in_brackets (path g.names))) i
    else if is_call i then None else (o.At <$> path g.names) i

-- an operand: the value of a `:` word, or one that begins with a name
abbrev pub operand_at : Given → List Tok → ParseOutcome Operand
operand_at g (colon w ∷ ts) = Some (o.Value (value_of g.values w), ts)
operand_at g i = named g i

-- an operand, wherever the tokens stand
unfoldable pub operand : Given → Parser Operand
operand = operand_at

-- one or more operands, with commas between
abbrev pub operands : Given → Parser (List Operand)
operands g = comma_separated (operand g)

-- ---- tests

-- the comparison that a mark spells
abbrev pub comparison_of : Mark → Option Comparison
comparison_of m.Equal = Some c.Equal
comparison_of m.NotEqual = Some c.NotEqual
comparison_of m.Less = Some c.Less
comparison_of m.LessEqual = Some c.LessEqual
comparison_of m.Greater = Some c.Greater
comparison_of m.GreaterEqual = Some c.GreaterEqual
comparison_of _ = None

-- the comparison that the first token spells
abbrev pub comparison_at : List Tok → Option Comparison
comparison_at (mark m ∷ ts) = comparison_of m
comparison_at _ = None

-- the comparison that stands next, without taking it
unfoldable pub sees_comparison : List Tok → Option Comparison
sees_comparison = comparison_at

-- the two bounds of BETWEEN, with AND between them
unfoldable pub between : Given → Operand → Parser Cond
between g a = do
  low ← operand g
  expect_key k.And
  high ← operand g
  pure (cond.Between a low high)

-- the list of IN, in brackets
unfoldable pub among : Given → Operand → Parser Cond
among g a = do
  expect m.LeftRound
  xs ← in_brackets (operands g)
  pure (cond.Among a xs)

-- what stands behind the first operand of a test
abbrev pub compared : Given → Operand → Option Comparison → Parser Cond
compared g a (Some by) = skip 1 >> (cond.Compare by a <$> operand g)
compared g a None = do
  found ← eat_key k.Between
  if found then between g a else (do
    list ← eat_key k.Among
    if list then among g a else refuse)

-- what stands behind the first operand, chosen by the token that is next
unfoldable pub tail : Given → Operand → Parser Cond
tail g a = λ i. compared g a (sees_comparison i) i

-- two operands in the brackets of a function
unfoldable pub pair : Given → (Operand → Operand → Cond) → Parser Cond
pair g f = do
  a ← operand g
  expect m.Comma
  b ← operand g
  expect m.RightRound
  pure (f a b)

-- a path and an operand in the brackets of a function
unfoldable pub kind : Given → Parser Cond
kind g = do
  p ← path g.names
  expect m.Comma
  a ← operand g
  expect m.RightRound
  pure (cond.HasKind p a)

-- a test that has an operand
unfoldable pub operand_test : Given → Parser Cond
operand_test g = λ i. if calls (codes "attribute_type") i then (skip 2 >> kind g) i
    else if calls (codes "begins_with") i then (skip 2 >> pair g cond.BeginsWith) i
    else if calls (codes "contains") i then (skip 2 >> pair g cond.Contains) i
    else (operand g >>= tail g) i

-- one test: of whether a path exists, or of operands
unfoldable pub whole_test : Given → Parser Cond
whole_test g = λ i. if calls (codes "attribute_exists") i
    then (skip 2 >> (cond.Exists <$> in_brackets (path g.names))) i
    else if calls (codes "attribute_not_exists") i
    then (skip 2 >> (cond.NotExists <$> in_brackets (path g.names))) i
    else operand_test g i

-- ---- conditions

-- further members, each behind the keyword
unfoldable pub joined_from : Parser Cond → Keyword → ℕ → List Cond → Parser (List Cond)
joined_from one k zero found = refuse
joined_from one k (suc n) found = do
  x ← one
  more ← eat_key k
  if more then joined_from one k n (found ++ x ∷ []) else pure (found ++ x ∷ [])

-- one member, or two and more with the keyword between
unfoldable pub joined_by_keyword : Parser Cond → Keyword → (List Cond → Cond) → Parser Cond
joined_by_keyword one k f = λ i. (do
  x ← one
  more ← eat_key k
  if more then (f <$> joined_from one k (length i) (x ∷ [])) else pure x) i

-- members with AND between them
unfoldable pub all : Parser Cond → Parser Cond
all one = joined_by_keyword one k.And cond.All

-- alternatives with OR between them
unfoldable pub any : Parser Cond → Parser Cond
any one = joined_by_keyword (all one) k.Or cond.Any

-- a condition in brackets, or a test
unfoldable pub prim : Given → Parser Cond → Parser Cond
prim g one = do
  group ← eat m.LeftRound
  if group then in_brackets (any one) else whole_test g

-- a condition without AND and OR, to a depth
unfoldable pub one : Given → ℕ → Parser Cond
one g zero = refuse
one g (suc depth) = do
  negated ← eat_key k.Not
  if negated then (cond.Not <$> one g depth) else prim g (one g depth)
