-- What each function of the parser reads. Private contracts alone cite it; that it meets the grammar is proved of `parse`.
use Rattle.std.specs.Prelude.{ℕ, zero, suc, Bool, ◌==◌, if◌then◌else◌, List, [], ◌∷◌, ◌++◌, length, Some, None, codes}
use Rattle.alt_value.specs.declared.attr.Attr.{Attr}
use Rattle.alt_expr.specs.Tokens.{Tok, key, colon}
use Rattle.alt_expr.specs.Given.{Given, value_of}
use Rattle.alt_expr.specs.Reader.{ParseOutcome, Parser, ◌>>=◌, ◌>>◌, ◌<$>◌, pure, refuse, calls, is_call, eat, expect, skip, name, path, listed_from}
use Rattle.alt_expr.specs.declared.token.Keyword.{Keyword}
use Rattle.alt_expr.specs.declared.token.Keyword.TheVariants as k
use Rattle.alt_expr.specs.declared.token.Mark.TheVariants as m
use Rattle.alt_expr.specs.declared.update.Term.{Term}
use Rattle.alt_expr.specs.declared.update.Term.TheVariants as t
use Rattle.alt_expr.specs.declared.update.Sum.{Sum}
use Rattle.alt_expr.specs.declared.update.Sum.TheVariants as s
use Rattle.alt_expr.specs.declared.update.Action.{Action}
use Rattle.alt_expr.specs.declared.update.Action.TheVariants as a

-- ---- terms

-- a path, behind whose first word no bracket stands
unfoldable pub located : Given → Parser Term
located g = λ i. if is_call i then None else (t.At <$> path g.names) i

-- the value of a `:` word, or a path
abbrev pub operand_at : Given → List Tok → ParseOutcome Term
operand_at g (colon w ∷ ts) = Some (t.Value (value_of g.values w), ts)
operand_at g i = located g i

-- a term that is no call
unfoldable pub operand : Given → Parser Term
operand = operand_at

-- what stands in the brackets of if_not_exists
unfoldable pub if_not_exists : Given → Parser Term → Parser Term
if_not_exists g one = do
  p ← path g.names
  expect m.Comma
  x ← one
  expect m.RightRound
  pure (t.IfNotExists p x)

-- what stands in the brackets of list_append
unfoldable pub list_append : Parser Term → Parser Term
list_append one = do
  x ← one
  expect m.Comma
  y ← one
  expect m.RightRound
  pure (t.ListAppend x y)

-- a term, to a depth
unfoldable pub term : Given → ℕ → Parser Term
term g zero = refuse
term g (suc depth) =
    λ i. if calls (codes "if_not_exists") i then (skip 2 >> if_not_exists g (term g depth)) i
    else if calls (codes "list_append") i then (skip 2 >> list_append (term g depth)) i
    else operand g i

-- a term, whose functions stand no deeper in one another than there are tokens
unfoldable pub whole_term : Given → Parser Term
whole_term g = λ i. term g (length i) i

-- a term, or the sum or difference of two
unfoldable pub sum : Given → Parser Sum
sum g = do
  x ← whole_term g
  plus ← eat m.Plus
  if plus then (s.Plus x <$> whole_term g) else (do
    minus ← eat m.Minus
    if minus then (s.Minus x <$> whole_term g) else pure (s.One x))

-- ---- actions

-- the value of a `:` word
abbrev pub value_at : Given → List Tok → ParseOutcome Attr
value_at g (colon w ∷ ts) = Some (value_of g.values w, ts)
value_at g _ = None

-- the value of a `:` word, wherever the tokens stand
unfoldable pub value : Given → Parser Attr
value = value_at

-- a path, and the sum that is put there
unfoldable pub set : Given → Parser Action
set g = do
  p ← path g.names
  expect m.Equal
  x ← sum g
  pure (a.Set p x)

-- a path that is removed
unfoldable pub remove : Given → Parser Action
remove g = a.Remove <$> path g.names

-- a name, and the value that is added
unfoldable pub add : Given → Parser Action
add g = do
  n ← name g.names
  v ← value g
  pure (a.Add n v)

-- a name, and the value that is deleted
unfoldable pub delete : Given → Parser Action
delete g = do
  n ← name g.names
  v ← value g
  pure (a.Delete n v)

-- an action of the clause with a keyword
abbrev pub clause_action : Given → Keyword → Parser Action
clause_action g k.Set = set g
clause_action g k.Remove = remove g
clause_action g k.Add = add g
clause_action g k.Delete = delete g
clause_action g _ = refuse

-- an action of the clause with a keyword, wherever the tokens stand
unfoldable pub action : Given → Keyword → Parser Action
action = clause_action

-- ---- clauses

-- behind those found, one or more with commas between
unfoldable pub listed_behind : Parser Action → List Action → Parser (List Action)
listed_behind one found = λ i. (do
  x ← one
  listed_from one (length i) (found ++ x ∷ [])) i

-- behind the actions found, those of a clause
abbrev pub clause_at : Given → List Action → List Tok → ParseOutcome (List Action)
clause_at g found (key j ∷ ts) = listed_behind (action g j) found ts
clause_at g found _ = None

-- a clause, wherever the tokens stand
unfoldable pub clause : Given → List Action → Parser (List Action)
clause = clause_at

-- no token is left
unfoldable pub is_done : List Tok → Bool
is_done i = length i == 0

-- further clauses, up to the last token
unfoldable pub clauses_from : Given → ℕ → List Action → Parser (List Action)
clauses_from g zero found = refuse
clauses_from g (suc n) found =
    λ i. if is_done i then Some (found, i) else (clause g found >>= clauses_from g n) i

-- one or more clauses, up to the last token
unfoldable pub update : Given → Parser (List Action)
update g = λ i. (clause g [] >>= clauses_from g (length i)) i
