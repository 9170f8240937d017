-- The grammar of updates: a phrase has a constructor for each production, the tokens that it derives, and a tree
-- (AWS Developer Guide, "Using update expressions in DynamoDB").
--
--     update  = clause { clause }
--     clause  = SET set { "," set } | REMOVE path { "," path }
--             | ADD name :word { "," name :word } | DELETE name :word { "," name :word }
--     set     = path "=" sum       sum = term | term "+" term | term "-" term
--     term    = path | :word | "if_not_exists" "(" path "," term ")" | "list_append" "(" term "," term ")"
use Rattle.std.specs.Prelude.{ℕ, List, [], ◌∷◌, ◌++◌, map, codes}
use Rattle.alt_expr.specs.Tokens.{Tok, key, colon, mark}
use Rattle.alt_expr.specs.Given.{Given, value_of}
use Rattle.alt_expr.specs.PathGrammar.{NamePhrase, name_tok, name_text, PathPhrase, path_toks, path_tree, call_toks, between_toks}
use Rattle.alt_expr.specs.declared.token.Keyword.TheVariants as k
use Rattle.alt_expr.specs.declared.token.Mark.TheVariants as m
use Rattle.alt_expr.specs.declared.update.Term.{Term}
use Rattle.alt_expr.specs.declared.update.Term.TheVariants as t
use Rattle.alt_expr.specs.declared.update.Sum.{Sum}
use Rattle.alt_expr.specs.declared.update.Sum.TheVariants as s
use Rattle.alt_expr.specs.declared.update.Action.{Action}
use Rattle.alt_expr.specs.declared.update.Action.TheVariants as a

-- term = path | :word | "if_not_exists" "(" path "," term ")" | "list_append" "(" term "," term ")"
pub data TermPhrase : Type 0 where
  at : PathPhrase → TermPhrase
  value : List ℕ → TermPhrase
  if_not_exists : PathPhrase → TermPhrase → TermPhrase
  list_append : TermPhrase → TermPhrase → TermPhrase

-- sum = term | term "+" term | term "-" term
pub data SumPhrase : Type 0 where
  one : TermPhrase → SumPhrase
  plus : TermPhrase → TermPhrase → SumPhrase
  minus : TermPhrase → TermPhrase → SumPhrase

-- set = path "=" sum
pub data SetPhrase : Type 0 where
  set : PathPhrase → SumPhrase → SetPhrase

-- name :word
pub data PairPhrase : Type 0 where
  pair : NamePhrase → List ℕ → PairPhrase

-- a clause, with its first action and the others
pub data ClausePhrase : Type 0 where
  sets : SetPhrase → List SetPhrase → ClausePhrase
  removes : PathPhrase → List PathPhrase → ClausePhrase
  adds : PairPhrase → List PairPhrase → ClausePhrase
  deletes : PairPhrase → List PairPhrase → ClausePhrase

-- update = clause { clause }
pub data UpdatePhrase : Type 0 where
  clauses : ClausePhrase → List ClausePhrase → UpdatePhrase

-- ---- the tokens that a phrase derives

-- the tokens of a term
abbrev pub term_toks : TermPhrase → List Tok
term_toks (at p) = path_toks p
term_toks (value w) = colon w ∷ []
term_toks (if_not_exists p x) =
    call_toks (codes "if_not_exists") (path_toks p ++ mark m.Comma ∷ term_toks x)
term_toks (list_append x y) =
    call_toks (codes "list_append") (term_toks x ++ mark m.Comma ∷ term_toks y)

-- the tokens of a sum
abbrev pub sum_toks : SumPhrase → List Tok
sum_toks (one x) = term_toks x
sum_toks (plus x y) = term_toks x ++ mark m.Plus ∷ term_toks y
sum_toks (minus x y) = term_toks x ++ mark m.Minus ∷ term_toks y

-- the tokens of what is set
abbrev pub set_toks : SetPhrase → List Tok
set_toks (set p x) = path_toks p ++ mark m.Equal ∷ sum_toks x

-- the tokens of a name and the value that is added or deleted
abbrev pub pair_toks : PairPhrase → List Tok
pair_toks (pair n w) = name_tok n ∷ colon w ∷ []

-- the tokens of a clause: its keyword, and its actions with commas between
abbrev pub clause_toks : ClausePhrase → List Tok
clause_toks (sets x xs) = key k.Set ∷ between_toks set_toks (mark m.Comma) x xs
clause_toks (removes x xs) = key k.Remove ∷ between_toks path_toks (mark m.Comma) x xs
clause_toks (adds x xs) = key k.Add ∷ between_toks pair_toks (mark m.Comma) x xs
clause_toks (deletes x xs) = key k.Delete ∷ between_toks pair_toks (mark m.Comma) x xs

-- the tokens of clauses, one after another
abbrev pub clauses_toks : List ClausePhrase → List Tok
clauses_toks [] = []
clauses_toks (c ∷ cs) = clause_toks c ++ clauses_toks cs

-- the tokens of an update
abbrev pub update_toks : UpdatePhrase → List Tok
update_toks (clauses c cs) = clause_toks c ++ clauses_toks cs

-- ---- its tree, with the given names and values put in: all actions in text order

-- the term that a phrase stands for, by the words given
abbrev pub term_tree : Given → TermPhrase → Term
term_tree g (at p) = t.At (path_tree g.names p)
term_tree g (value w) = t.Value (value_of g.values w)
term_tree g (if_not_exists p x) = t.IfNotExists (path_tree g.names p) (term_tree g x)
term_tree g (list_append x y) = t.ListAppend (term_tree g x) (term_tree g y)

-- the sum that a phrase stands for
abbrev pub sum_tree : Given → SumPhrase → Sum
sum_tree g (one x) = s.One (term_tree g x)
sum_tree g (plus x y) = s.Plus (term_tree g x) (term_tree g y)
sum_tree g (minus x y) = s.Minus (term_tree g x) (term_tree g y)

-- what is set: a path, and the sum put there
abbrev pub set_tree : Given → SetPhrase → Action
set_tree g (set p x) = a.Set (path_tree g.names p) (sum_tree g x)

-- what is removed
abbrev pub remove_tree : Given → PathPhrase → Action
remove_tree g p = a.Remove (path_tree g.names p)

-- what is added to a name
abbrev pub add_tree : Given → PairPhrase → Action
add_tree g (pair n w) = a.Add (name_text g.names n) (value_of g.values w)

-- what is deleted from a name
abbrev pub delete_tree : Given → PairPhrase → Action
delete_tree g (pair n w) = a.Delete (name_text g.names n) (value_of g.values w)

-- the actions of a clause
abbrev pub clause_tree : Given → ClausePhrase → List Action
clause_tree g (sets x xs) = set_tree g x ∷ map (set_tree g) xs
clause_tree g (removes x xs) = remove_tree g x ∷ map (remove_tree g) xs
clause_tree g (adds x xs) = add_tree g x ∷ map (add_tree g) xs
clause_tree g (deletes x xs) = delete_tree g x ∷ map (delete_tree g) xs

-- the actions of clauses, one clause after another
abbrev pub clauses_tree : Given → List ClausePhrase → List Action
clauses_tree g [] = []
clauses_tree g (c ∷ cs) = clause_tree g c ++ clauses_tree g cs

-- the actions of an update
abbrev pub update_tree : Given → UpdatePhrase → List Action
update_tree g (clauses c cs) = clause_tree g c ++ clauses_tree g cs
