-- What a phrase derives is read as its tree.
use Rattle.std.proofs.Common.{◌≡◌, refl, sym, ap, ◌∙◌, ℕ, zero, suc, ◌+◌, ◌<◌, ◌≤◌, false, List, [], ◌∷◌, ◌++◌, length, map, Some, arith, append_assoc, append-nil, length-append}
use Rattle.std.specs.Prelude.{codes, ◌==◌}
use Rattle.std.proofs.lemmas.Bool.Decides.{nat_tests}
use Rattle.alt_expr.specs.Tokens.{Tok, key, colon, mark}
use Rattle.alt_expr.specs.Given.{Given, value_of}
use Rattle.alt_expr.specs.declared.token.Keyword.{Keyword}
use Rattle.alt_expr.specs.declared.token.Keyword.TheVariants as k
use Rattle.alt_expr.specs.declared.token.Mark.TheVariants as m
use Rattle.alt_expr.specs.declared.update.Term.TheVariants as t
use Rattle.alt_expr.specs.declared.update.Action.{Action}
use Rattle.alt_expr.specs.PathGrammar.{PathPhrase, path, plain, hashed, path_toks, path_tree, between_toks}
use Rattle.alt_expr.specs.UpdateGrammar.{TermPhrase, at, value, if_not_exists, list_append, SumPhrase, one, plus, minus, SetPhrase, set, PairPhrase, pair, ClausePhrase, sets, removes, adds, deletes, UpdatePhrase, clauses, term_toks, sum_toks, set_toks, pair_toks, clause_toks, clauses_toks, update_toks, term_tree, sum_tree, set_tree, remove_tree, add_tree, delete_tree, clause_tree, clauses_tree, update_tree}
use Rattle.alt_expr.specs.Reader.{sees_mark, calls, after_mark, expect, name}
use Rattle.alt_expr.proofs.PathRead.{Ends, path_read, no_call, not_call, ends_key, ends_close, ends_comma, ends_nothing}
use Rattle.alt_expr.proofs.Lists.{listed_read}
use Rattle.alt_expr.specs.UpdateReader as r
use Rattle.alt_expr.proofs.TestComplete.{comma_read}
use Rattle.alt_expr.proofs.PathsWhole.{path_some}
use Rattle.alt_expr.proofs.UpdateBehind.{behind, put_behind}

-- what may stand behind an action: a comma, a clause's keyword, or nothing
pub record Closed (rest : List Tok) : Type 0 where
  pub ends : Ends rest
  pub no_plus : sees_mark m.Plus rest ≡ false
  pub no_minus : sees_mark m.Minus rest ≡ false

-- a comma may stand there
closed_comma : (ts : List Tok) → Closed (mark m.Comma ∷ ts)
unfolding sees_mark
closed_comma ts = record { ends = ends_comma ts; no_plus = refl; no_minus = refl }

closed_key : (j : Keyword) (ts : List Tok) → Closed (key j ∷ ts)
unfolding sees_mark
closed_key j ts = record { ends = ends_key j ts; no_plus = refl; no_minus = refl }

closed_nothing : Closed []
unfolding sees_mark
closed_nothing = record { ends = ends_nothing; no_plus = refl; no_minus = refl }

ends_plus : (ts : List Tok) → Ends (mark m.Plus ∷ ts)
unfolding sees_mark
ends_plus ts = record { no_dot = refl; no_square = refl; no_round = refl }

ends_minus : (ts : List Tok) → Ends (mark m.Minus ∷ ts)
unfolding sees_mark
ends_minus ts = record { no_dot = refl; no_square = refl; no_round = refl }

ends_equal : (ts : List Tok) → Ends (mark m.Equal ∷ ts)
unfolding sees_mark
ends_equal ts = record { no_dot = refl; no_square = refl; no_round = refl }

-- ---- terms

located_read : (g : Given) (d : PathPhrase) (rest : List Tok) → Ends rest
    → r.located g (path_toks d ++ rest) ≡ Some (t.At (path_tree g.names d), rest)
unfolding r.located
located_read g d rest e = simp (not_call d rest e, path_read g.names d rest e)

operand_read : (g : Given) (d : PathPhrase) (rest : List Tok) → Ends rest
    → r.operand g (path_toks d ++ rest) ≡ Some (t.At (path_tree g.names d), rest)
unfolding r.operand
operand_read g (path (plain w) ss) rest e = located_read g (path (plain w) ss) rest e
operand_read g (path (hashed w) ss) rest e = located_read g (path (hashed w) ss) rest e

term_at : (g : Given) (d : PathPhrase) (n : ℕ) (rest : List Tok) → Ends rest
    → r.term g (suc n) (path_toks d ++ rest) ≡ Some (t.At (path_tree g.names d), rest)
unfolding r.term
term_at g d n rest e =
    rw (no_call d rest (codes "if_not_exists") e, no_call d rest (codes "list_append") e)
    (operand_read g d rest e)

term_value : (g : Given) (w : List ℕ) (n : ℕ) (rest : List Tok)
    → r.term g (suc n) (colon w ∷ rest) ≡ Some (t.Value (value_of g.values w), rest)
unfolding r.term r.operand calls
term_value g w n rest = refl

term_if : (g : Given) (p : PathPhrase) (x : TermPhrase) (n : ℕ) (rest : List Tok)
    → r.term g n (term_toks x ++ mark m.RightRound ∷ rest)
    ≡ Some (term_tree g x, mark m.RightRound ∷ rest)
    → r.term g (suc n) (term_toks (if_not_exists p x) ++ rest)
    ≡ Some (term_tree g (if_not_exists p x), rest)
unfolding r.term r.if_not_exists calls expect sees_mark
term_if g p x n rest h =
    rw (
      comma_read (path_toks p) (term_toks x) rest,
      path_read g.names p (mark m.Comma ∷ (term_toks x ++ mark m.RightRound ∷ rest)) (ends_comma _),
      h,
    ) refl

term_append : (g : Given) (x y : TermPhrase) (n : ℕ) (rest : List Tok)
    → r.term g n (term_toks x ++ mark m.Comma ∷ (term_toks y ++ mark m.RightRound ∷ rest))
    ≡ Some (term_tree g x, mark m.Comma ∷ (term_toks y ++ mark m.RightRound ∷ rest))
    → r.term g n (term_toks y ++ mark m.RightRound ∷ rest)
    ≡ Some (term_tree g y, mark m.RightRound ∷ rest)
    → r.term g (suc n) (term_toks (list_append x y) ++ rest)
    ≡ Some (term_tree g (list_append x y), rest)
unfolding r.term r.list_append calls expect sees_mark
term_append g x y n rest h i = rw (comma_read (term_toks x) (term_toks y) rest, h, i) refl

-- how deep functions stand in one another, which is at most the number of tokens
abbrev nest : TermPhrase → ℕ
nest (at p) = 1
nest (value w) = 1
nest (if_not_exists p x) = nest x + 1
nest (list_append x y) = nest x + nest y + 1

some_nest : (d : TermPhrase) → 0 < nest d
some_nest (at p) = omega arith
some_nest (value w) = omega arith
some_nest (if_not_exists p x) = omega arith
some_nest (list_append x y) = omega arith

nest_fits : (d : TermPhrase) → nest d ≤ length (term_toks d)
nest_fits (at (path n ss)) = omega arith
nest_fits (value w) = omega arith
nest_fits (if_not_exists p x) = omega (arith, nest_fits x, length-append (path_toks p) (mark m.Comma ∷ term_toks x), length-append (path_toks p ++ mark m.Comma ∷ term_toks x) (mark m.RightRound ∷ []))
nest_fits (list_append x y) = omega (arith, nest_fits x, nest_fits y, length-append (term_toks x) (mark m.Comma ∷ term_toks y), length-append (term_toks x ++ mark m.Comma ∷ term_toks y) (mark m.RightRound ∷ []))

term_read : (g : Given) (d : TermPhrase) (n : ℕ) (rest : List Tok) → nest d ≤ n → Ends rest
    → r.term g n (term_toks d ++ rest) ≡ Some (term_tree g d, rest)
term_read g d zero rest fits e = absurd (omega (arith, some_nest d))
term_read g (at p) (suc n) rest fits e = term_at g p n rest e
term_read g (value w) (suc n) rest fits e = term_value g w n rest
term_read g (if_not_exists p x) (suc n) rest fits e =
    term_if g p x n rest
    (term_read g x n (mark m.RightRound ∷ rest) (omega arith) (ends_close rest))
term_read g (list_append x y) (suc n) rest fits e =
    term_append g x y n rest
    (term_read g x n (mark m.Comma ∷ (term_toks y ++ mark m.RightRound ∷ rest)) (omega arith)
    (ends_comma _))
    (term_read g y n (mark m.RightRound ∷ rest) (omega arith) (ends_close rest))

whole_read : (g : Given) (d : TermPhrase) (rest : List Tok) → Ends rest
    → r.whole_term g (term_toks d ++ rest) ≡ Some (term_tree g d, rest)
unfolding r.whole_term
whole_read g d rest e = term_read g d (length (term_toks d ++ rest)) rest
    (omega (arith, nest_fits d, length-append (term_toks d) rest)) e

sum_one : (g : Given) (x : TermPhrase) (rest : List Tok) → Closed rest
    → r.sum g (sum_toks (one x) ++ rest) ≡ Some (sum_tree g (one x), rest)
unfolding r.sum after_mark
sum_one g x rest c = rw (whole_read g x rest c.ends) (simp (c.no_plus, c.no_minus))

sum_plus : (g : Given) (x y : TermPhrase) (rest : List Tok) → Closed rest
    → r.sum g (sum_toks (plus x y) ++ rest) ≡ Some (sum_tree g (plus x y), rest)
unfolding r.sum after_mark sees_mark
sum_plus g x y rest c =
    rw (append_assoc (term_toks x) (mark m.Plus ∷ term_toks y) rest, whole_read g x (mark m.Plus ∷ (term_toks y ++ rest)) (ends_plus _), whole_read g y rest c.ends) refl

sum_minus : (g : Given) (x y : TermPhrase) (rest : List Tok) → Closed rest
    → r.sum g (sum_toks (minus x y) ++ rest) ≡ Some (sum_tree g (minus x y), rest)
unfolding r.sum after_mark sees_mark
sum_minus g x y rest c =
    rw (append_assoc (term_toks x) (mark m.Minus ∷ term_toks y) rest, whole_read g x (mark m.Minus ∷ (term_toks y ++ rest)) (ends_minus _), whole_read g y rest c.ends) refl

sum_read : (g : Given) (d : SumPhrase) (rest : List Tok) → Closed rest
    → r.sum g (sum_toks d ++ rest) ≡ Some (sum_tree g d, rest)
sum_read g (one x) rest c = sum_one g x rest c
sum_read g (plus x y) rest c = sum_plus g x y rest c
sum_read g (minus x y) rest c = sum_minus g x y rest c

-- ---- actions

set_read : (g : Given) (d : SetPhrase) (rest : List Tok) → Closed rest
    → r.action g k.Set (set_toks d ++ rest) ≡ Some (set_tree g d, rest)
unfolding r.action r.set expect sees_mark
set_read g (set p x) rest c =
    rw (append_assoc (path_toks p) (mark m.Equal ∷ sum_toks x) rest, path_read g.names p (mark m.Equal ∷ (sum_toks x ++ rest)) (ends_equal _), sum_read g x rest c) refl

remove_read : (g : Given) (d : PathPhrase) (rest : List Tok) → Closed rest
    → r.action g k.Remove (path_toks d ++ rest) ≡ Some (remove_tree g d, rest)
unfolding r.action r.remove
remove_read g d rest c = rw (path_read g.names d rest c.ends) refl

add_read : (g : Given) (d : PairPhrase) (rest : List Tok) → Closed rest
    → r.action g k.Add (pair_toks d ++ rest) ≡ Some (add_tree g d, rest)
unfolding r.action r.add r.value name
add_read g (pair (plain n) w) rest c = refl
add_read g (pair (hashed n) w) rest c = refl

delete_read : (g : Given) (d : PairPhrase) (rest : List Tok) → Closed rest
    → r.action g k.Delete (pair_toks d ++ rest) ≡ Some (delete_tree g d, rest)
unfolding r.action r.delete r.value name
delete_read g (pair (plain n) w) rest c = refl
delete_read g (pair (hashed n) w) rest c = refl

set_some : (d : SetPhrase) → 0 < length (set_toks d)
set_some (set (path n ss) x) = omega arith

pair_some : (d : PairPhrase) → 0 < length (pair_toks d)
pair_some (pair n w) = omega arith

-- ---- clauses

-- what may stand behind a clause: another one, or nothing
pub record Over (rest : List Tok) : Type 0 where
  pub closed : Closed rest
  pub no_comma : sees_mark m.Comma rest ≡ false

-- the keyword of another one may
over_key : (j : Keyword) (ts : List Tok) → Over (key j ∷ ts)
unfolding sees_mark
over_key j ts = record { closed = closed_key j ts; no_comma = refl }

over_nothing : Over []
unfolding sees_mark
over_nothing = record { closed = closed_nothing; no_comma = refl }

-- actions of one kind, behind those found
actions_read : {D : Type 0} (toks : D → List Tok) (tree : D → Action) (j : Keyword) (g : Given)
    → ((d : D) → 0 < length (toks d))
    → ((d : D) (rest : List Tok) → Closed rest
    → r.action g j (toks d ++ rest) ≡ Some (tree d, rest))
    → (d : D) (ds : List D) (found : List Action) (rest : List Tok) → Over rest
    → r.listed_behind (r.action g j) found (between_toks toks (mark m.Comma) d ds ++ rest)
    ≡ Some (found ++ (tree d ∷ map tree ds), rest)
actions_read toks tree j g some reads d ds found rest o =
    behind (r.action g j) found (between_toks toks (mark m.Comma) d ds ++ rest)
    ∙ ap (put_behind found)
    (listed_read toks tree (r.action g j) Closed closed_comma some reads d ds rest
    o.closed o.no_comma)

clause_read : (g : Given) (d : ClausePhrase) (found : List Action) (rest : List Tok) → Over rest
    → r.clause g found (clause_toks d ++ rest) ≡ Some (found ++ clause_tree g d, rest)
unfolding r.clause
clause_read g (sets x xs) found rest o =
    actions_read set_toks (set_tree g) k.Set g set_some (set_read g) x xs found rest o
clause_read g (removes x xs) found rest o =
    actions_read path_toks (remove_tree g) k.Remove g path_some (remove_read g) x xs found rest o
clause_read g (adds x xs) found rest o =
    actions_read pair_toks (add_tree g) k.Add g pair_some (add_read g) x xs found rest o
clause_read g (deletes x xs) found rest o =
    actions_read pair_toks (delete_tree g) k.Delete g pair_some (delete_read g) x xs found rest o

over_clauses : (cs : List ClausePhrase) → Over (clauses_toks cs)
over_clauses [] = over_nothing
over_clauses (sets x xs ∷ cs) = over_key k.Set _
over_clauses (removes x xs ∷ cs) = over_key k.Remove _
over_clauses (adds x xs ∷ cs) = over_key k.Add _
over_clauses (deletes x xs ∷ cs) = over_key k.Delete _

is_not_zero : (n : ℕ) → (suc n == 0) ≡ false
is_not_zero n = grind (arith, nat_tests)

not_done : (c : ClausePhrase) (ts : List Tok) → r.is_done (clause_toks c ++ ts) ≡ false
unfolding r.is_done
not_done (sets x xs) ts = is_not_zero _
not_done (removes x xs) ts = is_not_zero _
not_done (adds x xs) ts = is_not_zero _
not_done (deletes x xs) ts = is_not_zero _

clause_some : (c : ClausePhrase) → 0 < length (clause_toks c)
clause_some (sets x xs) = omega arith
clause_some (removes x xs) = omega arith
clause_some (adds x xs) = omega arith
clause_some (deletes x xs) = omega arith

clauses_fit : (cs : List ClausePhrase) → length cs ≤ length (clauses_toks cs)
clauses_fit [] = omega arith
clauses_fit (c ∷ cs) =
    omega (arith, clauses_fit cs, clause_some c, length-append (clause_toks c) (clauses_toks cs))

from_done : (g : Given) (n : ℕ) (found : List Action)
    → r.clauses_from g (suc n) found [] ≡ Some (found, [])
unfolding r.clauses_from r.is_done
from_done g n found = refl

from_more : (g : Given) (n : ℕ) (c : ClausePhrase) (found more : List Action) (rest : List Tok)
    → r.clause g found (clause_toks c ++ rest) ≡ Some (more, rest)
    → r.clauses_from g (suc n) found (clause_toks c ++ rest) ≡ r.clauses_from g n more rest
unfolding r.clauses_from
from_more g n c found more rest h = rw (not_done c rest, h) refl

clauses_read : (g : Given) (cs : List ClausePhrase) (n : ℕ) (found : List Action) → length cs < n
    → r.clauses_from g n found (clauses_toks cs) ≡ Some (found ++ clauses_tree g cs, [])
clauses_read g cs zero found room = absurd (omega arith)
clauses_read g [] (suc n) found room = from_done g n found
    ∙ ap (λ xs. Some (xs, [])) (sym (append-nil found))
clauses_read g (c ∷ cs) (suc n) found room =
    from_more g n c found (found ++ clause_tree g c) (clauses_toks cs)
    (clause_read g c found (clauses_toks cs) (over_clauses cs))
    ∙ clauses_read g cs n (found ++ clause_tree g c) (omega arith)
    ∙ ap (λ xs. Some (xs, [])) (append_assoc found (clause_tree g c) (clauses_tree g cs))

-- the whole: what is derived is read as its tree
pub update_read : (g : Given) (d : UpdatePhrase)
    → r.update g (update_toks d) ≡ Some (update_tree g d, [])
unfolding r.update
update_read g (clauses c cs) =
    rw (clause_read g c [] (clauses_toks cs) (over_clauses cs))
    (clauses_read g cs _ (clause_tree g c) (omega (arith, clauses_fit cs, clause_some c, length-append (clause_toks c) (clauses_toks cs))))
