-- A path is read as its tree, whatever may stand behind it.
use Rattle.std.proofs.Common.{◌≡◌, refl, ap, ◌∙◌, ℕ, zero, suc, ◌<◌, false, List, [], ◌∷◌, ◌++◌, length, map, Some, None, arith, append_assoc, append-nil, length-append}
use Rattle.std.proofs.lemmas.Bool.{and_right}
use Rattle.std.specs.Str.{bytes_eq}
use Rattle.alt_value.specs.Tree.{Pair}
use Rattle.alt_expr.specs.Tokens.{Tok, key, mark}
use Rattle.alt_expr.specs.declared.token.Keyword.{Keyword}
use Rattle.alt_expr.specs.declared.token.Mark.TheVariants as m
use Rattle.alt_expr.specs.declared.path.PathPart.{PathPart}
use Rattle.alt_expr.specs.declared.path.PathPart.TheVariants as p
use Rattle.alt_expr.specs.PathGrammar.{StepPhrase, dotted, indexed, PathPhrase, path, plain, hashed, step_toks, steps_toks, path_toks, step_part, path_tree}
use Rattle.alt_expr.specs.Reader as r
use Rattle.alt_expr.specs.Reader.{sees_mark, calls, is_call, after_mark, expect, parts_from, in_brackets}

-- what may stand behind a path, and behind an operand or a test
pub record Ends (rest : List Tok) : Type 0 where
  pub no_dot : sees_mark m.Dot rest ≡ false
  pub no_square : sees_mark m.LeftSquare rest ≡ false
  pub no_round : sees_mark m.LeftRound rest ≡ false

-- a step is read as its part, whatever stands behind it
part_read : (names : List Pair) (s : StepPhrase) (rest : List Tok)
    → r.part names (step_toks s ++ rest) ≡ Some (Some (step_part names s), rest)
unfolding r.part r.name r.number r.index_part sees_mark after_mark expect
part_read names (dotted (plain w)) rest = refl
part_read names (dotted (hashed w)) rest = refl
part_read names (indexed n) rest = refl

part_none : (names : List Pair) (rest : List Tok) → Ends rest
    → r.part names rest ≡ Some (None, rest)
unfolding r.part after_mark
part_none names rest e = simp (e.no_dot, e.no_square)

step_some : (s : StepPhrase) → 0 < length (step_toks s)
step_some (dotted n) = omega arith
step_some (indexed n) = omega arith

parts_read : (names : List Pair) (ss : List StepPhrase) (n : ℕ) (found : List PathPart)
    (rest : List Tok) → length (steps_toks ss) < n → Ends rest
    → parts_from names n found (steps_toks ss ++ rest)
    ≡ Some (found ++ map (step_part names) ss, rest)
unfolding parts_from
parts_read names ss zero found rest room e = absurd (omega arith)
parts_read names [] (suc n) found rest room e = rw (part_none names rest e) (simp append-nil)
parts_read names (s ∷ ss) (suc n) found rest room e =
    let room' : length (steps_toks ss) < n =
    omega (arith, length-append (step_toks s) (steps_toks ss), step_some s) in
    rw (append_assoc, part_read names s (steps_toks ss ++ rest))
    (parts_read names ss n (found ++ step_part names s ∷ []) rest room' e
    ∙ ap (λ x. Some (x, rest))
    (append_assoc found (step_part names s ∷ []) (map (step_part names) ss)))

-- a path is read as its tree where no step stands behind it
pub path_read : (names : List Pair) (d : PathPhrase) (rest : List Tok) → Ends rest
    → r.path names (path_toks d ++ rest) ≡ Some (path_tree names d, rest)
unfolding r.path r.name
path_read names (path (plain w) ss) rest e =
    parts_read names ss _ _ rest (omega (arith, length-append (steps_toks ss) rest)) e
path_read names (path (hashed w) ss) rest e =
    parts_read names ss _ _ rest (omega (arith, length-append (steps_toks ss) rest)) e

-- a keyword may stand behind a path
pub ends_key : (j : Keyword) (ts : List Tok) → Ends (key j ∷ ts)
unfolding sees_mark
ends_key j ts = record { no_dot = refl; no_square = refl; no_round = refl }

-- a comma may
pub ends_comma : (ts : List Tok) → Ends (mark m.Comma ∷ ts)
unfolding sees_mark
ends_comma ts = record { no_dot = refl; no_square = refl; no_round = refl }

-- a closing bracket may
pub ends_close : (ts : List Tok) → Ends (mark m.RightRound ∷ ts)
unfolding sees_mark
ends_close ts = record { no_dot = refl; no_square = refl; no_round = refl }

-- and so may nothing
pub ends_nothing : Ends []
unfolding sees_mark
ends_nothing = record { no_dot = refl; no_square = refl; no_round = refl }

-- a closing bracket and what is behind it, as one list
pub close_read : (inner : List Tok) (ts : List Tok)
    → (inner ++ mark m.RightRound ∷ []) ++ ts ≡ inner ++ mark m.RightRound ∷ ts
close_read inner ts = append_assoc inner (mark m.RightRound ∷ []) ts

-- a path in brackets is read as its tree
pub path_in_brackets : (names : List Pair) (d : PathPhrase) (rest : List Tok)
    → in_brackets (r.path names) ((path_toks d ++ mark m.RightRound ∷ []) ++ rest)
    ≡ Some (path_tree names d, rest)
unfolding in_brackets expect sees_mark
path_in_brackets names d rest = rw (close_read (path_toks d) rest, path_read names d (mark m.RightRound ∷ rest) (ends_close rest)) refl

-- a path isn't followed by a bracket
pub no_bracket : (ss : List StepPhrase) (rest : List Tok) → Ends rest
    → sees_mark m.LeftRound (steps_toks ss ++ rest) ≡ false
unfolding sees_mark
no_bracket [] rest e = e.no_round
no_bracket (dotted n ∷ ss) rest e = refl
no_bracket (indexed n ∷ ss) rest e = refl

-- a path isn't a call of a function of this name
pub no_call : (d : PathPhrase) (rest : List Tok) (name : List ℕ) → Ends rest
    → calls name (path_toks d ++ rest) ≡ false
unfolding calls
no_call (path (plain w) ss) rest name e = and_right (bytes_eq w name) _ (no_bracket ss rest e)
no_call (path (hashed w) ss) rest name e = refl

-- nor of any
pub not_call : (d : PathPhrase) (rest : List Tok) → Ends rest
    → is_call (path_toks d ++ rest) ≡ false
unfolding is_call
not_call (path (plain w) ss) rest e = no_bracket ss rest e
not_call (path (hashed w) ss) rest e = refl
