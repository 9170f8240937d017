-- The grammar of paths: a phrase has a constructor for each production, the tokens that it derives, and a tree.
--
--     path = name { "." name | "[" index "]" }        name = word | #word
use Rattle.std.specs.Prelude.{ℕ, List, [], ◌∷◌, ◌++◌, map}
use Rattle.alt_value.specs.Tree.{Pair}
use Rattle.alt_expr.specs.Tokens.{Tok, word, hash, index, mark}
use Rattle.alt_expr.specs.Given.{name_of}
use Rattle.alt_expr.specs.declared.token.Mark.TheVariants as m
use Rattle.alt_expr.specs.declared.path.PathPart.{PathPart}
use Rattle.alt_expr.specs.declared.path.PathPart.TheVariants as p

-- name = word | #word
pub data NamePhrase : Type 0 where
  plain : List ℕ → NamePhrase
  hashed : List ℕ → NamePhrase

-- "." name | "[" index "]"
pub data StepPhrase : Type 0 where
  dotted : NamePhrase → StepPhrase
  indexed : ℕ → StepPhrase

-- path = name { "." name | "[" index "]" }
pub data PathPhrase : Type 0 where
  path : NamePhrase → List StepPhrase → PathPhrase

-- ---- the tokens that a phrase derives

-- the token of a name
abbrev pub name_tok : NamePhrase → Tok
name_tok (plain w) = word w
name_tok (hashed w) = hash w

-- the tokens of one step of a path
abbrev pub step_toks : StepPhrase → List Tok
step_toks (dotted n) = mark m.Dot ∷ name_tok n ∷ []
step_toks (indexed n) = mark m.LeftSquare ∷ index n ∷ mark m.RightSquare ∷ []

-- the tokens of the steps of a path
abbrev pub steps_toks : List StepPhrase → List Tok
steps_toks [] = []
steps_toks (s ∷ ss) = step_toks s ++ steps_toks ss

-- the tokens of a path
abbrev pub path_toks : PathPhrase → List Tok
path_toks (path n ss) = name_tok n ∷ steps_toks ss

-- phrases of one kind with a token between each two
abbrev pub between_toks : {D : Type 0} → (D → List Tok) → Tok → D → List D → List Tok
between_toks toks t d [] = toks d
between_toks toks t d (e ∷ es) = toks d ++ t ∷ between_toks toks t e es

-- a function's name, and what stands in its brackets
abbrev pub call_toks : List ℕ → List Tok → List Tok
call_toks name inner = word name ∷ mark m.LeftRound ∷ (inner ++ mark m.RightRound ∷ [])

-- ---- its tree, over the given names

-- the name that a phrase stands for: itself, or what its `#` word is given
abbrev pub name_text : List Pair → NamePhrase → List ℕ
name_text names (plain w) = w
name_text names (hashed w) = name_of names w

-- the part that a step stands for
abbrev pub step_part : List Pair → StepPhrase → PathPart
step_part names (dotted n) = p.Name (name_text names n)
step_part names (indexed n) = p.Index n

-- the parts that a path stands for
abbrev pub path_tree : List Pair → PathPhrase → List PathPart
path_tree names (path n ss) = p.Name (name_text names n) ∷ map (step_part names) ss
