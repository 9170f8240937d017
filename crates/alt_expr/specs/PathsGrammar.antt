-- The grammar of projections, and which paths overlap (AWS Developer Guide, "Using projection expressions in DynamoDB").
--
--     paths = path { "," path }
use Rattle.std.specs.Prelude.{Bool, false, ◌||◌, List, [], ◌∷◌, map}
use Rattle.std.specs.List.{list_any, starts_with}
use Rattle.alt_expr.specs.Tokens.{Tok, mark}
use Rattle.alt_expr.specs.Given.{Given}
use Rattle.alt_expr.specs.PathGrammar.{PathPhrase, path_toks, path_tree, between_toks}
use Rattle.alt_expr.specs.Projected.{same_step}
use Rattle.alt_expr.specs.declared.token.Mark.TheVariants as m
use Rattle.alt_expr.specs.declared.path.PathPart.{PathPart}

-- paths = path { "," path }
pub data PathsPhrase : Type 0 where
  paths : PathPhrase → List PathPhrase → PathsPhrase

-- the tokens of paths
abbrev pub paths_toks : PathsPhrase → List Tok
paths_toks (paths p ps) = between_toks path_toks (mark m.Comma) p ps

-- the paths that a phrase stands for, in text order
abbrev pub paths_tree : Given → PathsPhrase → List (List PathPart)
paths_tree g (paths p ps) = path_tree g.names p ∷ map (path_tree g.names) ps

-- one of two paths begins with the other, or equals it
abbrev pub overlap : List PathPart → List PathPart → Bool
overlap a b = starts_with same_step b a || starts_with same_step a b

-- two of the paths overlap
abbrev pub some_overlap : List (List PathPart) → Bool
some_overlap [] = false
some_overlap (p ∷ ps) = list_any (overlap p) ps || some_overlap ps
