-- Updates as a language: their grammar, and what more is asked of a text.
use Rattle.std.specs.Prelude.{Bool, true, false, ◌||◌, nat_lt, List, [], ◌∷◌, map}
use Rattle.std.specs.List.{list_any, list_all, count_by}
use Rattle.alt_expr.specs.Tokens.{same_keyword}
use Rattle.alt_expr.specs.Faults.{Language}
use Rattle.alt_expr.specs.Crowded.{is_long}
use Rattle.alt_expr.specs.PathsGrammar.{some_overlap}
use Rattle.alt_expr.specs.UpdateGrammar.{ClausePhrase, sets, removes, adds, deletes, UpdatePhrase, clauses, update_toks, update_tree}
use Rattle.alt_expr.specs.declared.token.Keyword.{Keyword}
use Rattle.alt_expr.specs.declared.token.Keyword.TheVariants as k
use Rattle.alt_expr.specs.declared.path.PathPart.{PathPart}
use Rattle.alt_expr.specs.declared.path.PathPart.TheVariants.{Name}
use Rattle.alt_expr.specs.declared.update.Term.{Term, fold-Term}
use Rattle.alt_expr.specs.declared.update.Term.TheOpen.{Term-F}
use Rattle.alt_expr.specs.declared.update.Sum.{Sum}
use Rattle.alt_expr.specs.declared.update.Sum.TheVariants as s
use Rattle.alt_expr.specs.declared.update.Action.{Action}
use Rattle.alt_expr.specs.declared.update.Action.TheVariants as a

-- ---- paths of over 32 parts

-- one level of a term, with each term inside already told
abbrev pub long_step : Term-F Bool → Bool
long_step (Term-F.At path) = is_long path
long_step (Term-F.Value v) = false
long_step (Term-F.IfNotExists path x) = is_long path || x
long_step (Term-F.ListAppend x y) = x || y

-- a term with such a path
unfoldable pub is_long_term : Term → Bool
is_long_term = fold-Term Bool long_step

-- a sum with such a path
abbrev pub is_long_sum : Sum → Bool
is_long_sum (s.One x) = is_long_term x
is_long_sum (s.Plus x y) = is_long_term x || is_long_term y
is_long_sum (s.Minus x y) = is_long_term x || is_long_term y

-- an action with such a path
abbrev pub is_long_action : Action → Bool
is_long_action (a.Set path x) = is_long path || is_long_sum x
is_long_action (a.Remove path) = is_long path
is_long_action (a.Add name v) = false
is_long_action (a.Delete name v) = false

-- ---- a clause that stands twice

-- the keyword of a clause
abbrev pub clause_key : ClausePhrase → Keyword
clause_key (sets x xs) = k.Set
clause_key (removes x xs) = k.Remove
clause_key (adds x xs) = k.Add
clause_key (deletes x xs) = k.Delete

-- more than one of the clauses has the keyword
abbrev pub stands_twice : List ClausePhrase → Keyword → Bool
stands_twice cs j = nat_lt 1 (count_by (λ c. same_keyword (clause_key c) j) cs)

-- the keywords of clauses
abbrev pub clause_keys : List Keyword
clause_keys = k.Set ∷ k.Remove ∷ k.Add ∷ k.Delete ∷ []

-- a clause stands twice
abbrev pub repeats_clause : UpdatePhrase → Bool
repeats_clause (clauses c cs) = list_any (stands_twice (c ∷ cs)) clause_keys

-- ---- the paths that an update changes

-- the path that an action changes
abbrev pub target : Action → List PathPart
target (a.Set path x) = path
target (a.Remove path) = path
target (a.Add name v) = Name name ∷ []
target (a.Delete name v) = Name name ∷ []

-- a path begins with a name
abbrev pub begins_with_name : List PathPart → Bool
begins_with_name (Name name ∷ ps) = true
begins_with_name _ = false

-- each path that actions change begins with a name
abbrev pub begin_with_names : List Action → Bool
begin_with_names update = list_all (λ x. begins_with_name (target x)) update

-- two actions change overlapping paths
abbrev pub targets_overlap : List Action → Bool
targets_overlap update = some_overlap (map target update)

-- ---- the language

-- updates
unfoldable pub updates : Language UpdatePhrase (List Action)
updates = record {
  toks = update_toks;
  tree = update_tree;
  is_crowded = list_any is_long_action;
  repeats = repeats_clause;
  overlaps = targets_overlap;
}
