-- The three grammars, with what more is asked of their texts.
use Rattle.std.specs.Prelude.{false, List}
use Rattle.std.specs.List.{list_any}
use Rattle.alt_expr.specs.Faults.{Language}
use Rattle.alt_expr.specs.CondGrammar.{CondPhrase, cond_toks, cond_tree}
use Rattle.alt_expr.specs.Crowded.{is_crowded, is_long}
use Rattle.alt_expr.specs.PathsGrammar.{PathsPhrase, paths_toks, paths_tree, some_overlap}
use Rattle.alt_expr.specs.declared.cond.Cond.{Cond}
use Rattle.alt_expr.specs.declared.path.PathPart.{PathPart}

-- projections
unfoldable pub projections : Language PathsPhrase (List (List PathPart))
projections = record { toks = paths_toks; tree = paths_tree; is_crowded = list_any is_long; repeats = λ d. false; overlaps = some_overlap }

-- conditions
unfoldable pub conditions : Language CondPhrase Cond
conditions = record { toks = cond_toks; tree = cond_tree; is_crowded = is_crowded; repeats = λ d. false; overlaps = λ c. false }
