use Rattle.std.proofs.Common.{◌≡◌, ◌≤◌, ℕ, Bool, drop, map}
use Rattle.alt_expr.specs.Tokens.{tok_of}
use Rattle.alt_expr.specs.Walks.{deep_from}
use Rattle.alt_expr.proofs.nesting.walks_too_deep.Given as goal

pub record Walked (all : Bool) (here : Bool) (opened closed nots at : ℕ) : Type 0 where
  pub walk : all ≡ here
  pub few_opened : opened ≤ at
  pub few_closed : closed ≤ at
  pub few_nots : nots ≤ at

abbrev pub invariant-loop-token : goal.invariant-loop-token
invariant-loop-token l = Walked (deep_from 0 0 0 (map tok_of l.tokens))
    (deep_from l.opened l.closed l.nots (map tok_of (drop l.token-index l.tokens))) l.opened
    l.closed l.nots l.token-index
