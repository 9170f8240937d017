-- What was read, and what a reader makes of the rest.
use Rattle.std.proofs.Common.{◌≡◌, ◌-◌}
use Rattle.alt_expr.specs.Reader.{left, listed_from}
use Rattle.alt_expr.specs.Lookups.{given_by_lookups}
use Rattle.alt_expr.specs.UpdateReader.{action, listed_behind}
use Rattle.alt_updparse.proofs.update.actions.Given as goal

abbrev pub invariant-loop-turn : goal.invariant-loop-turn
invariant-loop-turn l =
    listed_behind (action (given_by_lookups l.given) l.clause) l.fn.found (left l.fn.tokens)
    ≡ listed_from (action (given_by_lookups l.given) l.clause) (l.turns - l._turn) l.found
    (left l.tokens)
