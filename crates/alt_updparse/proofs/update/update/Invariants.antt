-- What was read, and what a reader makes of the rest.
use Rattle.std.proofs.Common.{◌≡◌, ◌-◌}
use Rattle.alt_expr.specs.Reader.{left}
use Rattle.alt_expr.specs.Lookups.{given_by_lookups}
use Rattle.alt_expr.specs.UpdateReader.{update, clauses_from}
use Rattle.alt_updparse.proofs.update.update.Given as goal

abbrev pub invariant-loop-turn : goal.invariant-loop-turn
invariant-loop-turn l = update (given_by_lookups l.given) (left l.fn.tokens)
    ≡ clauses_from (given_by_lookups l.given) (l.turns - l._turn) l.found (left l.tokens)
