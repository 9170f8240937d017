-- What was read, and what a reader makes of the rest.
use Rattle.std.proofs.Common.{◌≡◌, ◌-◌}
use Rattle.alt_expr.specs.Reader.{left, comma_separated, listed_from}
use Rattle.alt_expr.specs.Lookups.{given_by_lookups}
use Rattle.alt_expr.specs.CondReader.{operand}
use Rattle.alt_condparse.proofs.operand.operands.Given as goal

abbrev pub invariant-loop-turn : goal.invariant-loop-turn
invariant-loop-turn l = comma_separated (operand (given_by_lookups l.given)) (left l.fn.tokens)
    ≡ listed_from (operand (given_by_lookups l.given)) (l.turns - l._turn) l.found (left l.tokens)
