-- What was read, and what a reader makes of the rest; a bracket or a NOT is one level less.
use Rattle.std.proofs.Common.{◌≡◌, ◌-◌, ◌+◌, ◌*◌}
use Rattle.alt_expr.specs.declared.token.Keyword.TheVariants.{And, Or}
use Rattle.alt_expr.specs.declared.cond.Cond.TheVariants as cond
use Rattle.alt_expr.specs.Reader.{left, ◌<$>◌}
use Rattle.alt_expr.specs.Lookups.{given_by_lookups}
use Rattle.alt_expr.specs.CondReader.{one, all, joined_by_keyword, joined_from}
use Rattle.alt_condparse.proofs.condition.+condition.Given as goal

abbrev pub decreases-one : goal.decreases-one
decreases-one l = 4 * l.depth

abbrev pub decreases-all : goal.decreases-all
decreases-all l = 4 * l.depth + 1

abbrev pub decreases-any : goal.decreases-any
decreases-any l = 4 * l.depth + 2

abbrev pub decreases-prim : goal.decreases-prim
decreases-prim l = 4 * l.depth + 3

abbrev pub invariant-all-loop-turn : goal.invariant-all-loop-turn
invariant-all-loop-turn l =
    joined_by_keyword (one (given_by_lookups l.given) l.depth) And cond.All (left l.fn.tokens)
    ≡ (cond.All <$> joined_from (one (given_by_lookups l.given) l.depth) And (l.turns - l._turn) l.found)
    (left l.tokens)

abbrev pub invariant-any-loop-turn : goal.invariant-any-loop-turn
invariant-any-loop-turn l =
    joined_by_keyword (all (one (given_by_lookups l.given) l.depth)) Or cond.Any (left l.fn.tokens)
    ≡ (cond.Any <$> joined_from (all (one (given_by_lookups l.given) l.depth)) Or
    (l.turns - l._turn) l.found) (left l.tokens)
