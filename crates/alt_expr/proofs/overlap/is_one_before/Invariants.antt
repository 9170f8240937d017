use Rattle.std.proofs.Common.{◌≡◌, map, drop}
use Rattle.alt_expr.specs.PathOrder.{is_one_before}
use Rattle.alt_expr.proofs.overlap.is_one_before.Given as goal

abbrev pub invariant-loop-way : goal.invariant-loop-way
invariant-loop-way l = is_one_before l.first (map (λ w. w.now) l.rest)
    ≡ is_one_before l.before (map (λ w. w.now) (drop l.way-index l.rest))
