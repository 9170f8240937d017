use Rattle.std.proofs.Common.{◌≡◌, map, take}
use Rattle.alt_expr.proofs.overlap.ways_of.Given as goal

abbrev pub invariant-loop-path : goal.invariant-loop-path
invariant-loop-path l = map (λ w. w.now) l.ways.items ≡ take l.path-index l.paths
