use Rattle.std.proofs.Common.{◌≡◌, map, take}
use Rattle.alt_projection.proofs.projection.ways_of.Given as goal

abbrev pub invariant-loop-path : goal.invariant-loop-path
invariant-loop-path l = map (λ w. w.now) l.ways.items ≡ take l.path-index l.paths
