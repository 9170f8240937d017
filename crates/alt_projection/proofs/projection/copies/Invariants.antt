use Rattle.std.proofs.Common.{◌≡◌, map, take}
use Rattle.alt_projection.proofs.projection.copies.Given as goal

abbrev pub invariant-loop-way : goal.invariant-loop-way
invariant-loop-way l = l.paths ≡ map (λ w. w.now) (take l.way-index l.ways)
