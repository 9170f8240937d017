use Rattle.std.proofs.Common.{◌≡◌, take}
use Rattle.alt_projection.proofs.projection.copy.Given as goal

abbrev pub invariant-loop-part : goal.invariant-loop-part
invariant-loop-part l = l.path ≡ take l.part-index l.way
