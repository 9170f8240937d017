use Rattle.std.proofs.Common.{length}
use Rattle.alt_keyorder.proofs.Bounds.{IsEnd}
use Rattle.alt_keyorder.proofs.range.bound_of.Given as goal

abbrev pub invariant-loop-last : goal.invariant-loop-last
invariant-loop-last l = IsEnd l.front l.fn.prefix

abbrev pub decreases-loop-last : goal.decreases-loop-last
decreases-loop-last l = length l.front
