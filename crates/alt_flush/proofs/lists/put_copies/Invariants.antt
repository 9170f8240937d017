-- The families so far.
use Rattle.std.proofs.Common.{◌≡◌, ◌++◌, drop}
use Rattle.alt_flush.proofs.lists.put_copies.Given as goal

abbrev pub invariant-loop-family : goal.invariant-loop-family
invariant-loop-family l = l.out ++ drop l.family-index l.rest ≡ l.initial.out ++ l.rest
