use Rattle.std.proofs.Common.{◌≡◌, ◌++◌, length}
use Rattle.alt_keyorder.specs.KeyBytes.{escaped}
use Rattle.alt_keyorder.proofs.take.read_closed.Given as goal

abbrev pub invariant-loop-front : goal.invariant-loop-front
invariant-loop-front l = l.fn.bytes ≡ escaped l.content.items ++ l.rest

abbrev pub decreases-loop-front : goal.decreases-loop-front
decreases-loop-front l = length l.rest
