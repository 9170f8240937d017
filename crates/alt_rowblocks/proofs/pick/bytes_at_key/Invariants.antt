-- The pieces so far, and what is left.
use Rattle.std.proofs.Common.{length}
use Rattle.std.specs.Option.{option_copied}
use Rattle.alt_rowblocks.proofs.PickLaws.{PiecesSoFar}
use Rattle.alt_rowblocks.proofs.pick.bytes_at_key.Given as goal

abbrev pub invariant-pieces : goal.invariant-pieces
invariant-pieces l =
    PiecesSoFar l.bytes l.rest l.key (option_copied l.last) (option_copied l.found)

abbrev pub decreases-pieces : goal.decreases-pieces
decreases-pieces l = length l.rest
