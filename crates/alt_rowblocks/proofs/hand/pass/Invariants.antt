-- The rows that were passed so far, and what is left.
use Rattle.std.proofs.Common.{length}
use Rattle.std.specs.Option.{option_copied}
use Rattle.alt_rowblocks.proofs.RowPlaces.{PassedSoFar}
use Rattle.alt_rowblocks.proofs.hand.pass.Given as goal

abbrev pub invariant-passed : goal.invariant-passed
invariant-passed l = PassedSoFar l.bytes l.all l.rest (option_copied l.to) l.places.items

abbrev pub decreases-passed : goal.decreases-passed
decreases-passed l = length l.rest
