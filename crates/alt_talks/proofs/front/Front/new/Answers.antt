-- Of no bytes none were read.
use Rattle.alt_talks.proofs.Fronts.{nothing_read}
use Rattle.alt_talks.proofs.front.Front.new.Goals as goal

pub invariant_of-result : goal.invariant_of-result
invariant_of-result c = nothing_read c.new.result.items
