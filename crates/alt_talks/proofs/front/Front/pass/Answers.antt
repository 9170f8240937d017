-- Of what is left nothing was read.
use Rattle.alt_talks.proofs.Fronts.{nothing_read}
use Rattle.alt_talks.proofs.front.Front.pass.Goals as goal

pub invariant_of-self : goal.invariant_of-self
invariant_of-self c = nothing_read _
