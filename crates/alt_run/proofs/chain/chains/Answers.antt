use Rattle.alt_run.proofs.Chaining.{chains_hold}
use Rattle.alt_run.proofs.chain.chains.Goals as goal

pub returns : goal.returns
returns c = record { hold = chains_hold }
