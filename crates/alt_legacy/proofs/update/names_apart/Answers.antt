-- The keys of a map rise, so they differ.
use Rattle.alt_legacy.proofs.Named.{differ}
use Rattle.alt_legacy.proofs.update.names_apart.Goals as goal

pub returns : goal.returns
returns c = differ c.args.members.now.entries c.keys-names.ensures.ordered
