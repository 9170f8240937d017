-- The item was offered behind the others.
use Rattle.std.proofs.Common.{not, ap}
use Rattle.alt_paging.proofs.Offering.{offered_one}
use Rattle.alt_paging.proofs.pager.Pager.offer.Goals as goal

pub returns-in-Ok-clause-offered : goal.returns-in-Ok-clause-offered
returns-in-Ok-clause-offered c ask items was = offered_one ask c.args.self.now c.examine.new.self
    items c.args.item was c.in-Ok.ensures.grows c.requires.open

pub returns-in-Ok-clause-more : goal.returns-in-Ok-clause-more
returns-in-Ok-clause-more c ask items was = ap not (offered_one ask c.args.self.now
    c.examine.new.self items c.args.item was c.in-Ok.ensures.grows c.requires.open).ended
