-- The item was offered behind the others.
use Rattle.alt_ops_query.proofs.walking.offered.Goals as goal

pub returns-in-Ok-clause-examines : goal.returns-in-Ok-clause-examines
returns-in-Ok-clause-examines c ask seen h some =
    (c.in-Ok.ensures.offered ask seen h, c.in-Ok.ensures.more ask seen h)
