-- No float stands in it.
use Rattle.std.proofs.Common.{map}
use Rattle.alt_streams.proofs.Answering.{reply_plain}
use Rattle.alt_streams.proofs.list.listed.Goals as goal

pub returns-clause-plain : goal.returns-clause-plain
returns-clause-plain c = reply_plain c.written.result c.args.page.now.more
    (map (λ d. d.now) c.args.page.now.schemas.items) c.written.ensures
