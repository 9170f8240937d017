-- No float stands in it.
use Rattle.serde_json.specs.View.{members_view}
use Rattle.alt_streams.proofs.Describing.{written_plain}
use Rattle.alt_streams.proofs.describe.stream_json.Goals as goal

pub returns-clause-plain : goal.returns-clause-plain
returns-clause-plain c = written_plain c.written.result c.args.schema.now
    (members_view c.args.body.now.entries) c.args.shows c.written.ensures
