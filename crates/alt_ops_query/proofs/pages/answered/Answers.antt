-- The description at hand is that of the table.
use Rattle.std.proofs.Common.{ap, ◌∙◌}
use Rattle.std.specs.FinMap as map
use Rattle.serde_json.specs.View.{members_view}
use Rattle.alt_ops_query.proofs.Answering.{told_of}
use Rattle.alt_request.specs.TablesStands.{catalog_of}
use Rattle.alt_ops_query.proofs.pages.answered.Goals as goal

pub returns-clause-reply : goal.returns-clause-reply
returns-clause-reply c = told_of _ c.args.index (members_view c.args.body.now.entries)
    c.args.pager c.filled_reply.result _
    (c.in-Some.ensures.table
    ∙ ap (map.get (catalog_of c.args.tables.now)) c.table_name.ensures.name)
    c.filled_reply.ensures.reply
