-- The names of the page, and no float stands in it.
use Rattle.std.proofs.Common.{◌∙◌}
use Rattle.alt_machine.specs.Ops.ListTables.{names_after, table_names_page}
use Rattle.alt_request.specs.TablesStands.{catalog_of}
use Rattle.alt_ops_table.proofs.Listing.{page_plain, page-listed}
use Rattle.alt_ops_table.proofs.list.answer_of_page.Goals as goal
use Rattle.alt_shape.proofs.Replies.{reply_said}

pub returns-clause-reply : goal.returns-clause-reply
returns-clause-reply c = reply_said c.listed.result _ _
    (page-listed _ _ _ _ c.in_ok-page.ensures.names c.in_ok-page.ensures.more
    ∙ (λ i. table_names_page (c.page_length.ensures i)
    (names_after (c.start_name.ensures i) (catalog_of c.args.tables.now))))
    c.listed.ensures.reply

pub returns-clause-plain : goal.returns-clause-plain
returns-clause-plain c = page_plain c.listed.result _ _ c.listed.ensures.reply
