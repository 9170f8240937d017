-- The streams of the page.
use Rattle.std.proofs.Common.{◌∙◌}
use Rattle.alt_machine.specs.Ops.ListStreams.{streams_answer}
use Rattle.alt_streams.specs.private.Listed.{streams_after}
use Rattle.alt_streams.proofs.Answering.{page-answered}
use Rattle.alt_streams.proofs.list.answer_of_page.Goals as goal
use Rattle.alt_request.specs.TablesStands.{catalog_of}
use Rattle.alt_shape.proofs.Replies.{reply_said}

pub returns-clause-reply : goal.returns-clause-reply
returns-clause-reply c named = reply_said c.listed.result _ _
    (page-answered _ _ _ _ (c.in_ok-page.ensures.streams named) (c.in_ok-page.ensures.more named)
    ∙ (λ i. streams_answer (c.page_length.ensures i)
    (streams_after (c.start_name.ensures i) (c.text_at-name.ensures i)
    (catalog_of c.args.tables.now))))
    c.listed.ensures.reply
