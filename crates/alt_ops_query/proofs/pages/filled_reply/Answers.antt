-- The page is that of each list of which it was filled.
use Rattle.std.proofs.Common.{ap, ◌∙◌, option_map}
use Rattle.serde_json.specs.View.{members_view}
use Rattle.alt_expr.specs.Pages.{examined}
use Rattle.alt_machine.specs.Lists.{page_answer}
use Rattle.alt_machine.specs.Sources.{index_at}
use Rattle.alt_ops_query.proofs.Answering.{answered_by}
use Rattle.alt_ops_query.proofs.Shown.{answer_plain}
use Rattle.alt_ops_query.specs.private.Replied.{machine_page}
use Rattle.alt_shape.specs.Refusals.{Answer, answer_of}
use Rattle.serde_json.specs.Written.{has_float}
use Rattle.alt_ops_query.proofs.pages.filled_reply.Goals as goal

pub returns-in-Ok-clause-reply : goal.returns-in-Ok-clause-reply
returns-in-Ok-clause-reply c ask list filled counts =
    answered_by c.args.schema.now (index_at c.args.schema.now c.args.index)
    (members_view c.args.body.now.entries) ask list c.args.pager filled counts
    c.finish-page.result
    (c.finish-page.ensures.page ask (examined ask.limit list) filled.whole)
    (answer_of c.in-Ok.reply) (c.in-Ok.ensures.reply
    ∙ ap (λ x. page_answer c.args.schema.now x (members_view c.args.body.now.entries)
    (machine_page c.finish-page.result) c.finish-page.result.last) c.index_of.ensures.index)

pub returns-in-Ok-clause-plain : goal.returns-in-Ok-clause-plain
returns-in-Ok-clause-plain c = ap (λ (a : Answer). has_float a.body) c.in-Ok.ensures.reply
    ∙ answer_plain c.args.schema.now (option_map (λ i. i.now) c.index_of.result)
    (members_view c.args.body.now.entries) (machine_page c.finish-page.result) c.finish-page.result.last
