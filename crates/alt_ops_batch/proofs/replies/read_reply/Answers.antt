-- The reply is whole, or a tree.
use Rattle.std.proofs.Common.{sym, ◌∙◌}
use Rattle.serde_json.specs.Data.{no_members}
use Rattle.serde_json.specs.View.{members_view}
use Rattle.alt_ops_batch.specs.private.Readings.{reply_of, responses_of}
use Rattle.alt_shape.specs.Body.{tables_json}
use Rattle.alt_ops_batch.proofs.replies.read_reply.Goals as goal

pub returns-then-is_whole-clause-reply : goal.returns-then-is_whole-clause-reply
returns-then-is_whole-clause-reply c =
    let whole = c.is_whole.ensures.whole c.if-is_whole.true in
    c.in_ok-whole_reply.ensures.reply
    ∙ (λ i. reply_of (tables_json (sym c.deref.ensures.value i)) no_members)
    ∙ (λ i. reply_of (sym whole.ordered i) (sym whole.empty i))
    ∙ (λ i. reply_of (responses_of no_members (c.deref.ensures.value i))
    (members_view c.args.read.unprocessed.entries))
