-- Each step in turn, as the decision has it.
use Rattle.std.proofs.Common.{◌∙◌, sym, ap, subst}
use Rattle.serde_json.specs.Data.{Members}
use Rattle.serde_json.specs.View.{members_view}
use Rattle.alt_machine.specs.Conditional.{failed}
use Rattle.alt_request.specs.private.Decided.{tells, decision, Decides}
use Rattle.alt_request.proofs.Decisions.{met_so, unmet_so, decides_stop, decides_memory, decides_left}
use Rattle.alt_shape.specs.Refusals.{answer_of}
use Rattle.alt_request.proofs.deciding.decide.Goals as goal

pub returns-then-not-meets : goal.returns-then-not-meets
returns-then-not-meets g c =
    let ms : Members = members_view c.args.body.now.entries in record {
      decides = subst (λ d. Decides d c.failed.result)
          (ap (λ o. tells (failed o)) c.asked.ensures.asked
          ∙ sym (unmet_so g.W.ItemWrite.says ms c.args.schema.now c.args.said.now c.args.item
          c.args.old.now c.if-not-meets.ensures.meets))
          c.failed.ensures.decides;
    }

pub returns-in-Err : goal.returns-in-Err
returns-in-Err g c =
    let ms : Members = members_view c.args.body.now.entries in record {
      decides = decides_stop (decision g.W.ItemWrite.says ms c.args.schema.now c.args.said.now
          c.args.item c.args.old.now) _ _
          (met_so g.W.ItemWrite.says ms c.args.schema.now c.args.said.now c.args.item
          c.args.old.now c.if-not-meets.ensures.meets) c.in-Err.stop c.in-Err.ensures.left;
    }

pub returns-in-Ok-reply : goal.returns-in-Ok-reply
returns-in-Ok-reply g c =
    let ms : Members = members_view c.args.body.now.entries in record {
      decides = (
        decides_left (decision g.W.ItemWrite.says ms c.args.schema.now c.args.said.now c.args.item
            c.args.old.now) _ _
            (met_so g.W.ItemWrite.says ms c.args.schema.now c.args.said.now c.args.item
            c.args.old.now c.if-not-meets.ensures.meets) c.in-Ok.new c.in-Ok.ensures.left
            (answer_of c.in-Ok-reply.reply) c.in-Ok-reply.ensures.reply,
        c.in-Ok-reply.ensures.plain,
      );
    }

pub returns-in-Err-reply : goal.returns-in-Err-reply
returns-in-Err-reply g c = record {
  decides = decides_memory _ c.in-Err-reply.stop c.in-Err-reply.ensures.cause;
}
