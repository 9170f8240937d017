-- The refusal, or that the stream isn't there, or its description.
use Rattle.std.proofs.Common.{sym, ap, subst, ◌∙◌}
use Rattle.serde_json.specs.Data.{Members}
use Rattle.serde_json.specs.View.{members_view}
use Rattle.alt_machine.specs.Ops.DescribeStream.{of_body, described, describe_stream}
use Rattle.alt_machine.specs.Outcomes.{says}
use Rattle.alt_machine.specs.State.{State}
use Rattle.alt_request.specs.Carried.{Carries}
use Rattle.alt_request.proofs.Carrying.{said_or_not, untested}
use Rattle.alt_request.proofs.Moving.{moves_stopped, moves_nothing, reply_unfailed, tested_unfailed}
use Rattle.alt_request.proofs.Reaching.{err_is}
use Rattle.alt_schema.specs.declared.schema.TableSchema.{TableSchema}
use Rattle.alt_streams.proofs.Describing.{describe-refused, describe-on}
use Rattle.alt_streams.proofs.Reaching.{stream_passed, stream_reached, stream_unfailed}
use Rattle.alt_streams.proofs.describe.describe_stream.Goals as goal
use Rattle.alt_request.specs.TablesStands.{Stands, bounds_of}

pub returns-in_err-unfit-clause-carried : goal.returns-in_err-unfit-clause-carried
returns-in_err-unfit-clause-carried g c =
    let ms : Members = members_view c.args.body.now.entries in
    let stands : State → Type 0 = Stands (g.D.Disk.state c.args.disk.now) c.args.tables.now in
    subst (Carries (bounds_of c.args.tables.now).file (λ s. describe_stream s ms) stands stands)
    (sym (err_is c.from_residual.result c.in_err-unfit.field-0.0 c.from_residual.ensures))
    (untested (λ s. describe_stream s ms) stands stands
    (of_body ms) c.in_err-unfit.field-0.0 c.in_err-unfit.ensures.tested
    (λ s h r e. describe-refused s ms r e) (λ s h. h))

pub returns-in_err-schema-clause-carried : goal.returns-in_err-schema-clause-carried
returns-in_err-schema-clause-carried g c =
    let ms : Members = members_view c.args.body.now.entries in
    stream_passed (g.D.Disk.state c.args.disk.now) c.args.tables.now c.arn_in.result.now
    (λ s. describe_stream s ms) (λ s t. says (described t.description ms))
    (describe-on ms c.arn_in.result.now c.arn_in.ensures c.in_ok-unfit.ensures.tested)
    (Stands (g.D.Disk.state c.args.disk.now) c.args.tables.now)
    c.from_residual-in_err-schema.result c.in_err-schema.field-0.0
    c.from_residual-in_err-schema.ensures c.in_err-schema.ensures.found (λ s h. h)

pub returns-clause-carried : goal.returns-clause-carried
returns-clause-carried g c =
    let ms : Members = members_view c.args.body.now.entries in
    let stands : State → Type 0 = Stands (g.D.Disk.state c.args.disk.now) c.args.tables.now in
    said_or_not (λ s. describe_stream s ms) stands stands
    c.described.result (described c.in_ok-schema.schema.now ms) c.described.ensures.reply
    c.described.ensures.plain c.described.ensures.cause (λ s h.
    let at = stream_reached (g.D.Disk.state c.args.disk.now) c.args.tables.now c.arn_in.result.now
    (λ s. describe_stream s ms) (λ s t. says (described t.description ms))
    (describe-on ms c.arn_in.result.now c.arn_in.ensures c.in_ok-unfit.ensures.tested)
    c.in_ok-schema.schema c.in_ok-schema.ensures.found s h in
    at.2 ∙ ap (λ (d : TableSchema). says (described d ms)) at.1) (λ s h. h)

pub returns-in_err-unfit-clause-moves : goal.returns-in_err-unfit-clause-moves
returns-in_err-unfit-clause-moves g c =
    let ms : Members = members_view c.args.body.now.entries in
    moves_stopped (λ s. describe_stream s ms) c.args.tables.now (g.D.Disk.state c.args.disk.now)
    c.from_residual.result c.in_err-unfit.field-0.0 c.from_residual.ensures
    (tested_unfailed _ (of_body ms) c.in_err-unfit.field-0.0 c.in_err-unfit.ensures.tested)

pub returns-in_err-schema-clause-moves : goal.returns-in_err-schema-clause-moves
returns-in_err-schema-clause-moves g c =
    moves_stopped (λ s. describe_stream s (members_view c.args.body.now.entries)) c.args.tables.now
    (g.D.Disk.state c.args.disk.now) c.from_residual-in_err-schema.result
    c.in_err-schema.field-0.0 c.from_residual-in_err-schema.ensures
    (stream_unfailed _ c.args.tables.now c.arn_in.result.now c.in_err-schema.field-0.0
    c.in_err-schema.ensures.found)

pub returns-clause-moves : goal.returns-clause-moves
returns-clause-moves g c =
    moves_nothing (λ s. describe_stream s (members_view c.args.body.now.entries)) c.args.tables.now
    (g.D.Disk.state c.args.disk.now) c.described.result
    (reply_unfailed _ c.described.result c.described.ensures.cause)
