-- The refusal, or that the stream isn't there, or its iterator.
use Rattle.std.proofs.Common.{sym, subst, ◌∙◌, Err}
use Rattle.serde_json.specs.Data.{Members}
use Rattle.serde_json.specs.View.{members_view}
use Rattle.alt_machine.specs.Ops.GetShardIterator.{get_shard_iterator, of_body}
use Rattle.alt_machine.specs.State.{State}
use Rattle.alt_request.specs.Carried.{Carries}
use Rattle.alt_request.specs.declared.stop.Stop.TheVariants.{Refused}
use Rattle.alt_request.proofs.Carrying.{refused_so, said_or_not, untested}
use Rattle.alt_request.proofs.Moving.{moves_stopped, moves_nothing, reply_unfailed, tested_unfailed}
use Rattle.alt_request.proofs.Reaching.{err_is}
use Rattle.alt_streams.proofs.Iterating.{ends, iterator-refused, iterator-on, iterator-said, iterator-trimmed}
use Rattle.alt_streams.proofs.Reaching.{stream_passed, stream_unfailed}
use Rattle.alt_streams.proofs.iterators.get_shard_iterator.Goals as goal
use Rattle.alt_shape.specs.Refusals.{change_records_trimmed}
use Rattle.alt_request.specs.TablesStands.{Stands, bounds_of}

pub returns-in_err-unfit-clause-carried : goal.returns-in_err-unfit-clause-carried
returns-in_err-unfit-clause-carried g c =
    let ms : Members = members_view c.args.body.now.entries in
    let stands : State → Type 0 = Stands (g.D.Disk.state c.args.disk.now) c.args.tables.now in
    subst (Carries (bounds_of c.args.tables.now).file (λ s. get_shard_iterator s ms) stands stands)
    (sym (err_is c.from_residual.result c.in_err-unfit.field-0.0 c.from_residual.ensures))
    (untested (λ s. get_shard_iterator s ms) stands stands
    (of_body ms) c.in_err-unfit.field-0.0 c.in_err-unfit.ensures.tested
    (λ s h r e. iterator-refused s ms r e) (λ s h. h))

pub returns-in_err-schema-clause-carried : goal.returns-in_err-schema-clause-carried
returns-in_err-schema-clause-carried g c =
    let ms : Members = members_view c.args.body.now.entries in
    stream_passed (g.D.Disk.state c.args.disk.now) c.args.tables.now c.arn_in.result.now
    (λ s. get_shard_iterator s ms) (λ s t. ends s ms t)
    (iterator-on ms c.arn_in.result.now c.arn_in.ensures c.in_ok-unfit.ensures.tested)
    (Stands (g.D.Disk.state c.args.disk.now) c.args.tables.now)
    c.from_residual-in_err-schema.result c.in_err-schema.field-0.0
    c.from_residual-in_err-schema.ensures c.in_err-schema.ensures.found (λ s h. h)

pub returns-clause-carried : goal.returns-clause-carried
returns-clause-carried g c =
    let ms : Members = members_view c.args.body.now.entries in
    let stands : State → Type 0 = Stands (g.D.Disk.state c.args.disk.now) c.args.tables.now in
    said_or_not (λ s. get_shard_iterator s ms) stands stands
    c.iterator_reply.result _ c.iterator_reply.ensures.reply
    c.iterator_reply.ensures.plain c.iterator_reply.ensures.cause
    (iterator-said (g.D.Disk.state c.args.disk.now) c.args.tables.now ms c.arn_in.result.now
    c.arn_in.ensures c.in_ok-unfit.ensures.tested c.in_ok-schema.schema.now
    c.in_ok-schema.ensures.found c.starts-from.result
    (λ s next. c.starts-from.ensures.starts s (next ∙ sym c.next_number.ensures.number))
    c.as_str.result.now c.as_str.ensures.same c.trimmed.result c.trimmed.ensures.trimmed
    (sym c.is_trimmed.ensures ∙ c.if-is_trimmed.false))
    (λ s h. h)

pub returns-then-is_trimmed-clause-carried : goal.returns-then-is_trimmed-clause-carried
returns-then-is_trimmed-clause-carried g c =
    let ms : Members = members_view c.args.body.now.entries in
    let stands : State → Type 0 = Stands (g.D.Disk.state c.args.disk.now) c.args.tables.now in
    refused_so (λ s. get_shard_iterator s ms) stands stands change_records_trimmed tt
    (iterator-trimmed (g.D.Disk.state c.args.disk.now) c.args.tables.now ms c.arn_in.result.now
    c.arn_in.ensures c.in_ok-unfit.ensures.tested c.in_ok-schema.schema.now
    c.in_ok-schema.ensures.found c.starts-from.result
    (λ s next. c.starts-from.ensures.starts s (next ∙ sym c.next_number.ensures.number))
    c.as_str.result.now c.as_str.ensures.same c.trimmed.result c.trimmed.ensures.trimmed
    (sym c.is_trimmed.ensures ∙ c.if-is_trimmed.true))
    (λ s h. h)

pub returns-in_err-unfit-clause-moves : goal.returns-in_err-unfit-clause-moves
returns-in_err-unfit-clause-moves g c =
    let ms : Members = members_view c.args.body.now.entries in
    moves_stopped (λ s. get_shard_iterator s ms) c.args.tables.now (g.D.Disk.state c.args.disk.now)
    c.from_residual.result c.in_err-unfit.field-0.0 c.from_residual.ensures
    (tested_unfailed _ (of_body ms) c.in_err-unfit.field-0.0 c.in_err-unfit.ensures.tested)

pub returns-in_err-schema-clause-moves : goal.returns-in_err-schema-clause-moves
returns-in_err-schema-clause-moves g c =
    moves_stopped (λ s. get_shard_iterator s (members_view c.args.body.now.entries))
    c.args.tables.now
    (g.D.Disk.state c.args.disk.now) c.from_residual-in_err-schema.result
    c.in_err-schema.field-0.0 c.from_residual-in_err-schema.ensures
    (stream_unfailed _ c.args.tables.now c.arn_in.result.now c.in_err-schema.field-0.0
    c.in_err-schema.ensures.found)

pub returns-clause-moves : goal.returns-clause-moves
returns-clause-moves g c =
    moves_nothing (λ s. get_shard_iterator s (members_view c.args.body.now.entries))
    c.args.tables.now
    (g.D.Disk.state c.args.disk.now) c.iterator_reply.result
    (reply_unfailed _ c.iterator_reply.result c.iterator_reply.ensures.cause)

pub returns-then-is_trimmed-clause-moves : goal.returns-then-is_trimmed-clause-moves
returns-then-is_trimmed-clause-moves g c =
    moves_nothing (λ s. get_shard_iterator s (members_view c.args.body.now.entries))
    c.args.tables.now (g.D.Disk.state c.args.disk.now) (Err (Refused change_records_trimmed)) tt
