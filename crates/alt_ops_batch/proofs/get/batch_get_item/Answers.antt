-- The keys are refused, or they are read, and what was read is answered.
use Rattle.std.proofs.Common.{sym, ap, subst, ◌∙◌, Err}
use Rattle.serde_json.specs.Data.{Members}
use Rattle.serde_json.specs.View.{members_view}
use Rattle.alt_disk.specs.Disk.{DiskState}
use Rattle.alt_machine.specs.Ops.BatchGetItem.{batch_get_item, read_answer, reads_asked}
use Rattle.alt_machine.specs.Outcomes.{says}
use Rattle.alt_machine.specs.State.{State}
use Rattle.alt_ops_batch.specs.private.Readings.{read_so}
use Rattle.alt_ops_batch.proofs.Gets.{asked_known, asked_of, get_is, go, read_failed, read_stopped}
use Rattle.alt_ops_batch.proofs.Stopping.{asked_is, asked_passed, asked_unfailed}
use Rattle.alt_request.specs.Carried.{Carries, Moves}
use Rattle.alt_request.proofs.Carrying.{said_or_not}
use Rattle.alt_request.proofs.Moving.{moves_reads, moves_stopped, reply_unfailed}
use Rattle.alt_request.proofs.Reaching.{err_is}
use Rattle.alt_request.proofs.TablesLeft.{reads_nothing}
use Rattle.alt_request.specs.TablesStands.{Stands, catalog_of, bounds_of}
use Rattle.alt_ops_batch.proofs.get.batch_get_item.Goals as goal

pub returns-in_err-asked-clause-carried : goal.returns-in_err-asked-clause-carried
returns-in_err-asked-clause-carried g c =
    let ms : Members = members_view c.args.body.now.entries in
    asked_passed (g.D.Disk.state c.args.disk.now) c.args.tables.now asked_of
    (λ catalog. reads_asked catalog ms) (λ s. batch_get_item s ms) go (get_is ms)
    (Stands (g.D.Disk.state c.args.disk.now) c.args.tables.now) c.from_residual.result
    c.in_err-asked.field-0.0 c.from_residual.ensures c.in_err-asked.ensures.asked
    (λ s stands. stands)

pub returns-in_err-asked-clause-moves : goal.returns-in_err-asked-clause-moves
returns-in_err-asked-clause-moves g c =
    let ms : Members = members_view c.args.body.now.entries in
    moves_stopped (λ s. batch_get_item s ms) c.args.tables.now (g.D.Disk.state c.args.disk.now)
    c.from_residual.result c.in_err-asked.field-0.0 c.from_residual.ensures
    (asked_unfailed _ asked_of (reads_asked (catalog_of c.args.tables.now) ms)
    c.in_err-asked.field-0.0 c.in_err-asked.ensures.asked)

pub read_all-requires-clause-there : goal.read_all-requires-clause-there
read_all-requires-clause-there g c = asked_known (catalog_of c.args.tables.now)
    (members_view c.args.body.now.entries) c.in_ok-asked.asked.items c.in_ok-asked.ensures.asked

pub returns-in_err-read-clause-carried : goal.returns-in_err-read-clause-carried
returns-in_err-read-clause-carried g c =
    let ms : Members = members_view c.args.body.now.entries in
    let now : State → Type 0 = Stands (g.D.Disk.state c.read_all.new.disk) c.read_all.new.tables in
    subst (Carries (bounds_of c.args.tables.now).file (λ s. batch_get_item s ms)
    (Stands (g.D.Disk.state c.args.disk.now) c.args.tables.now) now)
    (sym (err_is c.from_residual-in_err-read.result c.in_err-read.field-0.0
    c.from_residual-in_err-read.ensures))
    (read_stopped (λ s. batch_get_item s ms)
    (Stands (g.D.Disk.state c.args.disk.now) c.args.tables.now) now _ c.in_err-read.field-0.0
    c.in_err-read.ensures.fault c.in_err-read.ensures.failed
    (λ s stands. (c.in_err-read.ensures.only.stays s).0 stands))

pub returns-in_err-read-clause-moves : goal.returns-in_err-read-clause-moves
returns-in_err-read-clause-moves g c =
    let before : DiskState = g.D.Disk.state c.args.disk.now in
    let after : DiskState = g.D.Disk.state c.read_all.new.disk in
    subst (Moves _ _ before after) (sym (err_is c.from_residual-in_err-read.result
    c.in_err-read.field-0.0 c.from_residual-in_err-read.ensures))
    (moves_reads _ c.args.tables.now before after (Err c.in_err-read.field-0.0)
    c.in_err-read.ensures.only.disk (read_failed _ c.in_err-read.field-0.0 c.in_err-read.ensures.failed))

pub returns-clause-carried : goal.returns-clause-carried
returns-clause-carried g c =
    let ms : Members = members_view c.args.body.now.entries in
    said_or_not (λ s. batch_get_item s ms)
    (Stands (g.D.Disk.state c.args.disk.now) c.args.tables.now)
    (Stands (g.D.Disk.state c.read_all.new.disk) c.read_all.new.tables) c.read_reply.result
    (read_answer (read_so c.in_ok-read.read)) c.read_reply.ensures.reply c.read_reply.ensures.plain
    c.read_reply.ensures.cause
    (λ s stands. asked_is (g.D.Disk.state c.args.disk.now) c.args.tables.now
    asked_of (λ catalog. reads_asked catalog ms) (λ s. batch_get_item s ms) go
    (get_is ms) c.in_ok-asked.asked c.in_ok-asked.ensures.asked s stands
    ∙ ap (λ read. says (read_answer read)) (sym (c.in_ok-read.ensures.read s stands)))
    (λ s stands. (c.in_ok-read.ensures.only.stays s).0 stands)

pub returns-clause-moves : goal.returns-clause-moves
returns-clause-moves g c =
    moves_reads _ c.args.tables.now (g.D.Disk.state c.args.disk.now)
    (g.D.Disk.state c.read_all.new.disk) c.read_reply.result c.in_ok-read.ensures.only.disk
    (reply_unfailed _ c.read_reply.result c.read_reply.ensures.cause)

pub returns-in_err-asked-clause-disk : goal.returns-in_err-asked-clause-disk
returns-in_err-asked-clause-disk g c = reads_nothing (g.D.Disk.state c.args.disk.now)
