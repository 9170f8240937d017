-- What has expired is looked up, and deleted.
use Rattle.std.proofs.Common.{sym, ap, subst, ◌∙◌, ℕ, map, Ok, Err}
use Rattle.std.specs.Prelude.{codes}
use Rattle.serde_json.specs.Data.{number, unsigned}
use Rattle.alt_codec.specs.declared.writer.Writer.TheVariants.{Expiry}
use Rattle.alt_disk.specs.Disk.{DiskState}
use Rattle.alt_machine.specs.Expiry.{deletions}
use Rattle.alt_machine.specs.Ops.BatchWriteItem.{writes_of_all_by}
use Rattle.alt_machine.specs.Ops.ExpireItems.{expire_items, expired}
use Rattle.alt_machine.specs.Outcomes.{writes_together}
use Rattle.alt_machine.specs.Replies.{answers}
use Rattle.alt_machine.specs.State.{State, Texts}
use Rattle.alt_request.proofs.TablesLooking.{ready_only}
use Rattle.alt_request.proofs.TablesStanding.{file_stays}
use Rattle.alt_request.specs.TablesSeveral.{Every, MayWrite, written_at}
use Rattle.alt_ops_batch.proofs.Writing.{batch_broke, batch_wrote}
use Rattle.alt_request.specs.Carried.{Carries, Moves}
use Rattle.alt_request.specs.declared.stop.Stop.TheVariants.{Fault}
use Rattle.alt_request.proofs.Carrying.{faulted_as, unfound}
use Rattle.alt_request.proofs.Moving.{failed_fault, memory_unfailed, moves_reads, read_wants, writes_move, wanting_fault, unrefused}
use Rattle.alt_request.proofs.Reaching.{err_is}
use Rattle.alt_schema.specs.declared.schema.TableSchema.{TableSchema}
use Rattle.alt_shape.specs.Refusals.{Answer}
use Rattle.alt_request.specs.TablesFaults.{AreAllMade, BreakOffAll}
use Rattle.alt_request.specs.TablesStands.{Stands, bounds_of}
use Rattle.alt_ttl.proofs.Deleting.{answered_is, deletions_are, expire_is, leaves_is}
use Rattle.alt_ttl.proofs.expiry.expire_items.Goals as goal

pub returns-in_err-changes-clause-carried : goal.returns-in_err-changes-clause-carried
returns-in_err-changes-clause-carried g c =
    let now : State → Type 0 = Stands (g.D.Disk.state c.deletions.new.disk) c.deletions.new.tables in
    subst (Carries (bounds_of c.args.tables.now).file (λ s. expire_items s c.args.moment)
    (Stands (g.D.Disk.state c.args.disk.now) c.args.tables.now) now)
    (sym (err_is c.from_residual.result (Fault c.in_err-changes.field-0.0)
    c.from_residual.ensures))
    (unfound (λ s. expire_items s c.args.moment)
    (Stands (g.D.Disk.state c.args.disk.now) c.args.tables.now) now c.in_err-changes.field-0.0
    c.in_err-changes.ensures.fails.fault (λ s stands. (c.in_err-changes.ensures.only.stays s).0 stands))

pub returns-in_err-changes-clause-moves : goal.returns-in_err-changes-clause-moves
returns-in_err-changes-clause-moves g c =
    let before : DiskState = g.D.Disk.state c.args.disk.now in
    let after : DiskState = g.D.Disk.state c.deletions.new.disk in
    subst (Moves _ _ before after)
    (sym (err_is c.from_residual.result (Fault c.in_err-changes.field-0.0)
    c.from_residual.ensures))
    (moves_reads _ c.args.tables.now before after (Err (Fault c.in_err-changes.field-0.0))
    c.in_err-changes.ensures.only.disk
    (failed_fault c.in_err-changes.field-0.0 _ c.in_err-changes.ensures.fails.cause))

pub returns-in_err-reply-clause-carried : goal.returns-in_err-reply-clause-carried
returns-in_err-reply-clause-carried g c =
    let now : State → Type 0 = Stands (g.D.Disk.state c.deletions.new.disk) c.deletions.new.tables in
    subst (Carries (bounds_of c.args.tables.now).file (λ s. expire_items s c.args.moment)
    (Stands (g.D.Disk.state c.args.disk.now) c.args.tables.now) now)
    (sym (err_is c.from_residual-in_err-reply.result c.in_err-reply.field-0.0
    c.from_residual-in_err-reply.ensures))
    (faulted_as (λ s. expire_items s c.args.moment)
    (Stands (g.D.Disk.state c.args.disk.now) c.args.tables.now) now c.in_err-reply.field-0.0
    c.in_err-reply.ensures.cause (λ s stands. (c.in_ok-changes.ensures.only.stays s).0 stands))

pub returns-in_err-reply-clause-moves : goal.returns-in_err-reply-clause-moves
returns-in_err-reply-clause-moves g c =
    let before : DiskState = g.D.Disk.state c.args.disk.now in
    let after : DiskState = g.D.Disk.state c.deletions.new.disk in
    subst (Moves _ _ before after) (sym (err_is c.from_residual-in_err-reply.result
    c.in_err-reply.field-0.0 c.from_residual-in_err-reply.ensures))
    (moves_reads _ c.args.tables.now before after (Err c.in_err-reply.field-0.0)
    c.in_ok-changes.ensures.only.disk
    (memory_unfailed _ c.in_err-reply.field-0.0 c.in_err-reply.ensures.cause))

pub write_all-requires : goal.write_all-requires
write_all-requires g c = record {
  ready = ready_only c.in_ok-changes.ensures.only c.requires.ready;
  may = subst (λ (k : Texts TableSchema). Every (MayWrite k)
      (map written_at c.in_ok-changes.changes.items))
      (sym c.in_ok-changes.ensures.only.catalog.catalog) c.in_ok-changes.ensures.may;
  apart = c.in_ok-changes.ensures.apart;
  found = λ s stands. c.in_ok-changes.ensures.found s
      ((c.in_ok-changes.ensures.only.stays s).1 stands);
}

pub returns-in_err-write_all-clause-carried : goal.returns-in_err-write_all-clause-carried
returns-in_err-write_all-clause-carried g c =
    let now : State → Type 0 =
    Stands (g.D.Disk.state c.write_all.new.disk) c.write_all.new.self in
    subst (Carries (bounds_of c.args.tables.now).file (λ s. expire_items s c.args.moment)
    (Stands (g.D.Disk.state c.args.disk.now) c.args.tables.now) now)
    (sym (err_is c.from_residual-in_err-write_all.result (Fault c.in_err-write_all.field-0.0)
    c.from_residual-in_err-write_all.ensures))
    (batch_broke (λ s. expire_items s c.args.moment)
    (Stands (g.D.Disk.state c.args.disk.now) c.args.tables.now) now c.in_err-write_all.field-0.0
    (λ s stands. (
      deletions s c.args.moment,
      expired s c.args.moment,
      expire_is s c.args.moment,
      stands.valid.next_number.1,
      subst (λ ws. BreakOffAll (bounds_of c.args.tables.now).file now s ws
          c.in_err-write_all.field-0.0)
          (deletions_are s c.args.moment c.in_ok-changes.changes.items
          (c.in_ok-changes.ensures.written s stands))
          (subst (λ (n : ℕ). BreakOffAll n now s
          (writes_of_all_by s c.args.moment Expiry (map written_at c.in_ok-changes.changes.items))
          c.in_err-write_all.field-0.0)
          (file_stays c.args.tables.now c.deletions.new.tables c.in_ok-changes.ensures.only.catalog.limits)
          (c.in_err-write_all.ensures.writes s ((c.in_ok-changes.ensures.only.stays s).0 stands))),
    )))

pub returns-clause-carried : goal.returns-clause-carried
returns-clause-carried g c =
    let now : State → Type 0 =
    Stands (g.D.Disk.state c.write_all.new.disk) c.write_all.new.self in
    batch_wrote (λ s. expire_items s c.args.moment)
    (Stands (g.D.Disk.state c.args.disk.now) c.args.tables.now) now c.in_ok-reply.reply
    c.in_ok-reply.ensures.plain (λ s stands. (
      deletions s c.args.moment,
      expire_is s c.args.moment
          ∙ ap (writes_together s (deletions s c.args.moment))
          (sym (c.in_ok-reply.ensures.reply
          ∙ ap (λ (n : ℕ). answers (codes "Expired") (number (unsigned n)))
          (c.len.ensures ∙ c.in_ok-changes.changes.ok.0)
          ∙ answered_is s c.args.moment c.in_ok-changes.changes.items
          (c.in_ok-changes.ensures.written s stands))),
      subst (λ ws. AreAllMade now s ws)
          (deletions_are s c.args.moment c.in_ok-changes.changes.items
          (c.in_ok-changes.ensures.written s stands))
          (c.in_ok-write_all.ensures.writes s ((c.in_ok-changes.ensures.only.stays s).0 stands)),
    ))

pub returns-in_err-write_all-clause-moves : goal.returns-in_err-write_all-clause-moves
returns-in_err-write_all-clause-moves g c =
    let before : DiskState = g.D.Disk.state c.args.disk.now in
    let read : DiskState = g.D.Disk.state c.deletions.new.disk in
    let after : DiskState = g.D.Disk.state c.write_all.new.disk in
    subst (Moves _ _ before after) (sym (err_is c.from_residual-in_err-write_all.result
    (Fault c.in_err-write_all.field-0.0) c.from_residual-in_err-write_all.ensures))
    (writes_move _ _ c.args.tables.now before (λ s stands. stands) read after
    (Err (Fault c.in_err-write_all.field-0.0)) c.in_ok-changes.ensures.only.disk
    c.in_err-write_all.ensures.goes
    (λ s stands. leaves_is s c.args.moment c.in_ok-changes.changes.items
    (c.in_ok-changes.ensures.written s stands) read after
    (c.in_err-write_all.ensures.disk s ((c.in_ok-changes.ensures.only.stays s).0 stands)))
    tt (failed_fault c.in_err-write_all.field-0.0 _ c.in_err-write_all.ensures.cause)
    (λ s stands. wanting_fault c.in_err-write_all.field-0.0 _ (λ none.
    read_wants read after c.deletions.new.tables s (expire_items s c.args.moment).wants
    (expire_items s c.args.moment).atoms (c.in_err-write_all.ensures.no_memory none)
    ((c.in_ok-changes.ensures.only.stays s).0 stands))))

pub returns-clause-moves : goal.returns-clause-moves
returns-clause-moves g c =
    let before : DiskState = g.D.Disk.state c.args.disk.now in
    let read : DiskState = g.D.Disk.state c.deletions.new.disk in
    let after : DiskState = g.D.Disk.state c.write_all.new.disk in
    writes_move _ _ c.args.tables.now before (λ s stands. stands) read after
    (Ok c.in_ok-reply.reply) c.in_ok-changes.ensures.only.disk c.in_ok-write_all.ensures.goes
    (λ s stands. leaves_is s c.args.moment c.in_ok-changes.changes.items
    (c.in_ok-changes.ensures.written s stands) read after
    (c.in_ok-write_all.ensures.disk s ((c.in_ok-changes.ensures.only.stays s).0 stands)))
    (unrefused c.in_ok-reply.reply _ (ap (λ (a : Answer). a.status) c.in_ok-reply.ensures.reply)) tt
    (λ s stands. tt)
