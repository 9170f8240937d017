-- The members are refused, or they are looked up, and what they leave is written.
use Rattle.std.proofs.Common.{◌≡◌, sym, ap, subst, ◌∙◌, ℕ, List, map, Result, Ok, Err, Vec, Global}
use Rattle.serde_json.specs.Data.{Members}
use Rattle.alt_disk.specs.Disk.{DiskState}
use Rattle.alt_machine.specs.declared.PlacedMember.{PlacedMember}
use Rattle.alt_machine.specs.Ops.BatchWriteItem.{all_processed, batch_write_item, written_by, writes_asked, writes_of_all}
use Rattle.alt_machine.specs.Outcomes.{Outcome, together, writes_together}
use Rattle.alt_machine.specs.State.{State, Texts}
use Rattle.alt_request.proofs.TablesStanding.{file_stays}
use Rattle.alt_request.specs.TablesSeveral.{AreAllApart, Every, MayWrite, written_at}
use Rattle.alt_ops_batch.specs.private.Batches.{AreAsked}
use Rattle.alt_ops_batch.proofs.Asked.{asked_may_write, all_apart}
use Rattle.alt_machine.proofs.Batches.{asked_once}
use Rattle.alt_ops_batch.proofs.Stopping.{asked_is, asked_passed, asked_unfailed}
use Rattle.alt_ops_batch.proofs.Writes.{write_is, go}
use Rattle.alt_ops_batch.proofs.Writing.{batch_broke, batch_wrote}
use Rattle.alt_request.specs.Carried.{Carries, Moves}
use Rattle.alt_request.specs.declared.stop.Stop.{Stop}
use Rattle.alt_request.specs.declared.stop.Stop.TheVariants.{Fault}
use Rattle.alt_request.proofs.Carrying.{faulted_as, unfound}
use Rattle.alt_request.proofs.Moving.{failed_fault, memory_unfailed, moves_reads, moves_stopped, read_wants, writes_move, wanting_fault, unrefused}
use Rattle.alt_request.proofs.Reaching.{err_is}
use Rattle.alt_schema.specs.declared.schema.TableSchema.{TableSchema}
use Rattle.alt_shape.specs.Refusals.{Answer}
use Rattle.alt_request.specs.TablesFaults.{AreAllMade, BreakOffAll}
use Rattle.alt_request.specs.TablesImages.{Leaves}
use Rattle.alt_request.specs.TablesStands.{Stands, catalog_of, bounds_of}
use Rattle.alt_request.specs.TablesDeclaredItemChange.{ItemChange}
use Rattle.alt_request.proofs.TablesLooking.{ready_only}
use Rattle.alt_ops_batch.proofs.write.write_asked.Goals as goal

-- what came of the writes that are asked for is what was handed
then_asked : (catalog : Texts TableSchema) (ms : Members)
    (asked found : Result (Vec PlacedMember Global) Stop) → asked ≡ found
    → AreAsked catalog ms asked → AreAsked catalog ms found
then_asked catalog ms asked found is h = subst (AreAsked catalog ms) is h

-- the members of a list of them
abbrev listed : Vec PlacedMember Global → List PlacedMember
listed v = v.items

pub returns-in_err-members-clause-carried : goal.returns-in_err-members-clause-carried
returns-in_err-members-clause-carried g c = λ ms h.
    asked_passed (g.D.Disk.state c.args.disk.now) c.args.tables.now listed
    (λ catalog. writes_asked catalog ms) (λ s. batch_write_item s c.args.moment ms)
    (go c.args.moment) (write_is c.args.moment ms)
    (Stands (g.D.Disk.state c.args.disk.now) c.args.tables.now) c.from_residual.result
    c.in_err-members.field-0.0 c.from_residual.ensures (then_asked _ ms _ _ c.in_err-members.was h)
    (λ s stands. stands)

pub returns-in_err-members-clause-moves : goal.returns-in_err-members-clause-moves
returns-in_err-members-clause-moves g c = λ ms h.
    moves_stopped (λ s. batch_write_item s c.args.moment ms) c.args.tables.now
    (g.D.Disk.state c.args.disk.now) c.from_residual.result c.in_err-members.field-0.0
    c.from_residual.ensures
    (asked_unfailed _ listed (writes_asked (catalog_of c.args.tables.now) ms)
    c.in_err-members.field-0.0 (then_asked _ ms _ _ c.in_err-members.was h))

pub find_all-requires-clause-may : goal.find_all-requires-clause-may
find_all-requires-clause-may g c =
    let (ms, h) = c.requires.asked in
    asked_may_write (catalog_of c.args.tables.now) ms c.in_ok-members.members.items
    (then_asked _ ms _ _ c.in_ok-members.was h)

pub returns-in_err-changes-clause-carried : goal.returns-in_err-changes-clause-carried
returns-in_err-changes-clause-carried g c = λ ms h.
    let now : State → Type 0 = Stands (g.D.Disk.state c.find_all.new.disk) c.find_all.new.tables in
    subst (Carries (bounds_of c.args.tables.now).file (λ s. batch_write_item s c.args.moment ms)
    (Stands (g.D.Disk.state c.args.disk.now) c.args.tables.now) now)
    (sym (err_is c.from_residual-in_err-changes.result (Fault c.in_err-changes.field-0.0)
    c.from_residual-in_err-changes.ensures))
    (unfound (λ s. batch_write_item s c.args.moment ms)
    (Stands (g.D.Disk.state c.args.disk.now) c.args.tables.now) now c.in_err-changes.field-0.0
    c.in_err-changes.ensures.fails.fault (λ s stands. (c.in_err-changes.ensures.only.stays s).0 stands))

pub returns-in_err-changes-clause-moves : goal.returns-in_err-changes-clause-moves
returns-in_err-changes-clause-moves g c = λ ms h.
    let before : DiskState = g.D.Disk.state c.args.disk.now in
    let after : DiskState = g.D.Disk.state c.find_all.new.disk in
    subst (Moves _ _ before after)
    (sym (err_is c.from_residual-in_err-changes.result (Fault c.in_err-changes.field-0.0)
    c.from_residual-in_err-changes.ensures))
    (moves_reads _ c.args.tables.now before after (Err (Fault c.in_err-changes.field-0.0))
    c.in_err-changes.ensures.only.disk
    (failed_fault c.in_err-changes.field-0.0 _ c.in_err-changes.ensures.fails.cause))

pub returns-in_err-reply-clause-carried : goal.returns-in_err-reply-clause-carried
returns-in_err-reply-clause-carried g c = λ ms h.
    let now : State → Type 0 = Stands (g.D.Disk.state c.find_all.new.disk) c.find_all.new.tables in
    subst (Carries (bounds_of c.args.tables.now).file (λ s. batch_write_item s c.args.moment ms)
    (Stands (g.D.Disk.state c.args.disk.now) c.args.tables.now) now)
    (sym (err_is c.from_residual-in_err-reply.result c.in_err-reply.field-0.0
    c.from_residual-in_err-reply.ensures))
    (faulted_as (λ s. batch_write_item s c.args.moment ms)
    (Stands (g.D.Disk.state c.args.disk.now) c.args.tables.now) now c.in_err-reply.field-0.0
    c.in_err-reply.ensures.cause (λ s stands. (c.in_ok-changes.ensures.only.stays s).0 stands))

pub returns-in_err-reply-clause-moves : goal.returns-in_err-reply-clause-moves
returns-in_err-reply-clause-moves g c = λ ms h.
    let before : DiskState = g.D.Disk.state c.args.disk.now in
    let after : DiskState = g.D.Disk.state c.find_all.new.disk in
    subst (Moves _ _ before after) (sym (err_is c.from_residual-in_err-reply.result
    c.in_err-reply.field-0.0 c.from_residual-in_err-reply.ensures))
    (moves_reads _ c.args.tables.now before after (Err c.in_err-reply.field-0.0)
    c.in_ok-changes.ensures.only.disk
    (memory_unfailed _ c.in_err-reply.field-0.0 c.in_err-reply.ensures.cause))

pub write_all-requires : goal.write_all-requires
write_all-requires g c =
    let (ms, h) = c.requires.asked in
    let there : List PlacedMember = c.in_ok-members.members.items in
    let catalog : Texts TableSchema = catalog_of c.args.tables.now in
    let is = then_asked catalog ms _ _ c.in_ok-members.was h in
    record {
      ready = ready_only c.in_ok-changes.ensures.only c.requires.ready;
      may = subst (λ (k : Texts TableSchema). Every (MayWrite k)
          (map written_at c.in_ok-changes.changes.items))
          (sym c.in_ok-changes.ensures.only.catalog.catalog)
          (subst (Every (MayWrite catalog)) (sym c.in_ok-changes.ensures.written)
          (asked_may_write catalog ms there is));
      apart = subst AreAllApart (sym c.in_ok-changes.ensures.written)
          (all_apart there (asked_once catalog ms there is));
      found = λ s stands. c.in_ok-changes.ensures.found s
          ((c.in_ok-changes.ensures.only.stays s).1 stands);
    }

pub returns-in_err-write_all-clause-carried : goal.returns-in_err-write_all-clause-carried
returns-in_err-write_all-clause-carried g c = λ ms h.
    let now : State → Type 0 =
    Stands (g.D.Disk.state c.write_all.new.disk) c.write_all.new.self in
    subst (Carries (bounds_of c.args.tables.now).file (λ s. batch_write_item s c.args.moment ms)
    (Stands (g.D.Disk.state c.args.disk.now) c.args.tables.now) now)
    (sym (err_is c.from_residual-in_err-write_all.result (Fault c.in_err-write_all.field-0.0)
    c.from_residual-in_err-write_all.ensures))
    (batch_broke (λ s. batch_write_item s c.args.moment ms)
    (Stands (g.D.Disk.state c.args.disk.now) c.args.tables.now) now c.in_err-write_all.field-0.0
    (λ s stands. (
      writes_of_all s c.args.moment (map written_by c.in_ok-members.members.items),
      all_processed,
      asked_is (g.D.Disk.state c.args.disk.now) c.args.tables.now listed
          (λ catalog. writes_asked catalog ms) (λ s. batch_write_item s c.args.moment ms)
          (go c.args.moment) (write_is c.args.moment ms) c.in_ok-members.members
          (then_asked _ ms _ _ c.in_ok-members.was h) s stands,
      stands.valid.next_number.1,
      subst (λ ws. BreakOffAll (bounds_of c.args.tables.now).file now s (writes_of_all s c.args.moment ws)
          c.in_err-write_all.field-0.0) c.in_ok-changes.ensures.written
          (subst (λ (n : ℕ). BreakOffAll n now s
          (writes_of_all s c.args.moment (map written_at c.in_ok-changes.changes.items))
          c.in_err-write_all.field-0.0)
          (file_stays c.args.tables.now c.find_all.new.tables c.in_ok-changes.ensures.only.catalog.limits)
          (c.in_err-write_all.ensures.writes s ((c.in_ok-changes.ensures.only.stays s).0 stands))),
    )))

pub returns-clause-carried : goal.returns-clause-carried
returns-clause-carried g c = λ ms h.
    let now : State → Type 0 =
    Stands (g.D.Disk.state c.write_all.new.disk) c.write_all.new.self in
    batch_wrote (λ s. batch_write_item s c.args.moment ms)
    (Stands (g.D.Disk.state c.args.disk.now) c.args.tables.now) now c.in_ok-reply.reply
    c.in_ok-reply.ensures.plain (λ s stands. (
      writes_of_all s c.args.moment (map written_by c.in_ok-members.members.items),
      asked_is (g.D.Disk.state c.args.disk.now) c.args.tables.now listed
          (λ catalog. writes_asked catalog ms) (λ s. batch_write_item s c.args.moment ms)
          (go c.args.moment) (write_is c.args.moment ms) c.in_ok-members.members
          (then_asked _ ms _ _ c.in_ok-members.was h) s stands
          ∙ ap (writes_together s (writes_of_all s c.args.moment
          (map written_by c.in_ok-members.members.items))) (sym c.in_ok-reply.ensures.reply),
      subst (λ ws. AreAllMade now s (writes_of_all s c.args.moment ws))
          c.in_ok-changes.ensures.written
          (c.in_ok-write_all.ensures.writes s ((c.in_ok-changes.ensures.only.stays s).0 stands)),
    ))

-- what the writes leave is what the one write of the outcome leaves
leaves_by : (read after : DiskState) (s : State) (moment : ℕ) (there : List PlacedMember)
    (cs : List ItemChange) → map written_at cs ≡ map written_by there → (outcome : Outcome)
    → outcome ≡ go moment s there
    → Leaves read after s (together s (writes_of_all s moment (map written_at cs)))
    → Leaves read after s outcome.atoms
leaves_by read after s moment there cs written outcome is leaves =
    subst (λ (o : Outcome). Leaves read after s o.atoms) (sym is)
    (subst (λ ws. Leaves read after s (together s (writes_of_all s moment ws))) written leaves)

pub returns-in_err-write_all-clause-moves : goal.returns-in_err-write_all-clause-moves
returns-in_err-write_all-clause-moves g c = λ ms h.
    let before : DiskState = g.D.Disk.state c.args.disk.now in
    let read : DiskState = g.D.Disk.state c.find_all.new.disk in
    let after : DiskState = g.D.Disk.state c.write_all.new.disk in
    subst (Moves _ _ before after) (sym (err_is c.from_residual-in_err-write_all.result
    (Fault c.in_err-write_all.field-0.0) c.from_residual-in_err-write_all.ensures))
    (writes_move _ _ c.args.tables.now before (λ s stands. stands) read after
    (Err (Fault c.in_err-write_all.field-0.0)) c.in_ok-changes.ensures.only.disk
    c.in_err-write_all.ensures.goes
    (λ s stands. leaves_by read after s c.args.moment c.in_ok-members.members.items
    c.in_ok-changes.changes.items c.in_ok-changes.ensures.written
    (batch_write_item s c.args.moment ms)
    (asked_is before c.args.tables.now listed (λ catalog. writes_asked catalog ms)
    (λ s. batch_write_item s c.args.moment ms) (go c.args.moment) (write_is c.args.moment ms)
    c.in_ok-members.members (then_asked _ ms _ _ c.in_ok-members.was h) s stands)
    (c.in_err-write_all.ensures.disk s ((c.in_ok-changes.ensures.only.stays s).0 stands)))
    tt (failed_fault c.in_err-write_all.field-0.0 _ c.in_err-write_all.ensures.cause)
    (λ s stands. wanting_fault c.in_err-write_all.field-0.0 _ (λ none.
    read_wants read after c.find_all.new.tables s (batch_write_item s c.args.moment ms).wants
    (batch_write_item s c.args.moment ms).atoms (c.in_err-write_all.ensures.no_memory none)
    ((c.in_ok-changes.ensures.only.stays s).0 stands))))

pub returns-clause-moves : goal.returns-clause-moves
returns-clause-moves g c = λ ms h.
    let before : DiskState = g.D.Disk.state c.args.disk.now in
    let read : DiskState = g.D.Disk.state c.find_all.new.disk in
    let after : DiskState = g.D.Disk.state c.write_all.new.disk in
    writes_move _ _ c.args.tables.now before (λ s stands. stands) read after
    (Ok c.in_ok-reply.reply) c.in_ok-changes.ensures.only.disk c.in_ok-write_all.ensures.goes
    (λ s stands. leaves_by read after s c.args.moment c.in_ok-members.members.items
    c.in_ok-changes.changes.items c.in_ok-changes.ensures.written
    (batch_write_item s c.args.moment ms)
    (asked_is before c.args.tables.now listed (λ catalog. writes_asked catalog ms)
    (λ s. batch_write_item s c.args.moment ms) (go c.args.moment) (write_is c.args.moment ms)
    c.in_ok-members.members (then_asked _ ms _ _ c.in_ok-members.was h) s stands)
    (c.in_ok-write_all.ensures.disk s ((c.in_ok-changes.ensures.only.stays s).0 stands)))
    (unrefused c.in_ok-reply.reply _ (ap (λ (a : Answer). a.status) c.in_ok-reply.ensures.reply)) tt
    (λ s stands. tt)
