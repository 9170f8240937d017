-- One more is looked up.
use Rattle.std.proofs.Common.{sym, subst, List, ◌∷◌}
use Rattle.std.specs.Vec.Iter.{into_iter_items}
use Rattle.alt_disk.specs.Disk.{DiskState}
use Rattle.alt_machine.specs.declared.PlacedMember.{PlacedMember}
use Rattle.alt_machine.specs.Ops.BatchWriteItem.{written_by}
use Rattle.alt_machine.specs.State.{Texts}
use Rattle.alt_request.specs.TablesSeveral.{MayWrite}
use Rattle.alt_ops_batch.proofs.Finding.{AreFound, found_one}
use Rattle.alt_schema.specs.declared.schema.TableSchema.{TableSchema}
use Rattle.alt_request.proofs.TablesLooking.{only_then, ready_only}
use Rattle.alt_ops_batch.proofs.write.find_all.Goals as goal

pub find-requires : goal.find-requires
find-requires g c =
    let before : DiskState = g.D.Disk.state c.args.disk.now in
    let mid : DiskState = g.D.Disk.state c.loop-member.disk in
    let members : List PlacedMember = c.args.members.items in
    let rest : List PlacedMember = into_iter_items c.next.new.self in
    let so : AreFound before c.args.tables.now mid c.loop-member.tables members
    (c.in-Some.member ∷ rest) c.loop-member.changes.items =
    subst (λ l. AreFound before c.args.tables.now mid c.loop-member.tables members l
    c.loop-member.changes.items) c.in-Some.ensures.steps.0 c.loop-member.invariant in
    record {
      ready = ready_only so.only c.requires.ready;
      may = subst (λ (k : Texts TableSchema). MayWrite k (written_by c.in-Some.member))
          (sym so.only.catalog.catalog) so.may.0;
    }

pub loop-member-preserved : goal.loop-member-preserved
loop-member-preserved g c =
    let before : DiskState = g.D.Disk.state c.args.disk.now in
    let mid : DiskState = g.D.Disk.state c.loop-member.disk in
    let after : DiskState = g.D.Disk.state c.find.new.disk in
    let members : List PlacedMember = c.args.members.items in
    let rest : List PlacedMember = into_iter_items c.next.new.self in
    let so : AreFound before c.args.tables.now mid c.loop-member.tables members
    (c.in-Some.member ∷ rest) c.loop-member.changes.items =
    subst (λ l. AreFound before c.args.tables.now mid c.loop-member.tables members l
    c.loop-member.changes.items) c.in-Some.ensures.steps.0 c.loop-member.invariant in
    rw c.in_ok-push.ensures.items
    (found_one before mid after c.args.tables.now c.loop-member.tables
    c.find.new.tables members rest
    c.in-Some.member c.loop-member.changes.items c.in_ok-find.field-0 so c.in_ok-find.ensures.only
    c.in_ok-find.ensures.written c.in_ok-find.ensures.found)

pub returns-in_err-find-clause-only : goal.returns-in_err-find-clause-only
returns-in_err-find-clause-only g c = only_then c.loop-member.invariant.only c.find.ensures.only

pub returns-in_err-push-clause-only : goal.returns-in_err-push-clause-only
returns-in_err-push-clause-only g c = only_then c.loop-member.invariant.only c.find.ensures.only
