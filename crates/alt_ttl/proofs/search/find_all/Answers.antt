-- One more is looked up.
use Rattle.std.proofs.Common.{◌≡◌, true, sym, subst, List, ◌∷◌}
use Rattle.std.specs.FinMap as map
use Rattle.std.specs.Vec.Iter.{into_iter_items}
use Rattle.alt_disk.specs.Disk.{DiskState}
use Rattle.alt_machine.specs.declared.Standing.{Standing}
use Rattle.alt_machine.specs.State.{Texts}
use Rattle.alt_schema.specs.declared.schema.TableSchema.{TableSchema}
use Rattle.alt_request.proofs.TablesLooking.{only_then, ready_only}
use Rattle.alt_ttl.proofs.Looking.{AreFound, found_one}
use Rattle.alt_ttl.proofs.search.find_all.Goals as goal

pub find-requires : goal.find-requires
find-requires g c =
    let before : DiskState = g.D.Disk.state c.args.disk.now in
    let mid : DiskState = g.D.Disk.state c.loop-standing.disk in
    let all : List Standing = c.args.standings.items in
    let rest : List Standing = into_iter_items c.next.new.self in
    let so : AreFound before c.args.tables.now mid c.loop-standing.tables all
    (c.in-Some.standing ∷ rest) c.loop-standing.changes.items =
    subst (λ l. AreFound before c.args.tables.now mid c.loop-standing.tables all l
    c.loop-standing.changes.items) c.in-Some.ensures.steps.0 c.loop-standing.invariant in
    record {
      ready = ready_only so.only c.requires.ready;
      there = subst (λ (k : Texts TableSchema). map.contains_key k c.in-Some.standing.table ≡ true)
          (sym so.only.catalog.catalog) so.named.0;
    }

pub loop-standing-preserved : goal.loop-standing-preserved
loop-standing-preserved g c =
    let before : DiskState = g.D.Disk.state c.args.disk.now in
    let mid : DiskState = g.D.Disk.state c.loop-standing.disk in
    let after : DiskState = g.D.Disk.state c.find.new.disk in
    let all : List Standing = c.args.standings.items in
    let rest : List Standing = into_iter_items c.next.new.self in
    let so : AreFound before c.args.tables.now mid c.loop-standing.tables all
    (c.in-Some.standing ∷ rest) c.loop-standing.changes.items =
    subst (λ l. AreFound before c.args.tables.now mid c.loop-standing.tables all l
    c.loop-standing.changes.items) c.in-Some.ensures.steps.0 c.loop-standing.invariant in
    rw c.in_ok-push.ensures.items
    (found_one before mid after c.args.tables.now c.loop-standing.tables
    c.find.new.tables all rest
    c.in-Some.standing c.loop-standing.changes.items c.in_ok-find.field-0 so
    c.in_ok-find.ensures.only c.in_ok-find.ensures.written c.in_ok-find.ensures.found)

pub returns-in_err-find-clause-only : goal.returns-in_err-find-clause-only
returns-in_err-find-clause-only g c = only_then c.loop-standing.invariant.only c.find.ensures.only

pub returns-in_err-push-clause-only : goal.returns-in_err-push-clause-only
returns-in_err-push-clause-only g c = only_then c.loop-standing.invariant.only c.find.ensures.only
