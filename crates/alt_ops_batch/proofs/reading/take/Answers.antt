-- One more key is taken.
use Rattle.std.proofs.Common.{List, ◌∷◌, subst, arith}
use Rattle.std.specs.Vec.Iter.{into_iter_items}
use Rattle.std.proofs.lemmas.List.{nil_from_length}
use Rattle.alt_disk.specs.Disk.{DiskState}
use Rattle.alt_machine.specs.declared.PlacedMember.{PlacedMember}
use Rattle.alt_ops_batch.proofs.Taking.{AreTaken, taken_more, all_taken}
use Rattle.alt_request.proofs.TablesLooking.{only_then, ready_only}
use Rattle.alt_ops_batch.proofs.reading.take.Goals as goal

pub take_key-requires-clause-ready : goal.take_key-requires-clause-ready
take_key-requires-clause-ready g c = ready_only c.loop-key.invariant.only c.requires.ready

pub returns-in_err-take_key-clause-only : goal.returns-in_err-take_key-clause-only
returns-in_err-take_key-clause-only g c =
    only_then c.loop-key.invariant.only c.take_key.ensures.only

pub loop-key-preserved : goal.loop-key-preserved
loop-key-preserved g c =
    let before : DiskState = g.D.Disk.state c.args.disk.now in
    let mid : DiskState = g.D.Disk.state c.loop-key.disk in
    let after : DiskState = g.D.Disk.state c.take_key.new.disk in
    let keys : List PlacedMember = c.args.keys.items in
    let rest : List PlacedMember = into_iter_items c.next.new.self in
    let so : AreTaken before c.args.tables.now mid c.loop-key.tables c.args.projection.now
    c.args.size.now keys c.loop-key.taken c.loop-key.size (c.in-Some.key ∷ rest) =
    subst (AreTaken before c.args.tables.now mid c.loop-key.tables c.args.projection.now
    c.args.size.now keys c.loop-key.taken c.loop-key.size) c.in-Some.ensures.steps.0
    c.loop-key.invariant in
    taken_more before mid after c.args.tables.now c.loop-key.tables c.take_key.new.tables
    c.args.projection.now c.args.size.now keys c.loop-key.taken c.take_key.new.taken c.loop-key.size
    c.take_key.new.size c.in-Some.key rest so
    c.in_ok-take_key.ensures.only c.in_ok-take_key.ensures.bounded c.in_ok-take_key.ensures.plain
    c.in_ok-take_key.ensures.takes

pub returns-clause-taken : goal.returns-clause-taken
returns-clause-taken g c s stands =
    all_taken s c.args.projection.now c.args.size.now c.args.keys.items c.loop-key.taken
    c.loop-key.size
    ((subst (AreTaken (g.D.Disk.state c.args.disk.now) c.args.tables.now
    (g.D.Disk.state c.loop-key.disk) c.loop-key.tables c.args.projection.now c.args.size.now
    c.args.keys.items c.loop-key.taken c.loop-key.size)
    (nil_from_length (into_iter_items c.loop-key.key-iterator)
    (omega (arith, c.loop-key.key-iterator.rest.ok, c.in-None.ensures.steps.0)))
    c.loop-key.invariant).so s stands)
