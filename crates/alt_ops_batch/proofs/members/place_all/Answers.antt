-- One member more is placed.
use Rattle.std.specs.Vec.Iter.{into_iter_items}
use Rattle.alt_machine.specs.Batches.{each_found, placed}
use Rattle.alt_ops_batch.proofs.Founds.{one_more_found}
use Rattle.alt_request.specs.TablesStands.{catalog_of}
use Rattle.alt_ops_batch.proofs.members.place_all.Goals as goal

pub loop-member-preserved : goal.loop-member-preserved
loop-member-preserved c =
    let step = placed (catalog_of c.args.tables.now) in
    one_more_found step (each_found step c.args.members.items) c.loop-member.there.items
    c.push.new.self.items (into_iter_items c.loop-member.member-iterator)
    (into_iter_items c.next.new.self) c.in-Some.member c.in_ok-place.field-0 c.loop-member.invariant
    c.in-Some.ensures.steps.0 c.in_ok-push.ensures.items c.in_ok-place.ensures.placed
