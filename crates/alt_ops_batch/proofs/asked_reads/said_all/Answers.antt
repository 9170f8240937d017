-- What one projection more says.
use Rattle.std.proofs.Common.{ap, map}
use Rattle.std.specs.Vec.Iter.{into_iter_items}
use Rattle.alt_machine.specs.Batches.{each_found}
use Rattle.alt_machine.specs.Ops.BatchGetItem.{projection_said}
use Rattle.alt_ops_batch.specs.private.Batches.{keys_read, keys_said}
use Rattle.alt_ops_batch.proofs.Founds.{one_more_seen}
use Rattle.alt_request.specs.TablesStands.{catalog_of}
use Rattle.alt_ops_batch.proofs.asked_reads.said_all.Goals as goal

pub loop-keys-preserved : goal.loop-keys-preserved
loop-keys-preserved c =
    let catalog = catalog_of c.args.tables.now in
    one_more_seen (projection_said catalog) keys_said
    (each_found (projection_said catalog) (map keys_read c.args.read.items)) c.loop-keys.said.items
    c.push.new.self.items (map keys_read (into_iter_items c.loop-keys.keys-iterator))
    (map keys_read (into_iter_items c.next.new.self)) (keys_read c.in-Some.keys)
    c.in_ok-said_in.field-0 c.loop-keys.invariant (ap (map keys_read) c.in-Some.ensures.steps.0)
    c.in_ok-push.ensures.items c.in_ok-said_in.ensures.said
