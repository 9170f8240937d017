-- What is found of all is what is found of those that are left, behind those so far.
use Rattle.std.proofs.Common.{◌≡◌, map}
use Rattle.std.specs.Vec.Iter.{into_iter_items}
use Rattle.alt_machine.specs.Batches.{each_found}
use Rattle.alt_machine.specs.Ops.BatchGetItem.{projection_said}
use Rattle.alt_request.specs.TablesStands.{catalog_of}
use Rattle.alt_ops_batch.specs.private.Batches.{keys_read, keys_said}
use Rattle.alt_ops_batch.proofs.Founds.{behind}
use Rattle.alt_ops_batch.proofs.asked_reads.said_all.Given as goal

abbrev pub invariant-loop-keys : goal.invariant-loop-keys
invariant-loop-keys l = each_found (projection_said (catalog_of l.tables)) (map keys_read l.fn.read.items)
    ≡ behind (projection_said (catalog_of l.tables)) (map keys_said l.said.items)
    (map keys_read (into_iter_items l.keys-iterator))
