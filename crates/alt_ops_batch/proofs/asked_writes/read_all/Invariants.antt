-- What is found of all is what is found of those that are left, behind those so far.
use Rattle.std.proofs.Common.{◌≡◌, map}
use Rattle.std.specs.Vec.Iter.{into_iter_items}
use Rattle.alt_machine.specs.Batches.{each_found}
use Rattle.alt_machine.specs.Ops.BatchWriteItem.{read_write}
use Rattle.alt_ops_batch.specs.private.Batches.{requested_write}
use Rattle.alt_ops_batch.proofs.Founds.{behind}
use Rattle.alt_ops_batch.proofs.asked_writes.read_all.Given as goal

abbrev pub invariant-loop-request : goal.invariant-loop-request
invariant-loop-request l = each_found read_write (map requested_write l.fn.requests.items)
    ≡ behind read_write l.read.items (map requested_write (into_iter_items l.request-iterator))
