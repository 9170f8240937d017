-- What is found of all is what is found of those from here on, behind those so far.
use Rattle.std.proofs.Common.{◌≡◌, drop}
use Rattle.serde_json.specs.View.{items_view}
use Rattle.alt_machine.specs.Batches.{each_found, array_elements}
use Rattle.alt_machine.specs.Ops.BatchGetItem.{read_batch_key}
use Rattle.alt_ops_batch.proofs.Founds.{behind}
use Rattle.alt_ops_batch.proofs.asked_reads.each_key.Given as goal

abbrev pub invariant-loop-element : goal.invariant-loop-element
invariant-loop-element l = each_found (read_batch_key l.name) (array_elements (items_view l.elements))
    ≡ behind (read_batch_key l.name) l.keys.items
    (array_elements (items_view (drop l.element-index l.elements)))
