-- All elements stand behind what was there: those so far, and those from here on.
use Rattle.std.proofs.Common.{◌≡◌, ◌++◌, map, drop}
use Rattle.serde_json.specs.View.{items_view}
use Rattle.alt_machine.specs.Batches.{array_elements}
use Rattle.alt_ops_batch.specs.private.Batches.{requested_write}
use Rattle.alt_ops_batch.proofs.asked_writes.push_requests.Given as goal

abbrev pub invariant-loop-value : goal.invariant-loop-value
invariant-loop-value l = map requested_write l.requests.items
    ++ map (λ d. (l.table, d)) (array_elements (items_view (drop l.value-index l.elements)))
    ≡ map requested_write l.fn.requests.items ++ map (λ d. (l.table, d))
    (array_elements (items_view l.elements))
