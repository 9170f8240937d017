-- All writes are those so far and those of the tables that are left.
use Rattle.std.proofs.Common.{◌≡◌, ◌++◌, map}
use Rattle.serde_json.specs.View.{members_view}
use Rattle.alt_machine.specs.Batches.{elements_in, of_each, pairs_in}
use Rattle.alt_ops_batch.specs.private.Batches.{requested_write}
use Rattle.alt_ops_batch.proofs.asked_writes.requests_in.Given as goal

abbrev pub invariant-loop-name : goal.invariant-loop-name
invariant-loop-name l = of_each elements_in (pairs_in (members_view l.tables.entries))
    ≡ map requested_write l.requests.items ++ of_each elements_in
    (pairs_in (members_view l.name-iterator))
