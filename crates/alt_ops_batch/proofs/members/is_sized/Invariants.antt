-- The members so far and the room that is left are as many as there may be.
use Rattle.std.proofs.Common.{◌≡◌, ◌+◌, length}
use Rattle.serde_json.specs.View.{members_view}
use Rattle.alt_machine.specs.Batches.{of_each, pairs_in}
use Rattle.alt_ops_batch.specs.private.Batches.{inside_of}
use Rattle.alt_ops_batch.proofs.members.is_sized.Given as goal

abbrev pub invariant-loop-value : goal.invariant-loop-value
invariant-loop-value l =
    length (of_each (inside_of l.inside) (pairs_in (members_view l.tables.entries))) + l.room
    ≡ l.most + length (of_each (inside_of l.inside) (pairs_in (members_view l.value-iterator)))
