-- One of all gives the member where one of those that are left does.
use Rattle.std.proofs.Common.{◌≡◌}
use Rattle.serde_json.specs.View.{members_view}
use Rattle.alt_machine.specs.Batches.{pairs_in}
use Rattle.alt_machine.specs.Ops.BatchGetItem.{some_give}
use Rattle.alt_ops_batch.proofs.asked_reads.some_give.Given as goal

abbrev pub invariant-loop-value : goal.invariant-loop-value
invariant-loop-value l = some_give l.name (pairs_in (members_view l.tables.entries))
    ≡ some_give l.name (pairs_in (members_view l.value-iterator))
