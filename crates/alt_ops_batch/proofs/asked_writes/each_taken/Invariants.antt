-- The first test that applies of all is that of those from here on.
use Rattle.std.proofs.Common.{◌≡◌, drop}
use Rattle.alt_machine.specs.Ops.BatchWriteItem.{of_members}
use Rattle.alt_machine.specs.Refusals.{first_answer}
use Rattle.alt_request.specs.TablesStands.{catalog_of}
use Rattle.alt_ops_batch.proofs.asked_writes.each_taken.Given as goal

abbrev pub invariant-loop-member : goal.invariant-loop-member
invariant-loop-member l = first_answer (of_members (catalog_of l.tables) l.members)
    ≡ first_answer (of_members (catalog_of l.tables) (drop l.member-index l.members))
