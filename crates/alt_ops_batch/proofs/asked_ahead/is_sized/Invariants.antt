-- The writes so far and the room that is left are as many as there may be.
use Rattle.std.proofs.Common.{◌≡◌, ◌+◌, length, drop}
use Rattle.alt_machine.specs.declared.TheConstants.{MOST_WRITES}
use Rattle.alt_ops_batch.specs.private.Ahead.{members_of}
use Rattle.alt_ops_batch.proofs.asked_ahead.is_sized.Given as goal

abbrev pub invariant-loop-table : goal.invariant-loop-table
invariant-loop-table l = length (members_of l.asked) + l.room
    ≡ MOST_WRITES + length (members_of (drop l.table-index l.asked))
