-- All writes are those so far and those of the tables that are left.
use Rattle.std.proofs.Common.{◌≡◌, ◌++◌}
use Rattle.std.specs.Vec.Iter.{into_iter_items}
use Rattle.alt_ops_batch.specs.private.Ahead.{members_of}
use Rattle.alt_ops_batch.proofs.asked_ahead.members_of.Given as goal

abbrev pub invariant-loop-writes : goal.invariant-loop-writes
invariant-loop-writes l = members_of l.fn.asked.items
    ≡ l.members.items ++ members_of (into_iter_items l.writes-iterator)
