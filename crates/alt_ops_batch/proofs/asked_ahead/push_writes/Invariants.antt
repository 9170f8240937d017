-- All writes stand behind what was there: those so far, and those from here on.
use Rattle.std.proofs.Common.{◌≡◌, ◌++◌, map}
use Rattle.std.specs.Vec.Iter.{into_iter_items}
use Rattle.alt_ops_batch.specs.private.Ahead.{member_of_write}
use Rattle.alt_ops_batch.proofs.asked_ahead.push_writes.Given as goal

abbrev pub invariant-loop-write : goal.invariant-loop-write
invariant-loop-write l = l.members.items
    ++ map (member_of_write l.table) (into_iter_items l.write-iterator)
    ≡ l.fn.members.items ++ map (member_of_write l.table) l.fn.writes.items
