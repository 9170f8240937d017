-- The first of the members are looked up.
use Rattle.std.specs.Vec.Iter.{into_iter_items}
use Rattle.alt_ops_batch.proofs.Finding.{AreFound}
use Rattle.alt_ops_batch.proofs.write.find_all.Given as goal

abbrev pub invariant-loop-member : goal.invariant-loop-member
invariant-loop-member g l = AreFound (g.D.Disk.state l.fn.disk) l.fn.tables (g.D.Disk.state l.disk)
    l.tables l.fn.members.items (into_iter_items l.member-iterator) l.changes.items
