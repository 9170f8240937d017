-- The first of them are looked up.
use Rattle.std.specs.Vec.Iter.{into_iter_items}
use Rattle.alt_ttl.proofs.Looking.{AreFound}
use Rattle.alt_ttl.proofs.search.find_all.Given as goal

abbrev pub invariant-loop-standing : goal.invariant-loop-standing
invariant-loop-standing g l = AreFound (g.D.Disk.state l.fn.disk) l.fn.tables
    (g.D.Disk.state l.disk) l.tables l.fn.standings.items (into_iter_items l.standing-iterator)
    l.changes.items
