-- The first of the tables are read.
use Rattle.std.specs.Vec.Iter.{into_iter_items}
use Rattle.alt_ops_batch.proofs.Taking.{AreRead}
use Rattle.alt_ops_batch.proofs.reading.read_all.Given as goal

abbrev pub invariant-loop-reads : goal.invariant-loop-reads
invariant-loop-reads g l = AreRead (g.D.Disk.state l.fn.disk) l.fn.tables (g.D.Disk.state l.disk)
    l.tables l.fn.asked.items l.read (into_iter_items l.reads-iterator)
