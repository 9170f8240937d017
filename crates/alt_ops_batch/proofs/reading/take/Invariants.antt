-- The first of the keys are taken.
use Rattle.std.specs.Vec.Iter.{into_iter_items}
use Rattle.alt_ops_batch.proofs.Taking.{AreTaken}
use Rattle.alt_ops_batch.proofs.reading.take.Given as goal

abbrev pub invariant-loop-key : goal.invariant-loop-key
invariant-loop-key g l = AreTaken (g.D.Disk.state l.fn.disk) l.fn.tables (g.D.Disk.state l.disk)
    l.tables l.projection l.fn.size l.fn.keys.items l.taken l.size (into_iter_items l.key-iterator)
