-- The first of the changes are got ready.
use Rattle.std.specs.Vec.Iter.{into_iter_items}
use Rattle.alt_tables.proofs.Staged.{IsStaging}
use Rattle.alt_tables.proofs.tables.Tables.stage_all.Given as goal

abbrev pub invariant-loop-change : goal.invariant-loop-change
invariant-loop-change g l = IsStaging (g.D.Disk.state l.fn.disk) l.fn.self
    (g.D.Disk.state l.disk) l.self l.fn.moment l.fn.by l.fn.changes.items
    (into_iter_items l.change-iterator) l.staged
