-- The row of the attributes so far.
use Rattle.std.proofs.Common.{◌≡◌, take}
use Rattle.alt_schema.specs.Indexes.{cut}
use Rattle.alt_views.proofs.rows.projection.cut.Given as goal

abbrev pub invariant-loop-i : goal.invariant-loop-i
invariant-loop-i l = l.row ≡ cut l.s l.index (take l.i l.item)
