-- The names so far are changed as the edits say, and no other is; each has one change, in their order.
use Rattle.std.proofs.Common.{map}
use Rattle.alt_updeval.specs.Shown.{attribute_edit}
use Rattle.alt_updeval.proofs.All.{ChangesSoFar}
use Rattle.alt_updeval.proofs.update.changes.Given as goal

abbrev pub invariant-loop-name : goal.invariant-loop-name
invariant-loop-name g l = ChangesSoFar (g.V.AttrView.attribute l.view)
    (map attribute_edit l.fn.all.items) l.yielded l.list.items
