-- The edits so far, before those to come.
use Rattle.std.proofs.Common.{map}
use Rattle.alt_updeval.specs.Shown.{attribute_edit}
use Rattle.alt_updeval.proofs.Sketches.{SketchedSoFar}
use Rattle.alt_updeval.proofs.sketch.edits.Given as goal

abbrev pub invariant-loop-action : goal.invariant-loop-action
invariant-loop-action g l = SketchedSoFar (g.V.AttrView.attribute l.view) l.actions l.action-index
    (map attribute_edit l.all.items) l.whole
