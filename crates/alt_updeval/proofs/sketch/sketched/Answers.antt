use Rattle.std.proofs.Common.{List, map, subst}
use Rattle.alt_expr.specs.Updated.{edits}
use Rattle.alt_expr.specs.declared.update.Action.{Action}
use Rattle.alt_updeval.specs.Shown.{attribute_edit, AreSketched}
use Rattle.alt_updeval.proofs.Sketches.{sketch_of}
use Rattle.alt_updeval.proofs.sketch.sketched.Goals as goal

pub returns-clause-sketch : goal.returns-clause-sketch
returns-clause-sketch g c =
    let item = g.V.AttrView.attribute c.args.view.now in
    let es = map attribute_edit c.in_ok-all.all.items in
    sketch_of item c.args.update.now es
    (record { changes = c.in_ok-changes.changes; whole = c.in_ok-all.whole })
    (subst (λ (xs : List Action). AreSketched (edits item xs) es c.in_ok-all.whole)
    c.as_slice.ensures.members c.in_ok-all.ensures.edits) c.in_ok-changes.ensures.after
