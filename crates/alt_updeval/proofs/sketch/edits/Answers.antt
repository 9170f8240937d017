-- Each turn adds one edit, or what stands in for it.
use Rattle.std.proofs.Common.{sym, ap, subst, ◌∙◌, ◌+◌, Bool, [], ◌∷◌, map}
use Rattle.std.proofs.lemmas.List.{map-append}
use Rattle.alt_updeval.specs.Shown.{attribute_edit}
use Rattle.alt_updeval.proofs.Sketches.{SketchedSoFar, sketched-more}
use Rattle.alt_updeval.proofs.sketch.edits.Goals as goal

pub loop-action-preserved : goal.loop-action-preserved
loop-action-preserved g c =
    let item = g.V.AttrView.attribute c.args.view.now in
    let before = c.loop-action.all.items in
    let now = map attribute_edit c.push.new.self.items in
    let pushed = ap (map attribute_edit) c.in_ok-push.ensures.items
    ∙ map-append attribute_edit before (c.in_ok-edit-2.edit ∷ []) in
    subst (λ (b : Bool). SketchedSoFar item c.args.actions.now
    (c.loop-action.action-index + 1) now b) (sym c.both-whole.ensures)
    (sketched-more item c.args.actions.now c.loop-action.action-index c.action-item.result
    (map attribute_edit before) now (attribute_edit c.in_ok-edit-2.edit) (attribute_edit c.in_ok-edit.field-0)
    c.loop-action.whole c.in_ok-edit-2.same c.loop-action-test.true c.action-item.is
    c.in_ok-edit.ensures c.in_ok-edit-2.ensures.edit c.in_ok-edit-2.ensures.same pushed
    c.loop-action.invariant)
