-- Each turn adds one edit.
use Rattle.std.proofs.Common.{sym, ap, ◌∙◌, ◌+◌, [], ◌∷◌, map, drop}
use Rattle.alt_expr.specs.Updated.{edits}
use Rattle.std.proofs.lemmas.List.{map-append}
use Rattle.alt_updeval.specs.Shown.{attribute_edit}
use Rattle.alt_updeval.proofs.All.{known, edits_more, begins_more}
use Rattle.alt_updeval.proofs.update.edits.Goals as goal

pub loop-action-preserved : goal.loop-action-preserved
loop-action-preserved g c =
    let item = g.V.AttrView.attribute c.args.view.now in
    let before = c.loop-action.all.items in
    let all = ap (map attribute_edit) c.in_ok-push.ensures.items
    ∙ map-append attribute_edit before (c.in_ok-edit.field-0 ∷ []) in
    record {
      told = edits_more item c.args.actions.now c.loop-action.action-index c.action-item.result
          (map attribute_edit before) (attribute_edit c.in_ok-edit.field-0)
          c.loop-action-test.true c.action-item.is c.in_ok-edit.ensures c.loop-action.invariant.told
          ∙ ap (λ es. known es
          (edits item (drop (c.loop-action.action-index + 1) c.args.actions.now))) (sym all);
      begins = begins_more c.args.actions.now c.loop-action.action-index c.action-item.result
          c.loop-action-test.true c.loop-action.invariant.begins;
    }
