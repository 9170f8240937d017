-- The edits so far, before those to come.
use Rattle.std.proofs.Common.{◌≡◌, true, map, drop}
use Rattle.alt_expr.specs.Updated.{edits}
use Rattle.alt_expr.specs.UpdateLanguage.{begin_with_names}
use Rattle.alt_updeval.specs.Shown.{attribute_edit}
use Rattle.alt_updeval.proofs.All.{known}
use Rattle.alt_updeval.proofs.update.edits.Given as goal

abbrev pub invariant-loop-action : goal.invariant-loop-action
invariant-loop-action g l = record {
  told : edits (g.V.AttrView.attribute l.view) l.actions
      ≡ known (map attribute_edit l.all.items)
      (edits (g.V.AttrView.attribute l.view) (drop l.action-index l.actions));
  begins : begin_with_names (drop l.action-index l.actions) ≡ true;
}
