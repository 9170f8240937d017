use Rattle.std.proofs.Common.{◌≡◌, drop}
use Rattle.std.specs.List.{list_any}
use Rattle.alt_expr.specs.UpdateLanguage.{is_long_action}
use Rattle.alt_updparse.proofs.crowded.is_crowded.Given as goal

abbrev pub invariant-loop-action : goal.invariant-loop-action
invariant-loop-action l = list_any is_long_action l.actions
    ≡ list_any is_long_action (drop l.action-index l.actions)
