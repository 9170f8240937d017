use Rattle.std.proofs.Common.{◌≡◌, ◌++◌, map, drop}
use Rattle.alt_expr.specs.UpdateLanguage.{target}
use Rattle.alt_updparse.proofs.overlap.targets.Given as goal

abbrev pub invariant-loop-action : goal.invariant-loop-action
invariant-loop-action l = l.targets ++ map target (drop l.action-index l.actions)
    ≡ map target l.actions
