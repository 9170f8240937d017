use Rattle.std.proofs.Common.{◌≡◌, drop}
use Rattle.alt_value.specs.Stands.{tree_of}
use Rattle.alt_expr.specs.Located as spec
use Rattle.alt_expr.proofs.locating.part.Given as goal

abbrev pub invariant-loop-step : goal.invariant-loop-step
invariant-loop-step l = spec.part l.steps (tree_of l.value)
    ≡ spec.part (drop l.step-index l.steps) (tree_of l.here)
