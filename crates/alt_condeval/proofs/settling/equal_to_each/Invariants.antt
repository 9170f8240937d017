use Rattle.std.proofs.Common.{◌≡◌, map, take}
use Rattle.alt_expr.specs.Holds as spec
use Rattle.alt_expr.specs.Located.{View}
use Rattle.alt_condeval.proofs.settling.equal_to_each.Given as goal

-- Each so far tells whether it is equal.
abbrev pub invariant-loop-operand : goal.invariant-loop-operand
invariant-loop-operand l = (item : View) → map (spec.holds item) l.any
    ≡ map (λ y. spec.equal (spec.denoted item l.a) (spec.denoted item y))
    (take l.operand-index l.operands)
