use Rattle.std.proofs.Common.{◌≡◌, drop, Bool}
use Rattle.std.specs.List.{list_any}
use Rattle.alt_expr.specs.declared.cond.Operand.{Operand}
use Rattle.alt_expr.specs.Holds as spec
use Rattle.alt_condeval.specs.Denoted.{stands_for}
use Rattle.alt_condeval.proofs.compared.is_among.Given as goal

abbrev pub invariant-loop-operand : goal.invariant-loop-operand
invariant-loop-operand g l =
    let is_it : Operand → Bool =
    λ y. spec.equal (stands_for l.a) (spec.denoted (g.V.AttrView.attribute l.view) y) in
    list_any is_it l.operands ≡ list_any is_it (drop l.operand-index l.operands)
