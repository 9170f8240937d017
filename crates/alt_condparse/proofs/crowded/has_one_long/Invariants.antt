use Rattle.std.proofs.Common.{◌≡◌, drop}
use Rattle.std.specs.List.{list_any}
use Rattle.alt_expr.specs.Crowded.{has_long}
use Rattle.alt_condparse.proofs.crowded.has_one_long.Given as goal

abbrev pub invariant-loop-operand : goal.invariant-loop-operand
invariant-loop-operand l = list_any has_long l.operands
    ≡ list_any has_long (drop l.operand-index l.operands)
