use Rattle.std.proofs.Common.{◌≡◌, take}
use Rattle.alt_condeval.proofs.copies.copied_operands.Given as goal

abbrev pub invariant-loop-operand : goal.invariant-loop-operand
invariant-loop-operand l = l.list ≡ take l.operand-index l.operands
