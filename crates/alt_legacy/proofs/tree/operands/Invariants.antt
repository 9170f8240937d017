-- The operands so far, and those of the values that are left.
use Rattle.std.proofs.Common.{◌≡◌, ◌++◌, map}
use Rattle.std.specs.Vec.Iter.{into_iter_items}
use Rattle.alt_legacy.specs.Trees.{given_operand}
use Rattle.alt_legacy.proofs.tree.operands.Given as goal

abbrev pub invariant-loop-value : goal.invariant-loop-value
invariant-loop-value l =
    l.found ++ map given_operand (into_iter_items l.value-iterator) ≡ map given_operand l.fn.values
