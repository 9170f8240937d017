-- Where what is left is equal, the whole is.
use Rattle.std.proofs.Common.{◌≡◌, drop}
use Rattle.alt_value.proofs.compare.+equal.Given as goal

abbrev pub invariant-same_elements-loop-i : goal.invariant-same_elements-loop-i
invariant-same_elements-loop-i l = drop l.i l.a ≡ drop l.i l.b → l.a ≡ l.b

abbrev pub invariant-item_equal-loop-i : goal.invariant-item_equal-loop-i
invariant-item_equal-loop-i l = drop l.i l.a ≡ drop l.i l.b → l.a ≡ l.b
