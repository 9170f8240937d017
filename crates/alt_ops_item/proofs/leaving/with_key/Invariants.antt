-- The attributes from `left` on are put.
use Rattle.std.proofs.Common.{◌≡◌, ◌≤◌, length, take}
use Rattle.alt_machine.specs.Ops.UpdateItem.{with_key_attributes}
use Rattle.alt_ops_item.proofs.leaving.with_key.Given as goal

abbrev pub invariant-loop-left : goal.invariant-loop-left
invariant-loop-left l = record {
  within : l.left ≤ length l.key;
  rest : with_key_attributes (take l.left l.key) l.item ≡ with_key_attributes l.key l.fn.item;
}

abbrev pub decreases-loop-left : goal.decreases-loop-left
decreases-loop-left l = l.left
