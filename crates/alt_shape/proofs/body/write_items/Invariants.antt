-- The tokens of the items so far stand behind those that were there.
use Rattle.std.proofs.Common.{◌≡◌, ◌++◌, take}
use Rattle.std.specs.List.{flat_map}
use Rattle.alt_shape.specs.Pieces.{item_tokens}
use Rattle.alt_shape.proofs.body.write_items.Given as goal

abbrev pub invariant-loop-item : goal.invariant-loop-item
invariant-loop-item l = record {
  written : l.out.tokens ≡ l.fn.out.tokens ++ flat_map item_tokens (take l.item-index l.items);
  before : l.out.before ≡ l.fn.out.before;
}
