-- What is written, with what is left, is the whole; a list or an item is deeper than what it holds.
use Rattle.std.proofs.Common.{◌≡◌, ◌+◌, ◌*◌, ◌++◌, drop}
use Rattle.alt_value.specs.Size.{depth, elements_depth, fields_depth}
use Rattle.alt_value.specs.Stands.{tree_of}
use Rattle.alt_value.specs.Tree.{trees_of, fields_of}
use Rattle.alt_codec.specs.Writing.{json_of}
use Rattle.alt_codec.proofs.Tokens.{elements_then_end, pairs_then_end}
use Rattle.alt_codec.proofs.text.+text.Given as goal

abbrev pub invariant-write_elements-loop-place : goal.invariant-write_elements-loop-place
invariant-write_elements-loop-place l = record {
  written : l.initial.out.tokens ++ elements_then_end json_of l.list
      ≡ l.out.tokens ++ elements_then_end json_of (drop l.place l.list);
  before : l.out.before ≡ l.initial.out.before;
}

abbrev pub invariant-write_item-loop-place : goal.invariant-write_item-loop-place
invariant-write_item-loop-place l = record {
  written : l.initial.out.tokens ++ pairs_then_end l.item
      ≡ l.out.tokens ++ pairs_then_end (drop l.place l.item);
  before : l.out.before ≡ l.initial.out.before;
}

abbrev pub decreases-write_attr : goal.decreases-write_attr
decreases-write_attr l = 2 * depth (tree_of l.a.now) + 1

abbrev pub decreases-write_elements : goal.decreases-write_elements
decreases-write_elements l = 2 * elements_depth (trees_of l.list.now) + 2

abbrev pub decreases-write_item : goal.decreases-write_item
decreases-write_item l = 2 * fields_depth (fields_of l.item.now) + 2
