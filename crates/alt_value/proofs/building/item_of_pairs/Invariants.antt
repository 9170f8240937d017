-- What was put and what is left give the item of all.
use Rattle.std.proofs.Common.{◌≡◌, [], length, map}
use Rattle.std.specs.List.{All}
use Rattle.std.specs.Vec.Iter.{into_iter_items, into_iter_len}
use Rattle.alt_value.specs.Named.{IsNamed}
use Rattle.alt_value.specs.Item.{with_pairs}
use Rattle.alt_value.specs.Stands.{pair_of}
use Rattle.alt_value.proofs.building.item_of_pairs.Given as goal

abbrev pub invariant-loop-pair : goal.invariant-loop-pair
invariant-loop-pair l = record {
  left : with_pairs (map pair_of (into_iter_items l.pair-iterator)) l.item
      ≡ with_pairs (map pair_of (into_iter_items l.initial.pair-iterator)) [];
  named : All IsNamed (into_iter_items l.pair-iterator);
  count : into_iter_len l.pair-iterator ≡ length (into_iter_items l.pair-iterator);
}
