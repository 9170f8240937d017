-- Those so far are made.
use Rattle.std.proofs.Common.{◌≡◌, map, take}
use Rattle.serde_json.specs.View.{view}
use Rattle.alt_codec.specs.Writing.{json_of_pairs}
use Rattle.alt_ops_batch.proofs.replies.items_tree.Given as goal

abbrev pub invariant-loop-item : goal.invariant-loop-item
invariant-loop-item l = map view l.values.items ≡ map json_of_pairs (take l.item-index l.items)
