-- What was read so far and what is left give what the whole gives.
use Rattle.std.proofs.Common.{◌≡◌, ◌++◌, drop}
use Rattle.serde_json.specs.View.{items_view}
use Rattle.alt_codec.specs.Scalars.{text_in}
use Rattle.alt_codec.specs.Sets.{sound, first_fault}
use Rattle.alt_codec.proofs.sets.texts_of.Given as goal

abbrev pub invariant-loop-item : goal.invariant-loop-item
invariant-loop-item l = record {
  members : sound text_in (items_view l.items)
      ≡ l.texts.items ++ sound text_in (items_view (drop l.item-index l.items));
  fault : first_fault text_in (items_view l.items)
      ≡ first_fault text_in (items_view (drop l.item-index l.items));
}
