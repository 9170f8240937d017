-- What was read so far and what is left give what the whole gives; each level nests once less.
use Rattle.std.proofs.Common.{◌≡◌, ◌+◌, ◌*◌, ◌++◌, [], drop}
use Rattle.serde_json.specs.View.{items_view, members_view}
use Rattle.alt_codec.specs.Reading.{elements_in, fields_in}
use Rattle.alt_codec.specs.Steps.{map_ok}
use Rattle.alt_codec.proofs.reading.+reading.Given as goal

abbrev pub invariant-elements_at-loop-v : goal.invariant-elements_at-loop-v
invariant-elements_at-loop-v l =
    elements_in l.room (items_view l.items) ≡ map_ok (λ ts. l.list ++ ts)
    (elements_in l.room (items_view (drop l.v-index l.items)))

abbrev pub invariant-fields_at-loop-name : goal.invariant-fields_at-loop-name
invariant-fields_at-loop-name l =
    fields_in l.room [] (members_view l.members.entries)
    ≡ fields_in l.room l.item (members_view l.name-iterator)

abbrev pub decreases-elements_at : goal.decreases-elements_at
decreases-elements_at l = 4 * l.room + 4

abbrev pub decreases-fields_at : goal.decreases-fields_at
decreases-fields_at l = 4 * l.room + 4

abbrev pub decreases-value_at : goal.decreases-value_at
decreases-value_at l = 4 * l.room + 3

abbrev pub decreases-payload_at : goal.decreases-payload_at
decreases-payload_at l = 4 * l.room + 2

abbrev pub decreases-list_at : goal.decreases-list_at
decreases-list_at l = 4 * l.room + 1

abbrev pub decreases-map_at : goal.decreases-map_at
decreases-map_at l = 4 * l.room + 1
