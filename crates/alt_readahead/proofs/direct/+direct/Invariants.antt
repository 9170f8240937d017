-- What was read so far, and the tokens behind it; each level of JSON nests once less.
use Rattle.std.proofs.Common.{◌+◌, ◌*◌, length}
use Rattle.alt_codec.specs.Reading.{value_in}
use Rattle.alt_readahead.proofs.Loops.{ElementsSoFar, FieldsSoFar}
use Rattle.alt_readahead.proofs.direct.+direct.Given as goal

abbrev pub invariant-elements_at-elements : goal.invariant-elements_at-elements
invariant-elements_at-elements l =
    ElementsSoFar (value_in l.room) l.depth l.initial.reader l.reader l.elements

abbrev pub decreases-elements_at-elements : goal.decreases-elements_at-elements
decreases-elements_at-elements l = length l.reader

abbrev pub invariant-fields_at-fields : goal.invariant-fields_at-fields
invariant-fields_at-fields l = FieldsSoFar l.depth l.room l.initial.reader l.reader l.item

abbrev pub decreases-fields_at-fields : goal.decreases-fields_at-fields
decreases-fields_at-fields l = length l.reader

abbrev pub decreases-value_at : goal.decreases-value_at
decreases-value_at l = 3 * l.depth

abbrev pub decreases-payload_at : goal.decreases-payload_at
decreases-payload_at l = 3 * l.depth + 2

abbrev pub decreases-list_at : goal.decreases-list_at
decreases-list_at l = 3 * l.depth + 1

abbrev pub decreases-elements_at : goal.decreases-elements_at
decreases-elements_at l = 3 * l.depth + 1

abbrev pub decreases-map_at : goal.decreases-map_at
decreases-map_at l = 3 * l.depth + 1

abbrev pub decreases-fields_at : goal.decreases-fields_at
decreases-fields_at l = 3 * l.depth + 1
