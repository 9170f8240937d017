use Rattle.std.proofs.Common.{◌≡◌, drop, map}
use Rattle.alt_value.specs.Stands.{tree_of, pair_of}
use Rattle.alt_value.specs.Tree.{trees_of, fields_of}
use Rattle.alt_value.specs.Size.{elements_size, fields_size, left_after}
use Rattle.alt_value.proofs.measure.+size.Given as goal

abbrev pub invariant-left_of_elements-loop-element : goal.invariant-left_of_elements-loop-element
invariant-left_of_elements-loop-element l =
    left_after l.initial.left (elements_size (trees_of l.list))
    ≡ left_after l.left (elements_size (trees_of
    (map tree_of (drop l.element-index l.element-items))))

abbrev pub invariant-left_of_fields-loop-entry : goal.invariant-left_of_fields-loop-entry
invariant-left_of_fields-loop-entry l =
    left_after l.initial.left (fields_size (fields_of l.map))
    ≡ left_after l.left (fields_size (fields_of
    (map pair_of (drop l.entry-index l.entry-items))))
