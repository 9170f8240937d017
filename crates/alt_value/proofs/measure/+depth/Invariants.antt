use Rattle.std.proofs.Common.{◌≡◌, nat_le, drop, map}
use Rattle.alt_value.specs.Stands.{tree_of, pair_of}
use Rattle.alt_value.specs.Tree.{trees_of, fields_of}
use Rattle.alt_value.specs.Size.{elements_depth, fields_depth}
use Rattle.alt_value.proofs.measure.+depth.Given as goal

abbrev pub invariant-elements_within-loop-element : goal.invariant-elements_within-loop-element
invariant-elements_within-loop-element l =
    nat_le (elements_depth (trees_of l.list)) l.most
    ≡ nat_le (elements_depth (trees_of (map tree_of (drop l.element-index l.element-items))))
    l.most

abbrev pub invariant-fields_within-loop-entry : goal.invariant-fields_within-loop-entry
invariant-fields_within-loop-entry l =
    nat_le (fields_depth (fields_of l.map)) l.most
    ≡ nat_le (fields_depth (fields_of (map pair_of (drop l.entry-index l.entry-items)))) l.most
