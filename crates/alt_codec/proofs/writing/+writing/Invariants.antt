-- What stands before the place is written; a list or an item is deeper than what stands in it.
use Rattle.std.proofs.Common.{◌≡◌, ◌+◌, ◌*◌, map, take}
use Rattle.serde_json.specs.View.{view, members_view}
use Rattle.alt_value.specs.Size.{depth, elements_depth, fields_depth}
use Rattle.alt_value.specs.Stands.{tree_of}
use Rattle.alt_value.specs.Tree.{trees_of, fields_of}
use Rattle.alt_codec.specs.Returning.{Returns, Each}
use Rattle.alt_codec.specs.Writing.{json_of, json_members}
use Rattle.alt_codec.proofs.writing.+writing.Given as goal

abbrev pub invariant-json_of_elements-loop-place : goal.invariant-json_of_elements-loop-place
invariant-json_of_elements-loop-place l = record {
  written : map view l.values.items ≡ map json_of (take l.place l.list);
  returns : Each Returns (take l.place l.list);
}

abbrev pub invariant-json_of_members-loop-place : goal.invariant-json_of_members-loop-place
invariant-json_of_members-loop-place l = record {
  written : members_view l.members.entries ≡ json_members (fields_of (take l.place l.i));
  returns : Each (λ p. Returns p.1) (take l.place l.i);
}

abbrev pub decreases-json_of_value : goal.decreases-json_of_value
decreases-json_of_value l = 2 * depth (tree_of l.a.now) + 1

abbrev pub decreases-json_of_elements : goal.decreases-json_of_elements
decreases-json_of_elements l = 2 * elements_depth (trees_of l.list.now) + 2

abbrev pub decreases-json_of_members : goal.decreases-json_of_members
decreases-json_of_members l = 2 * fields_depth (fields_of l.i.now) + 2
