use Rattle.std.proofs.Common.{◌≡◌, ◌+◌, ◌*◌, take}
use Rattle.alt_value.specs.Size.{depth, elements_depth, fields_depth}
use Rattle.alt_value.specs.Stands.{tree_of}
use Rattle.alt_value.specs.Tree.{trees_of, fields_of}
use Rattle.alt_projection.specs.Ways.{tails}
use Rattle.alt_projection.proofs.Chosen.{Upto}
use Rattle.alt_projection.proofs.Loops.{walked}
use Rattle.alt_projection.proofs.choosing.+choosing.Given as goal

-- 4 for each level, and less within one
abbrev pub decreases-chosen : goal.decreases-chosen
decreases-chosen l = 4 * depth (tree_of l.value.now)

abbrev pub decreases-chosen_further : goal.decreases-chosen_further
decreases-chosen_further l = 4 * depth (tree_of l.value.now) + 1

abbrev pub decreases-put_chosen : goal.decreases-put_chosen
decreases-put_chosen l = 4 * depth (tree_of l.value.now) + 2

abbrev pub decreases-push_chosen : goal.decreases-push_chosen
decreases-push_chosen l = 4 * depth (tree_of l.element.now) + 2

abbrev pub decreases-chosen_elements : goal.decreases-chosen_elements
decreases-chosen_elements l = 4 * elements_depth (trees_of l.list.now) + 3

abbrev pub decreases-chosen_fields : goal.decreases-chosen_fields
decreases-chosen_fields l = 4 * fields_depth (fields_of l.item.now) + 3

-- each name so far has what is chosen of its value
abbrev pub invariant-chosen_fields-loop-i : goal.invariant-chosen_fields-loop-i
invariant-chosen_fields-loop-i l = Upto (tails l.depth l.ways) l.item l.i l.out

-- what is chosen of the elements so far is there
abbrev pub invariant-chosen_elements-loop-i : goal.invariant-chosen_elements-loop-i
invariant-chosen_elements-loop-i l = l.out ≡ walked (tails l.depth l.ways) 0 (take l.i l.list)
