use Rattle.std.proofs.Common.{◌≡◌, ◌+◌, ◌*◌, map, take}
use Rattle.alt_value.specs.Size.{depth, elements_depth, fields_depth}
use Rattle.alt_value.specs.Stands.{tree_of}
use Rattle.alt_value.specs.Tree.{trees_of, fields_of}
use Rattle.alt_expr.specs.declared.path.PathPart.TheVariants.{Index}
use Rattle.alt_expr.specs.Updated.{under}
use Rattle.alt_updeval.specs.Shown.{way_of}
use Rattle.alt_updeval.proofs.Lists.{walked}
use Rattle.alt_updeval.proofs.Maps.{Upto}
use Rattle.alt_updeval.proofs.within.+within.Given as goal

-- 3 for each level, and less within one
abbrev pub decreases-changed : goal.decreases-changed
decreases-changed l = 3 * depth (tree_of l.old.now)

abbrev pub decreases-changed_list : goal.decreases-changed_list
decreases-changed_list l = 3 * elements_depth (trees_of l.list.now) + 2

abbrev pub decreases-push_changed : goal.decreases-push_changed
decreases-push_changed l = 3 * depth (tree_of l.element.now) + 1

abbrev pub decreases-changed_map : goal.decreases-changed_map
decreases-changed_map l = 3 * fields_depth (fields_of l.old.now) + 2

abbrev pub decreases-put_changed : goal.decreases-put_changed
decreases-put_changed l = 3 * depth (tree_of l.value.now) + 1

-- the elements so far, each with what becomes of it
abbrev pub invariant-changed_list-loop-i : goal.invariant-changed_list-loop-i
invariant-changed_list-loop-i l =
    l.out ≡ walked (λ k. under (Index k) (map way_of l.ways)) 0 (take l.i-counter l.list)

-- each name so far has what becomes of its value
abbrev pub invariant-changed_map-loop-i : goal.invariant-changed_map-loop-i
invariant-changed_map-loop-i l = Upto (map way_of l.ways) l.old l.i l.out
