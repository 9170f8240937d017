-- The elements so far are written; a list or a map is deeper than what stands in it.
use Rattle.std.proofs.Common.{◌≡◌, ◌+◌, ◌*◌, ◌++◌, take}
use Rattle.std.specs.List.{flat_map}
use Rattle.alt_value.specs.CellBytes.{cell_bytes}
use Rattle.alt_value.specs.Size.{depth, elements_depth, fields_depth}
use Rattle.alt_value.specs.Stands.{tree_of}
use Rattle.alt_value.specs.Tree.{trees_of, fields_of}
use Rattle.alt_cellbytes.specs.Places.{entry_bytes}
use Rattle.alt_cellbytes.proofs.writing.+writing.Given as goal

abbrev pub invariant-put_each_element-loop-place : goal.invariant-put_each_element-loop-place
invariant-put_each_element-loop-place l = l.out.items
    ≡ l.fn.out.items ++ flat_map cell_bytes (take l.place l.list)

abbrev pub invariant-put_each_entry-loop-place : goal.invariant-put_each_entry-loop-place
invariant-put_each_entry-loop-place l = l.out.items
    ≡ l.fn.out.items ++ flat_map entry_bytes (take l.place l.map)

abbrev pub decreases-put_value : goal.decreases-put_value
decreases-put_value l = 3 * depth (tree_of l.a.now) + 1

abbrev pub decreases-put_elements : goal.decreases-put_elements
decreases-put_elements l = 3 * elements_depth (trees_of l.list.now) + 3

abbrev pub decreases-put_entries : goal.decreases-put_entries
decreases-put_entries l = 3 * fields_depth (fields_of l.map.now) + 3

abbrev pub decreases-put_each_element : goal.decreases-put_each_element
decreases-put_each_element l = 3 * elements_depth (trees_of l.list.now) + 2

abbrev pub decreases-put_each_entry : goal.decreases-put_each_entry
decreases-put_each_entry l = 3 * fields_depth (fields_of l.map.now) + 2
