-- A list or a map takes 3, 1 for each element, and then its elements.
use Rattle.std.proofs.Common.{◌∙◌, ◌+◌}
use Rattle.alt_value.specs.Tree.{trees_of, fields_of}
use Rattle.alt_value.specs.Size.{elements_size, fields_size}
use Rattle.alt_value.proofs.Budget.{left_short, left_on}
use Rattle.alt_value.proofs.Trees.{elements-trees_of, pairs-fields_of}
use Rattle.alt_value.proofs.measure.+size.Goals as goal

pub left_of_list-returns-in_err-left : goal.left_of_list-returns-in_err-left
left_of_list-returns-in_err-left t c =
    rw (elements-trees_of c.args.list.now, ← c.len.ensures.count)
    (c.from_residual.ensures ∙ left_short c.args.left
    (3 + c.len.result) _ c.in_err-left.ensures)

pub left_of_list-returns : goal.left_of_list-returns
left_of_list-returns t c =
    rw (elements-trees_of c.args.list.now, ← c.len.ensures.count)
    (c.left_of_elements.ensures ∙ left_on c.args.left (3 + c.len.result)
    (elements_size (trees_of c.args.list.now)) c.in_ok-left.left c.in_ok-left.ensures)

pub left_of_map-returns-in_err-left : goal.left_of_map-returns-in_err-left
left_of_map-returns-in_err-left t c =
    rw (pairs-fields_of c.args.map.now, ← c.len.ensures.count)
    (c.from_residual.ensures ∙ left_short c.args.left
    (3 + c.len.result) _ c.in_err-left.ensures)

pub left_of_map-returns : goal.left_of_map-returns
left_of_map-returns t c =
    rw (pairs-fields_of c.args.map.now, ← c.len.ensures.count)
    (c.left_of_fields.ensures ∙ left_on c.args.left (3 + c.len.result)
    (fields_size (fields_of c.args.map.now)) c.in_ok-left.left c.in_ok-left.ensures)
