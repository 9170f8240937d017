use Rattle.std.proofs.Common.{◌+◌, sym, ap, ◌∙◌, List, arith}
use Rattle.alt_base.proofs.Lists.{take_one_more}
use Rattle.alt_value.specs.Stands.{tree_of}
use Rattle.alt_expr.specs.Projected.{chosen}
use Rattle.alt_expr.specs.declared.path.PathPart.{PathPart}
use Rattle.alt_projection.specs.Ways.{tails}
use Rattle.alt_projection.proofs.Chosen.{chosen-none, one_more, all_looked_at}
use Rattle.alt_projection.proofs.Kept.{chosen-list, chosen-map}
use Rattle.alt_projection.proofs.Loops.{list_more, list_all}
use Rattle.alt_projection.proofs.Order.{none_left}
use Rattle.alt_value.proofs.Smaller.{depth-element, depth-pair}
use Rattle.alt_projection.proofs.choosing.+choosing.Goals as goal

pub chosen-returns-in-Ok-chosen_elements : goal.chosen-returns-in-Ok-chosen_elements
chosen-returns-in-Ok-chosen_elements t c =
    rw c.in-L.is
    (chosen-list (tails c.args.depth c.args.ways.now) c.in-L.list c.in-Ok-chosen_elements.some _
    (sym c.is_whole.ensures ∙ c.if-is_whole.false)
    c.some_list.ensures c.in-Ok-chosen_elements.ensures)

pub chosen-returns-in-Ok-chosen_fields : goal.chosen-returns-in-Ok-chosen_fields
chosen-returns-in-Ok-chosen_fields t c =
    rw c.in-M.is
    (chosen-map (tails c.args.depth c.args.ways.now) c.in-M.map c.in-Ok-chosen_fields.some _
    (sym c.is_whole.ensures ∙ c.if-is_whole.false)
    c.some_map.ensures c.in-Ok-chosen_fields.ensures)

pub chosen_elements-push_chosen-requires : goal.chosen_elements-push_chosen-requires
chosen_elements-push_chosen-requires t c = (
  omega (arith, depth-element c.args.list.now c.loop-i.i _ (sym c.element.ensures)),
  c.requires,
)

pub chosen_elements-loop-i-preserved : goal.chosen_elements-loop-i-preserved
chosen_elements-loop-i-preserved t c =
    list_more (tails c.args.depth c.args.ways.now) c.args.list.now c.loop-i.i _ c.loop-i.out
    c.push_chosen.new.out (omega (arith, c.loop-i-test.true, c.len-i-end.ensures.count))
    c.element.ensures c.loop-i.invariant c.in_ok-push_chosen.ensures

pub chosen_elements-returns : goal.chosen_elements-returns
chosen_elements-returns t c =
    list_all (tails c.args.depth c.args.ways.now) c.args.list.now c.loop-i.i c.loop-i.out
    (omega (arith, c.loop-i-test.false, c.len-i-end.ensures.count)) c.loop-i.invariant

pub chosen_fields-put_chosen-requires : goal.chosen_fields-put_chosen-requires
chosen_fields-put_chosen-requires t c = (
  omega (arith, depth-pair c.args.item.now c.loop-i.i _ _ (sym c.pair.ensures.pair)),
  (c.requires, c.pair.ensures.named),
)

pub chosen_fields-loop-i-preserved : goal.chosen_fields-loop-i-preserved
chosen_fields-loop-i-preserved t c =
    let name = c.pair.result.0.now in
    let v = tree_of c.pair.result.1.now in
    one_more (tails c.args.depth c.args.ways.now) c.args.item.now c.loop-i.i name v c.loop-i.out
    c.put_chosen.new.out c.pair.ensures.item.0 (sym c.pair.ensures.pair)
    (take_one_more c.args.item.now c.loop-i.i (name, v) c.pair.ensures.pair)
    c.loop-i.invariant c.in_ok-put_chosen.ensures

pub chosen_fields-returns : goal.chosen_fields-returns
chosen_fields-returns t c =
    all_looked_at (tails c.args.depth c.args.ways.now) c.args.item.now c.loop-i.i c.loop-i.out
    (omega (arith, c.loop-i-test.false, c.len-i-end.ensures.count)) c.len-held.ensures.item
    c.len-whole.ensures.item c.loop-i.invariant

pub chosen_further-returns-in-empty : goal.chosen_further-returns-in-empty
chosen_further-returns-in-empty t c =
    sym (ap (λ (ws : List (List PathPart)).
    chosen (tails (c.args.depth + 1) ws) (tree_of c.args.value.now))
    (none_left c.args.ways.now (omega (arith, c.in-empty.len_below)))
    ∙ chosen-none (tree_of c.args.value.now))
