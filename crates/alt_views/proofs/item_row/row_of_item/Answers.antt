-- One attribute more.
use Rattle.std.proofs.Common.{◌+◌, ◌∙◌, [], ◌∷◌, map, sym, ap, subst, T, arith}
use Rattle.std.specs.FinMap.Entries.{is_sorted}
use Rattle.alt_cells.specs.Keys.{key_cmp}
use Rattle.alt_views.specs.ItemRows.{column_of}
use Rattle.alt_views.proofs.Columns.{columns_first, one_attribute, row_is, take_all}
use Rattle.alt_value.specs.Stands.{tree_of}
use Rattle.alt_views.proofs.item_row.row_of_item.Goals as goal

pub push_attribute-requires : goal.push_attribute-requires
push_attribute-requires c = subst (λ es. T (is_sorted key_cmp es))
    (sym (one_attribute c.args.item.now c.loop-at.at
    (c.in-Some.name.now, tree_of c.in-Some.value.now) _ c.loop-at.invariant
    c.in-Some.ensures.pair))
    (columns_first c.args.item.now (c.loop-at.at + 1) c.len-at-end.ensures.item)

pub loop-at-preserved : goal.loop-at-preserved
loop-at-preserved c = c.in_ok-push_attribute.ensures
    ∙ one_attribute c.args.item.now c.loop-at.at
    (c.in-Some.name.now, tree_of c.in-Some.value.now) _ c.loop-at.invariant c.in-Some.ensures.pair

pub returns : goal.returns
returns c = record {
  row = row_is c.loop-at.row c.args.item.now c.len-at-end.ensures.item
      (c.loop-at.invariant ∙ ap (λ ps. ([], []) ∷ map column_of ps)
      (take_all c.args.item.now c.loop-at.at (omega (arith, c.len-at-end.ensures.count))));
}
