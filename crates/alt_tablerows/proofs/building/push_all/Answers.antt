-- The next column stands behind those that were put.
use Rattle.std.proofs.Common.{◌∙◌, sym, subst, T, [], ◌∷◌, ◌++◌, arith}
use Rattle.std.specs.FinMap.{entries}
use Rattle.std.specs.FinMap.Entries.{is_sorted}
use Rattle.alt_cells.specs.Keys.{key_cmp}
use Rattle.alt_tablerows.proofs.CellRows.{one_rises}
use Rattle.alt_tablerows.proofs.building.push_all.Goals as goal

pub push-requires : goal.push-requires
push-requires c = subst (λ es. T (is_sorted key_cmp
    (es ++ (c.in_ok-name.name, c.in_ok-value.value) ∷ []))) (sym c.loop-column.invariant)
    (one_rises (entries c.args.row.now) c.args.columns.now c.loop-column.column-index
    (c.in_ok-name.name, c.in_ok-value.value) c.column-item.result (omega arith)
    ((λ j. (c.in_ok-name.ensures.same j, c.in_ok-value.ensures.same j)) ∙ c.column-item.is)
    c.requires.rise)
