-- The cell stands in front of the columns of the row.
use Rattle.std.proofs.Common.{sym, subst, ◌∙◌, T, [], ◌∷◌, ◌++◌, Some}
use Rattle.std.specs.FinMap.{same_entries_map}
use Rattle.std.specs.FinMap.Entries.{is_sorted}
use Rattle.alt_cells.specs.Keys.{key_cmp}
use Rattle.alt_tablerows.specs.CatalogRows.{with_built_cell}
use Rattle.alt_tablerows.proofs.CellRows.{entries-with_cell, front_rises}
use Rattle.alt_tablerows.proofs.building.with_built_cell.Goals as goal

pub push_all-requires : goal.push_all-requires
push_all-requires c = record {
  rise = subst (λ es. T (is_sorted key_cmp es))
      (sym ((λ j. (c.in_ok-push.ensures.ok ∙ (λ i. c.new-new.ensures.none i
      ++ (c.in_ok-new.ensures.copied i, c.from_vec.ensures.same i) ∷ [])) j
      ++ c.as_slice.ensures j)))
      (front_rises c.args.value.items c.args.row c.requires.rises);
}

pub returns : goal.returns
returns c = record {
  row = same_entries_map c.push_all.new.row (with_built_cell (Some c.args.value.items) c.args.row)
      (c.in_ok-push_all.ensures.pushed
      ∙ (λ j. (c.in_ok-push.ensures.ok ∙ (λ i. c.new-new.ensures.none i
      ++ (c.in_ok-new.ensures.copied i, c.from_vec.ensures.same i) ∷ [])) j
      ++ c.as_slice.ensures j)
      ∙ sym (entries-with_cell c.args.value.items c.args.row c.requires.rises));
}
