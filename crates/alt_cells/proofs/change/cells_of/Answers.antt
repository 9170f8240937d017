-- The cells of a row's columns show the row, as those of the change that makes it do.
use Rattle.std.proofs.Common.{T, [], None, Some, map, sym, subst, ap, ◌∙◌}
use Rattle.std.specs.FinMap.{entries_sorted}
use Rattle.std.specs.FinMap.Entries.{is_sorted}
use Rattle.alt_cells.specs.Changes.{IsRowBelow, cells_given, change_between, with_value}
use Rattle.alt_cells.specs.Keys.{key_cmp}
use Rattle.alt_cells.specs.Shown.{row_shown}
use Rattle.alt_cells.proofs.AfterLaws.{made_below, copy_shown, made_is}
use Rattle.alt_cells.proofs.change.cells_of.Goals as goal

pub column_cells-requires : goal.column_cells-requires
column_cells-requires c =
    subst (λ es. T (is_sorted key_cmp es)) (sym c.as_slice.ensures) (entries_sorted c.args.row.now)

pub returns-clause-below : goal.returns-clause-below
returns-clause-below c =
    subst (IsRowBelow 1)
    (sym (made_is c.in_ok-cells.cells c.args.row.now
    (c.in_ok-cells.ensures ∙ ap (λ es. cells_given 0 (map with_value es)) c.as_slice.ensures)))
    (made_below (change_between 0 [] None (Some c.args.row.now)))

pub returns-clause-shown : goal.returns-clause-shown
returns-clause-shown c =
    ap row_shown (made_is c.in_ok-cells.cells c.args.row.now
    (c.in_ok-cells.ensures ∙ ap (λ es. cells_given 0 (map with_value es)) c.as_slice.ensures))
    ∙ copy_shown [] c.args.row.now
