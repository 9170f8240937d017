-- The columns shown are those of the definition, and they rise.
use Rattle.std.proofs.Common.{T, sym, subst, ap, ◌∙◌}
use Rattle.std.specs.FinMap.{entries, entries_sorted, from_sorted}
use Rattle.std.specs.FinMap.Entries.{is_sorted}
use Rattle.alt_cells.specs.Changes.{as_shown}
use Rattle.alt_cells.specs.Keys.{key_cmp}
use Rattle.alt_cells.specs.Shown.{entries_shown}
use Rattle.alt_cells.proofs.ShownLaws.{is_sorted-entries_shown, row_shown_columns}
use Rattle.alt_cells.proofs.row.RowCells.into_shown.Goals as goal

pub of_rising-requires : goal.of_rising-requires
of_rising-requires c =
    let row = c.args.self in
    let same = c.in_ok-entries.ensures ∙ ap (entries_shown row.gone) c.into_entries.ensures in
    subst (λ es. T (is_sorted key_cmp es)) (sym same)
    (is_sorted-entries_shown row.gone (entries row.cells) (entries_sorted row.cells))

pub returns : goal.returns
returns c =
    let row = c.args.self in
    let same = c.in_ok-entries.ensures ∙ ap (entries_shown row.gone) c.into_entries.ensures in
    c.of_rising.ensures ∙ ap (λ es. as_shown (from_sorted {R = key_cmp} es)) same
    ∙ sym (row_shown_columns row)
