-- What a row shows after a change, by cells that show what it showed.
use Rattle.std.proofs.Common.{◌≡◌, ℕ, List, [], map, Bool, true, Option, Some, None, sym, ap, subst, ◌∙◌}
use Rattle.std.specs.Prelude.{if◌then◌else◌, option_and_then}
use Rattle.std.specs.FinMap.{FinMap, empty, entries, get-empty, same_map}
use Rattle.alt_cells.specs.declared.batch.RowChange.{RowChange}
use Rattle.alt_cells.specs.declared.cell.Cell.{Cell}
use Rattle.alt_cells.specs.declared.row.RowCells.{RowCells}
use Rattle.alt_cells.specs.Changes.{Columns, cells_given, row_of_change, with_columns, with_value, as_shown, columns_of, written, change_between, IsRowBelow}
use Rattle.alt_cells.specs.Keys.{key_cmp}
use Rattle.alt_cells.specs.Rows.{join_row}
use Rattle.alt_cells.specs.Shown.{value_shown, columns_shown, row_shown}
use Rattle.alt_cells.proofs.CellLaws.{key_total, key_exact}
use Rattle.alt_cells.proofs.RowLaws.{join_row-empty}
use Rattle.alt_cells.proofs.ChangeLaws.{row_shown-written, row_shown_as, get-columns_shown, none_shown, IsBelow-join, columns_of-as_shown, written-made}

-- a row without cells
abbrev bare : RowCells
bare = record { gone = None; cells = empty }

-- which no write made
pub bare_below : (number : ℕ) → IsRowBelow number bare
bare_below number = record {
  gone = λ g e. let no : None ≡ Some g = e in cc no;
  cells = λ q c e. let no : None ≡ Some c = sym (get-empty key_cmp q) ∙ e in cc no;
}

-- it isn't shown
pub bare_shown : row_shown bare ≡ None
bare_shown = row_shown_as bare ∙ ap as_shown (same_map key_total key_exact
    (columns_shown bare) empty (λ q.
    get-columns_shown bare q ∙ ap (option_and_then (value_shown None)) (get-empty key_cmp q)
    ∙ sym (get-empty key_cmp q))) ∙ none_shown

-- the cells of the first write are below the next
pub made_below : (c : RowChange) → IsRowBelow 1 (row_of_change 0 c)
made_below c = subst (IsRowBelow 1) (join_row-empty (row_of_change 0 c))
    (IsBelow-join 0 bare c (bare_below 0))

-- what they show
pub made_shown : (number : ℕ) (c : RowChange) → row_shown (row_of_change number c) ≡ written c None
made_shown number c = ap row_shown (sym (join_row-empty (row_of_change number c)))
    ∙ row_shown-written number bare c (bare_below number) ∙ ap (written c) bare_shown

-- a row that is made of nothing shows what it was made of
pub copy_shown : (key : List ℕ) (m : Columns)
    → row_shown (row_of_change 0 (change_between 0 key None (Some m))) ≡ as_shown m
copy_shown key m = made_shown 0 (change_between 0 key None (Some m)) ∙ written-made 0 key m

-- the cells of a row's columns are those of the change that makes it
pub made_is : (cells : FinMap key_cmp Cell) (m : Columns)
    → cells ≡ cells_given 0 (map with_value (entries m))
    → record { gone = Some 0; cells = cells } ≡ row_of_change 0 (change_between 0 [] None (Some m))
made_is cells m is i = record { gone = Some 0; cells = is i }

-- a row that is cleared is as one that is made
pub written-cleared : (c : RowChange) (before : Option Columns) → c.clear ≡ true
    → written c None ≡ written c before
written-cleared c before is =
    ap (λ (b : Bool). as_shown (with_columns c.cells (if b then empty else empty))) is
    ∙ sym (ap (λ (b : Bool). as_shown (with_columns c.cells
    (if b then empty else columns_of before))) is)

-- a change of cells that show these columns
pub written-copy : (row : RowCells) (c : RowChange) (m : Columns) → IsRowBelow 1 row
    → row_shown row ≡ as_shown m → row_shown (join_row row (row_of_change 1 c))
    ≡ written c (Some m)
written-copy row c m below is = row_shown-written 1 row c below ∙ ap (written c) is
    ∙ ap (λ x. as_shown (with_columns c.cells (if c.clear then empty else x)))
    (columns_of-as_shown m)
