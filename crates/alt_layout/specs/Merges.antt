-- What a merge of files drops: tombstones, and the cells that they hide.
use Rattle.std.specs.Prelude.{◌≡◌, ◌≤◌, ℕ, List, Option, Some, None, option_and_then, is_some, if◌then◌else◌}
use Rattle.std.specs.FinMap.{get}
use Rattle.alt_cells.specs.declared.cell.Cell.{Cell}
use Rattle.alt_cells.specs.declared.row.RowCells.{RowCells}
use Rattle.alt_cells.specs.Shown.{value_shown}
use Rattle.alt_layout.specs.Layout.{RowMap}

-- A cell is kept where it shows a value: it is no tombstone, and the row tombstone doesn't hide it.
abbrev pub kept_cell : Option ℕ → Cell → Option Cell
kept_cell gone c = if is_some (value_shown gone c) then Some c else None

-- The row without its tombstones and hidden cells: it has no row tombstone, and of each column the cell that shows a value.
pub record IsPurged (row purged : RowCells) : Type 0 where
  pub gone : purged.gone ≡ None
  pub cells : (q : List ℕ) → get purged.cells q ≡ option_and_then (kept_cell row.gone) (get row.cells q)

-- A purge leaves this of a row: the row without its tombstones and hidden cells, or none where no cell is left.
abbrev pub PurgedTo : Option RowCells → Option RowCells → Type 0
PurgedTo None None = Unit {0}
PurgedTo None (Some p) = ⊥
PurgedTo (Some row) None = (q : List ℕ) → option_and_then (kept_cell row.gone) (get row.cells q) ≡ None
PurgedTo (Some row) (Some p) = IsPurged row p

-- Each row of a family was purged so.
abbrev pub IsPurgedMap : RowMap → RowMap → Type 0
IsPurgedMap m p = (key : List ℕ) → PurgedTo (get m key) (get p key)

-- Each timestamp of the row is this number or a later one.
pub record IsFrom (number : ℕ) (row : RowCells) : Type 0 where
  pub gone : (g : ℕ) → row.gone ≡ Some g → number ≤ g
  pub cells : (q : List ℕ) (c : Cell) → get row.cells q ≡ Some c → number ≤ c.at

-- Each timestamp of these rows is this number or a later one.
abbrev pub IsMapFrom : ℕ → RowMap → Type 0
IsMapFrom number m = (key : List ℕ) (row : RowCells) → get m key ≡ Some row → IsFrom number row
