-- What a row change is in cells, what a row shows after it, and the change that turns one row into another.
use Rattle.std.specs.Prelude.{◌≡◌, ◌<◌, ◌+◌, ◌==◌, ◌++◌, ℕ, List, [], ◌∷◌, Bool, true, false, not, map, if◌then◌else◌, Option, Some, None, is_none, option_map}
use Rattle.std.specs.Option.{option_map_or, option_to_list}
use Rattle.std.specs.Ordering.{eq_by_cmp}
use Rattle.std.specs.Str.{bytes_eq}
use Rattle.std.specs.FinMap.{FinMap, empty, entries, from_sorted, insert, remove, get, len}
use Rattle.std.specs.FinMap.Entries.{where_key}
use Rattle.alt_cells.specs.declared.batch.RowChange.{RowChange}
use Rattle.alt_cells.specs.declared.cell.Cell.{Cell}
use Rattle.alt_cells.specs.declared.row.RowCells.{RowCells}
use Rattle.alt_cells.specs.Keys.{key_cmp}
use Rattle.alt_cells.specs.Cells.{cell_cmp, value_cmp, greater}
use Rattle.alt_cells.specs.Joined.{joined_map}
use Rattle.alt_cells.specs.Rows.{join_row}
use Rattle.alt_cells.specs.Shown.{row_shown}

-- columns with their values
abbrev pub Columns : Type 0
Columns = FinMap key_cmp (List ℕ)

-- names of columns with the values that a write gives them, or none where it removes them
abbrev pub GivenColumns : Type 0
GivenColumns = List (List ℕ × Option (List ℕ))

-- ---- in cells

-- the cell of a write that gives a value, or none
abbrev pub cell_at : ℕ → Option (List ℕ) → Cell
cell_at number v = record { at = number; value = v }

-- the one cell that a write makes of a name and what it gives it
abbrev pub one_cell : ℕ → List ℕ × Option (List ℕ) → FinMap key_cmp Cell
one_cell number e = from_sorted ((e.0, cell_at number e.1) ∷ [])

-- the cells that a write gives, joined: of several of one name the winner stays
abbrev pub cells_given : ℕ → GivenColumns → FinMap key_cmp Cell
cells_given number [] = empty
cells_given number (e ∷ es) =
    joined_map (greater cell_cmp) (one_cell number e) (cells_given number es)

-- a change as the row that the write of that number joins to what is there
abbrev pub row_of_change : ℕ → RowChange → RowCells
row_of_change number c =
    record { gone = if c.clear then Some number else None; cells = cells_given number c.cells }

-- ---- in columns shown

-- what is given, or what is given later where that wins in a tie
abbrev pub tied : Option (List ℕ) → Option (Option (List ℕ)) → Option (List ℕ)
tied v None = v
tied v (Some w) = greater value_cmp v w

-- what is given to a column, if anything is: of several the winner in a tie
abbrev pub given_to : List ℕ → GivenColumns → Option (Option (List ℕ))
given_to q [] = None
given_to q (e ∷ es) =
    if eq_by_cmp key_cmp q e.0 then Some (tied e.1 (given_to q es)) else given_to q es

-- the column with the value that it is given, if it is given one
abbrev pub value_given : List ℕ × Option (List ℕ) → List (List ℕ × List ℕ)
value_given e = option_to_list (option_map (λ v. (e.0, v)) e.1)

-- the columns that are given a value, with it
abbrev pub values_given : GivenColumns → List (List ℕ × List ℕ)
values_given [] = []
values_given (e ∷ es) = value_given e ++ values_given es

-- with a value at a column, or none
abbrev pub with_column : List ℕ → Option (List ℕ) → Columns → Columns
with_column name None m = remove m name
with_column name (Some value) m = insert m name value

-- with what is given at each column that is named
abbrev pub with_columns : GivenColumns → Columns → Columns
with_columns [] m = m
with_columns (e ∷ es) m = with_column e.0 (tied e.1 (given_to e.0 es)) (with_columns es m)

-- a row without columns isn't shown
abbrev pub as_shown : Columns → Option Columns
as_shown m = if len m == 0 then None else Some m

-- the columns of a row that may not be shown
abbrev pub columns_of : Option Columns → Columns
columns_of None = empty
columns_of (Some m) = m

-- what the row shows after a change, by what it showed before: no timestamp counts
abbrev pub written : RowChange → Option Columns → Option Columns
written c before = as_shown (with_columns c.cells (if c.clear then empty else columns_of before))

-- ---- the law of both

-- the row tombstone and all cells are of writes before this one
pub record IsRowBelow (number : ℕ) (row : RowCells) : Type 0 where
  pub gone : (g : ℕ) → row.gone ≡ Some g → g < number
  pub cells : (q : List ℕ) (c : Cell) → get row.cells q ≡ Some c → c.at < number

-- ---- the change that turns a row into another

-- a column that had no value, or another one
abbrev pub differs : Option (List ℕ) → List ℕ → Bool
differs None new = true
differs (Some old) new = not (bytes_eq old new)

-- a column has a value in the new row that it didn't have in the old
abbrev pub is_changed : Columns → Columns → List ℕ → Bool
is_changed old new q = option_map_or (differs (get old q)) (get new q) false

-- a column is given its value
abbrev pub with_value : List ℕ × List ℕ → List ℕ × Option (List ℕ)
with_value e = (e.0, Some e.1)

-- a column is removed
abbrev pub without_value : List ℕ × List ℕ → List ℕ × Option (List ℕ)
without_value e = (e.0, None)

-- the columns of the new row whose values changed, with their values
abbrev pub changed_cells : Columns → Columns → GivenColumns
changed_cells old new = map with_value (where_key key_cmp (is_changed old new) (entries new))

-- the columns of the old row that the new one lacks, to be removed
abbrev pub gone_cells : Columns → Columns → GivenColumns
gone_cells old new = map without_value (where_key key_cmp (λ q. is_none (get new q)) (entries old))

-- A row that is made gets all its cells; of one that changes, those that change, and a tombstone for each that is gone.
abbrev pub cells_between : Option Columns → Option Columns → GivenColumns
cells_between None None = []
cells_between None (Some new) = map with_value (entries new)
cells_between (Some old) None = []
cells_between (Some old) (Some new) = changed_cells old new ++ gone_cells old new

-- a row that is made or removed is cleared
abbrev pub is_cleared : Option Columns → Option Columns → Bool
is_cleared None None = false
is_cleared None (Some new) = true
is_cleared (Some old) None = true
is_cleared (Some old) (Some new) = false

-- the change of the row of that family and key that turns what it shows into what it is to show
abbrev pub change_between : ℕ → List ℕ → Option Columns → Option Columns → RowChange
change_between family key old new =
    record { family = family; key = key; clear = is_cleared old new; cells = cells_between old new }

-- it can be shown: a row has a column
abbrev pub CanShow : Option Columns → Type 0
CanShow o = as_shown (columns_of o) ≡ o

-- ---- laws

-- after a change of a later write a row shows what the change makes of what it showed
abbrev pub ShowsChanges : Type 0
ShowsChanges = (number : ℕ) (row : RowCells) (c : RowChange) → IsRowBelow number row
    → row_shown (join_row row (row_of_change number c)) ≡ written c (row_shown row)

-- a row below a number is below the next one after a change of that number
abbrev pub StaysBelow : Type 0
StaysBelow = (number : ℕ) (row : RowCells) (c : RowChange) → IsRowBelow number row
    → IsRowBelow (number + 1) (join_row row (row_of_change number c))

-- the change between two rows turns what is shown of the one into the other
abbrev pub TurnsRows : Type 0
TurnsRows = (family : ℕ) (key : List ℕ) (old new : Option Columns) → CanShow new
    → written (change_between family key old new) old ≡ new
