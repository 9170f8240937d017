-- Rows in memory, and how many bytes were put.
use Rattle.std.specs.Prelude.{ℕ, ◌+◌, ◌^◌, min, Option, None, Some, refl}
use Rattle.std.specs.Coded.{Coded, code_by, coded×, coded_ℕ, coded_list, coded_option}
use Rattle.std.specs.FinMap.{FinMap, code}
use Rattle.alt_cells.specs.declared.cell.Cell.{Cell}
use Rattle.alt_cells.specs.declared.row.RowCells.{RowCells}
use Rattle.alt_cells.specs.Cells.{coded_cell}
use Rattle.alt_cells.specs.Keys.{key_cmp}
use Rattle.alt_cells.specs.Rows.{join_row}
use Rattle.alt_cells.specs.Walks.{RowMap}

-- a row as what a map can hold
abbrev pub coded_row : Coded RowCells
coded_row =
    code_by (Option ℕ × FinMap key_cmp Cell) (coded× (coded_option coded_ℕ)
    (code (coded_list coded_ℕ) coded_cell))
    (λ r. (r.gone, r.cells)) (λ p. record { gone = p.0; cells = p.1 }) (λ _. refl)

-- rows with a count, as what a model can show
abbrev pub coded_table : Coded (RowMap × ℕ)
coded_table = coded× (code (coded_list coded_ℕ) coded_row) coded_ℕ

-- the count stops there
abbrev pub most_bytes : ℕ
most_bytes = 2 ^ 62

-- so many more, up to the most
abbrev pub more_bytes : ℕ → ℕ → ℕ
more_bytes count more = min (count + more) most_bytes

-- A row that is put is joined to the one of its key, where there is one.
abbrev pub joined_with : Option RowCells → RowCells → RowCells
joined_with None row = row
joined_with (Some old) row = join_row old row
