-- What a stream has beside the rows of its changes (docs/formats/table-rows.md): the row of number 0, which tells the number of the last
-- change that was trimmed, and rows that are left over of such changes; and what a write does to them.
use Rattle.std.specs.Prelude.{◌==◌, ◌≤◌, ℕ, true, List, [], ◌∷◌, ◌++◌, map, All, Option, None, Some, codes, length, if◌then◌else◌}
use Rattle.std.specs.FinMap.{empty, get, insert}
use Rattle.std.specs.Int.{w64, from_be_bytes, to_be_bytes}
use Rattle.std.specs.Option.{option_map_or}
use Rattle.alt_cells.specs.declared.batch.RowChange.{RowChange}
use Rattle.alt_cells.specs.Changes.{Columns, change_between}
use Rattle.alt_changes.specs.ChangeRows.{row_key}
use Rattle.alt_schema.specs.declared.schema.TableSchema.{TableSchema}

-- ---- the row of number 0

-- the trimmed number, in 8 bytes
abbrev pub trimmed_columns : ℕ → Columns
trimmed_columns trimmed = insert empty (codes "x") (to_be_bytes w64 trimmed)

-- the row of number 0: none where nothing was trimmed
abbrev pub trimmed_row : ℕ → Option Columns
trimmed_row trimmed = if trimmed == 0 then None else Some (trimmed_columns trimmed)

-- the number of 8 bytes, and 0 of any others
abbrev pub number_told : List ℕ → ℕ
number_told bytes = if length bytes == 8 then from_be_bytes w64 bytes else 0

-- the number that a row of number 0 tells: 0 where there is none, or where it has none to tell
abbrev pub trimmed_told : Option Columns → ℕ
trimmed_told row = option_map_or (λ columns. option_map_or number_told (get columns (codes "x")) 0) row 0

-- ---- what a write does to the rows

-- the change of the row of number 0 where the trimmed number rises
abbrev pub trimmed_changes : ℕ → ℕ → ℕ → List RowChange
trimmed_changes family before after = if before == after then []
    else change_between family (row_key 0) (trimmed_row before) (trimmed_row after) ∷ []

-- a row is hidden, whatever it shows
abbrev pub hidden : ℕ → ℕ → RowChange
hidden family n = record { family = family; key = row_key n; clear = true; cells = [] }

-- rows of these numbers may be left over of changes that were trimmed
abbrev pub AreLeft : ℕ → List ℕ → Type 0
AreLeft trimmed numbers = All (λ (n : ℕ). (1 ≤ n) × (n ≤ trimmed)) numbers

-- In a table with a stream the row of number 0 changes where the trimmed number rises, and these rows that are left over are hidden.
abbrev pub trim_changes : TableSchema → ℕ → ℕ → List ℕ → List RowChange
trim_changes d before after leftovers = option_map_or
    (λ family. trimmed_changes family before after ++ map (hidden family) leftovers)
    d.stream_family []
