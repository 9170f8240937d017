-- What a row of a stream may be (docs/formats/table-rows.md).
use Rattle.std.specs.Prelude.{◌≡◌, ◌<◌, ◌≤◌, ◌^◌, ◌⊎◌, ℕ, List, Option, IfSome}
use Rattle.alt_cells.specs.Changes.{Columns}
use Rattle.alt_machine.specs.State.{Change}
use Rattle.alt_machine.specs.Valid.{IsChange, IsStored}
use Rattle.alt_schema.specs.declared.schema.TableSchema.{TableSchema}
use Rattle.alt_changes.specs.ChangeRows.{IsReadChange, change_columns, row_key}
use Rattle.alt_changes.specs.TrimRows.{trimmed_columns}
use Rattle.alt_value.specs.Tree.{Pair}

-- A row may be left over of a change that was trimmed. It counts for nothing, whatever it shows.
abbrev pub IsLeftover : ℕ → List ℕ → Type 0
IsLeftover trimmed key = (n : ℕ) × (1 ≤ n) × (n ≤ trimmed) × (key ≡ row_key n)

-- The row at a key is that of a change which can be read, whose number, from 1 on, is the key.
pub record IsChangeAt (key : List ℕ) (columns : Columns) (c : Change) : Type 0 where
  pub above : 0 < c.number
  pub number : c.number < 2 ^ 64
  pub place : key ≡ row_key c.number
  pub read : IsReadChange c
  pub row : columns ≡ change_columns c

-- two items, where they are there, are of one place of a table
abbrev pub AreOfOne : TableSchema → Option (List Pair) → Option (List Pair) → Type 0
AreOfOne d old new = (place : List ℕ) × IfSome old (IsStored d place)
    × IfSome new (IsStored d place)

-- The row at a key is that of a change that a table may keep: it can be read, its number, which is the key, is below the next one, and its
-- items differ and are of one place of the table.
abbrev pub IsChangeRow : TableSchema → ℕ → List ℕ → Columns → Type 0
IsChangeRow d next key columns = (c : Change) × IsChangeAt key columns c × IsChange d next c

-- And its number is above that of the last change that was trimmed.
abbrev pub IsKeptRow : TableSchema → ℕ → ℕ → List ℕ → Columns → Type 0
IsKeptRow d next trimmed key columns = (c : Change) × IsChangeAt key columns c × IsChange d next c
    × (trimmed < c.number)

-- The row at number 0 tells a number from 1 on and below the next one.
abbrev pub IsTrimmedRow : ℕ → List ℕ → Columns → Type 0
IsTrimmedRow next key columns = (key ≡ row_key 0)
    × ((n : ℕ) × (1 ≤ n) × (n < next) × (columns ≡ trimmed_columns n))

-- A row of a stream tells what was trimmed; or is left over, where that is below the next number, and may be any; or is that of a change
-- that is kept.
abbrev pub IsStreamRow : TableSchema → ℕ → ℕ → List ℕ → Columns → Type 0
IsStreamRow d next trimmed key columns = IsTrimmedRow next key columns
    ⊎ (((trimmed < next) × IsLeftover trimmed key) ⊎ IsKeptRow d next trimmed key columns)
