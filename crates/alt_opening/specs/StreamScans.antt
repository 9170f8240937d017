-- What is read of the rows of streams while a store is opened.
use Rattle.std.specs.Prelude.{◌≡◌, ℕ, List, Some}
use Rattle.std.specs.Option.{option_map_or}
use Rattle.alt_cells.specs.Changes.{Columns}
use Rattle.alt_layout.specs.Layout.{Layout, shown}
use Rattle.alt_schema.specs.declared.schema.TableSchema.{TableSchema}
use Rattle.alt_tablerows.specs.ChangeRows.{row_key}
use Rattle.alt_tablerows.specs.TrimRows.{trimmed_told}
use Rattle.alt_opening.specs.Scans.{IsBelow, RowsWhere}
pub use Rattle.alt_tablerows.specs.StreamRows.{IsChangeAt, IsKeptRow, IsStreamRow, IsTrimmedRow}
use Rattle.alt_faults.specs.Faults.{OnlyRow}
use Rattle.alt_opening.specs.Faults.{told_by_opening}
use Rattle.alt_opening.specs.declared.faults.OpenFault.{OpenFault}

-- each row of a family, of those whose keys pass, is
abbrev pub ChangesWhere : (List ℕ → Type 0) → Layout → TableSchema → ℕ → ℕ → ℕ → Type 0
ChangesWhere Here l d next trimmed family = RowsWhere Here l family (IsStreamRow d next trimmed)

-- the number of the last change that was trimmed, as the rows of a family tell it
abbrev pub trimmed_in : Layout → ℕ → ℕ
trimmed_in l family = trimmed_told (shown l family (row_key 0))

-- and as those of a table's stream do, where it has one
abbrev pub stream_trimmed : Layout → TableSchema → ℕ
stream_trimmed l d = option_map_or (trimmed_in l) d.stream_family 0

-- each row of a table's stream is one that it may have, where it has a stream
abbrev pub ChangesRead : Layout → TableSchema → Type 0
ChangesRead l d = (family : ℕ) → d.stream_family ≡ Some family
    → ChangesWhere (λ key. Unit {0}) l d l.next_number (trimmed_in l family) family

-- the row at a key of a family is the first that is none
pub record IsFirstForeignChange (l : Layout) (d : TableSchema) (next trimmed family : ℕ)
    (key : List ℕ) : Type 0 where
  pub before : ChangesWhere (λ k. IsBelow k key) l d next trimmed family
  pub row : Columns
  pub shows : shown l family key ≡ Some row
  pub none : IsStreamRow d next trimmed key row → ⊥

-- a wrong row is the first of the family
abbrev pub IsChangeFault : Layout → TableSchema → ℕ → ℕ → ℕ → OpenFault → Type 0
IsChangeFault l d next trimmed of_stream f = OnlyRow (λ family key. (family ≡ of_stream)
    × IsFirstForeignChange l d next trimmed of_stream key) (told_by_opening f)

-- The first wrong row of a table's stream.
pub record IsFirstOfStream (l : Layout) (d : TableSchema) (family : ℕ) (key : List ℕ)
    : Type 0 where
  pub stream : d.stream_family ≡ Some family
  pub first : IsFirstForeignChange l d l.next_number (trimmed_in l family) family key

-- a wrong row is it
abbrev pub IsStreamFault : Layout → TableSchema → OpenFault → Type 0
IsStreamFault l d f = OnlyRow (IsFirstOfStream l d) (told_by_opening f)
