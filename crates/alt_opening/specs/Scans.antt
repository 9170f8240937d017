-- What is read of a family's rows while a store is opened.
use Rattle.std.specs.Prelude.{◌≡◌, ◌++◌, ℕ, List, Option, Some, None, IsTrue, reverse, true}
use Rattle.std.specs.declared.cmp.Ordering.TheVariants.{Less}
use Rattle.alt_cells.specs.Changes.{Columns}
use Rattle.alt_cells.specs.Keys.{key_cmp}
use Rattle.alt_disk.specs.Disk.{DiskState, Goes}
use Rattle.alt_disk.specs.Runs.{Quiet}
use Rattle.alt_layout.specs.Layout.{Layout, shown, rows_between}
use Rattle.alt_engine.specs.InHand.{bounds_of_engine}
use Rattle.alt_engine.specs.Opened.{StaysOn}
use Rattle.alt_engine.specs.declared.engine.Engine.{Engine}
use Rattle.alt_schema.specs.declared.schema.TableSchema.{TableSchema}
pub use Rattle.alt_tablerows.specs.ItemTests.{IsItemAt, IsItemRow}
use Rattle.alt_faults.specs.Faults.{IsOutside, OnlyRow}
use Rattle.alt_opening.specs.Faults.{told_by_opening}
use Rattle.alt_opening.specs.declared.faults.OpenFault.{OpenFault}
use Rattle.alt_value.specs.Tree.{Pair}

-- calls that only read: where the disk tells them the files stay, and the engine is that of what it was that of; its limits and the number of
-- its next file stay on every disk
pub record Walked (old new : DiskState) (before after : Engine) : Type 0 where
  pub goes : Goes old new
  pub quiet : IsTrue old.tells → Quiet old new
  pub same : IsTrue old.tells → StaysOn old new before after
  pub bounds : bounds_of_engine after ≡ bounds_of_engine before

-- a fault of the device, or want of memory
abbrev pub IsDeviceFault : OpenFault → Type 0
IsDeviceFault f = IsOutside (told_by_opening f)

-- a key is below another
abbrev pub IsBelow : List ℕ → List ℕ → Type 0
IsBelow k key = key_cmp k key ≡ Less

-- the row of a key is the first that the family shows from another key on
pub record IsFirstFrom (l : Layout) (family : ℕ) (from key : List ℕ) (row : Columns) : Type 0 where
  pub shows : shown l family key ≡ Some row
  pub later : IsBelow key from → ⊥
  pub between : (k : List ℕ) → (IsBelow k from → ⊥) → IsBelow k key → shown l family k ≡ None

-- that row, or none where the family shows none from there on
abbrev pub IsNextRow : Layout → ℕ → List ℕ → Option (List ℕ × Columns) → Type 0
IsNextRow l family from None = (k : List ℕ) → (IsBelow k from → ⊥) → shown l family k ≡ None
IsNextRow l family from (Some e) = IsFirstFrom l family from e.0 e.1

-- Rows in hand are the first that a family shows from a key on, the first one last.
pub record IsAhead (l : Layout) (family : ℕ) (from : List ℕ) (rows : List (List ℕ × Columns))
    : Type 0 where
  pub rest : List (List ℕ × Columns)
  pub first : rows_between l family from None true ≡ reverse rows ++ rest

-- something is so of each row of a family, of those whose keys pass
abbrev pub RowsWhere : (List ℕ → Type 0) → Layout → ℕ → (List ℕ → Columns → Type 0) → Type 0
RowsWhere Here l family P = (key : List ℕ) (row : Columns) → Here key
    → shown l family key ≡ Some row → P key row

-- ---- items

-- each row of a table's family, of those whose keys pass, is that of an item
abbrev pub ItemsWhere : (List ℕ → Type 0) → Layout → TableSchema → Type 0
ItemsWhere Here l d = RowsWhere Here l d.family (IsItemRow d)

-- each row is
abbrev pub ItemsRead : Layout → TableSchema → Type 0
ItemsRead l d = ItemsWhere (λ key. Unit {0}) l d

-- the row at a key of a table's family is the first that is none of an item
pub record IsFirstBad (l : Layout) (d : TableSchema) (key : List ℕ) : Type 0 where
  pub before : ItemsWhere (λ k. IsBelow k key) l d
  pub row : Columns
  pub shows : shown l d.family key ≡ Some row
  pub none : (item : List Pair) → IsItemAt d key row item → ⊥

-- a wrong row is the first of the family
abbrev pub IsItemFault : Layout → TableSchema → OpenFault → Type 0
IsItemFault l d f = OnlyRow (λ family key. (family ≡ d.family) × IsFirstBad l d key)
    (told_by_opening f)
