-- What a row of a table may be.
use Rattle.std.specs.Prelude.{◌≡◌, ◌≤◌, ℕ, List}
use Rattle.alt_cells.specs.Changes.{Columns}
use Rattle.alt_machine.specs.Valid.{IsStored}
use Rattle.alt_schema.specs.declared.schema.TableSchema.{TableSchema}
use Rattle.alt_views.specs.ItemRows.{item_columns, IsReadItem}
use Rattle.alt_value.specs.Size.{item_size}
use Rattle.alt_value.specs.Tree.{Pair}

-- the row is that of the item, which may stand at the key
pub record IsItemAt (d : TableSchema) (key : List ℕ) (columns : Columns) (item : List Pair)
    : Type 0 where
  pub stored : IsStored d key item
  pub read : IsReadItem item
  pub row : columns ≡ item_columns item

-- it is that of one
abbrev pub IsItemRow : TableSchema → List ℕ → Columns → Type 0
IsItemRow d key columns = (item : List Pair) × IsItemAt d key columns item

-- an item whose row this is has so many bytes at most
abbrev pub IsWithin : ℕ → List ℕ → Columns → Type 0
IsWithin most key columns = (item : List Pair) → IsReadItem item → columns ≡ item_columns item
    → item_size item ≤ most
