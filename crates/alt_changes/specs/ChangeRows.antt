-- The row of a change in the family of its stream (docs/formats/table-rows.md): its moment, the item before and after it, where one was
-- there, and that time to live wrote it, where it did.
use Rattle.std.specs.Prelude.{◌≤◌, ◌<◌, ◌^◌, ℕ, List, [], ◌∷◌, ◌++◌, map, Option, None, Some, option_map, IfSome, codes}
use Rattle.std.specs.FinMap.{from_sorted}
use Rattle.std.specs.Int.{w64, to_be_bytes}
use Rattle.std.specs.Option.{option_map_or, option_to_list}
use Rattle.alt_cells.specs.declared.batch.RowChange.{RowChange}
use Rattle.alt_cells.specs.Changes.{Columns, change_between}
use Rattle.alt_changes.specs.declared.changes.Change as program
use Rattle.alt_codec.specs.declared.writer.Writer.{Writer}
use Rattle.alt_codec.specs.declared.writer.Writer.TheVariants.{User, Expiry}
use Rattle.alt_machine.specs.State.{Change}
use Rattle.alt_machine.specs.Valid.{deepest}
use Rattle.alt_schema.specs.declared.schema.TableSchema.{TableSchema}
use Rattle.alt_value.specs.CellBytes.{cell_bytes}
use Rattle.alt_value.specs.Size.{fields_depth}
use Rattle.alt_value.specs.Tree.{Pair, M_tree, fields_of}
use Rattle.alt_value.specs.Values.{IsWholeItem}

-- a change of the program, as the machine has it
abbrev pub change_in : program.Change → Change
change_in c = record {
  number = c.number;
  moment = c.moment;
  old = c.old;
  new = c.new;
  by = c.by;
}

-- ---- its row

-- The key of a row is the number of the change, in 8 bytes.
abbrev pub row_key : ℕ → List ℕ
row_key n = to_be_bytes w64 n

-- an item is written as a map
abbrev pub item_bytes : List Pair → List ℕ
item_bytes item = cell_bytes (M_tree (fields_of item))

-- the column of an item, where it is there
abbrev pub item_column : List ℕ → Option (List Pair) → List (List ℕ × List ℕ)
item_column name item = option_to_list (option_map (λ i. (name, item_bytes i)) item)

-- the cell that tells who wrote it: none for a user, an empty one for time to live
abbrev pub writer_cell : Writer → Option (List ℕ)
writer_cell User = None
writer_cell Expiry = Some []

-- the column of that cell
abbrev pub writer_column : Writer → List (List ℕ × List ℕ)
writer_column writer =
    option_to_list (option_map (λ bytes. (codes "u", bytes)) (writer_cell writer))

-- the columns of a change of that moment, by their names
abbrev pub columns_of_change : ℕ → Writer → Option (List Pair) → Option (List Pair)
    → List (List ℕ × List ℕ)
columns_of_change moment writer old new = (codes "m", to_be_bytes w64 moment)
    ∷ (item_column (codes "n") new ++ (item_column (codes "o") old ++ writer_column writer))

-- its row
abbrev pub change_columns : Change → Columns
change_columns c = from_sorted (columns_of_change c.moment c.by c.old c.new)

-- ---- what a write does to the rows

-- the row of a change comes
abbrev pub row_change : ℕ → Change → RowChange
row_change family c = change_between family (row_key c.number) None (Some (change_columns c))

-- Where a table has a stream, the row of the change comes that a write leaves, if it leaves one.
abbrev pub row_changes : TableSchema → Option Change → List RowChange
row_changes d left =
    option_map_or (λ family. map (row_change family) (option_to_list left)) d.stream_family []

-- ---- what is read

-- an item as it is stored, in which no value is too deep
pub record IsReadItem (item : List Pair) : Type 0 where
  pub whole : IsWholeItem item
  pub depth : fields_depth (fields_of item) ≤ deepest

-- a change whose moment fits in 8 bytes, of such items
pub record IsReadChange (c : Change) : Type 0 where
  pub moment : c.moment < 2 ^ 64
  pub old : IfSome c.old IsReadItem
  pub new : IfSome c.new IsReadItem
