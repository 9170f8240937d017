-- The row of an item (docs/formats/table-rows.md): a marker, and a column for each attribute.
use Rattle.std.specs.Prelude.{◌<◌, ◌≤◌, ℕ, List, [], ◌∷◌, length, map}
use Rattle.std.specs.FinMap.{from_entries}
use Rattle.alt_cells.specs.Changes.{Columns}
use Rattle.alt_machine.specs.Valid.{deepest}
use Rattle.alt_value.specs.CellBytes.{cell_bytes}
use Rattle.alt_value.specs.Size.{depth, fields_depth}
use Rattle.alt_value.specs.Tree.{Pair, fields_of}
use Rattle.alt_value.specs.Values.{IsText, IsWhole, IsWholeItem}

-- the column of an attribute: its name, with its cell bytes
abbrev pub column_of : Pair → List ℕ × List ℕ
column_of p = (p.0, cell_bytes p.1)

-- The marker stands at the empty name and is empty; behind it stand the attributes.
abbrev pub item_columns : List Pair → Columns
item_columns item = from_entries (([], []) ∷ map column_of item)

-- ---- what is read as one

-- a value as it is stored, which isn't too deep, at a name that isn't empty
pub record IsAttribute (p : Pair) : Type 0 where
  pub named : 0 < length p.0
  pub name : IsText p.0
  pub value : IsWhole p.1
  pub depth : depth p.1 ≤ deepest

-- an item of such attributes
pub record IsReadItem (item : List Pair) : Type 0 where
  pub whole : IsWholeItem item
  pub depth : fields_depth (fields_of item) ≤ deepest
