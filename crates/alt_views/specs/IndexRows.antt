-- The rows of an index (docs/formats/table-rows.md): the keys of the index and of the table make the row's key; its columns are the
-- marker and the other attributes that the index keeps. And the changes of these rows when an item changes.
use Rattle.std.specs.Prelude.{ℕ, not, List, [], ◌∷◌, if◌then◌else◌, Option, Some, None, option_map, option_and_then}
use Rattle.std.specs.List.{flat_map}
use Rattle.std.specs.Ordering.{eq_by_cmp}
use Rattle.std.specs.FinMap.Entries.{where_key}
use Rattle.alt_cells.specs.declared.batch.RowChange.{RowChange}
use Rattle.alt_cells.specs.Changes.{Columns, change_between}
use Rattle.alt_cells.specs.Keys.{key_cmp}
use Rattle.alt_machine.specs.Building.{is_built_of_item}
use Rattle.alt_machine.specs.Indexed.{index_entry}
use Rattle.alt_schema.specs.Indexes.{indexes, is_key}
use Rattle.alt_schema.specs.declared.schema.IndexSchema.{IndexSchema}
use Rattle.alt_schema.specs.declared.schema.KeyAttr.{KeyAttr}
use Rattle.alt_schema.specs.declared.schema.TableSchema.{TableSchema}
use Rattle.alt_value.specs.Members.{text_order}
use Rattle.alt_value.specs.Tree.{Pair}
use Rattle.alt_views.specs.ItemRows.{item_columns}

-- ---- rows

-- a row that stands at a key
abbrev pub KeyedRow : Type 0
KeyedRow = List ℕ × Columns

-- the attributes that aren't keys of these
abbrev pub beside : KeyAttr → Option KeyAttr → List Pair → List Pair
beside hash range = where_key text_order (λ name. not (is_key hash range name))

-- those that aren't keys of the index or of its table
abbrev pub beside_keys : TableSchema → IndexSchema → List Pair → List Pair
beside_keys d i item = beside i.hash i.range (beside d.hash d.range item)

-- the columns of what an index keeps of an item
abbrev pub index_columns : TableSchema → IndexSchema → List Pair → Columns
index_columns d i kept = item_columns (beside_keys d i kept)

-- an item's row in an index, if it is in it
abbrev pub row_in_index : TableSchema → IndexSchema → List Pair → Option KeyedRow
row_in_index d i item = option_map (λ e. (e.0, index_columns d i e.1)) (index_entry d i item)

-- the same, if the index is built of it
abbrev pub built_row : TableSchema → IndexSchema → List Pair → Option KeyedRow
built_row d i item = if is_built_of_item d i.built item then row_in_index d i item else None

-- ---- changes

-- a change that says nothing isn't made
abbrev pub if_said : RowChange → List RowChange
if_said c = said c.cells
  where
    said : List (List ℕ × Option (List ℕ)) → List RowChange
    said [] = []
    said (cell ∷ cells) = c ∷ []

-- A row of a family that was at one key and is at another: where the key stays, its columns change, if any do; else one row goes
-- and one comes.
abbrev pub moved_changes : ℕ → Option KeyedRow → Option KeyedRow → List RowChange
moved_changes family None None = []
moved_changes family (Some o) None = change_between family o.0 (Some o.1) None ∷ []
moved_changes family None (Some n) = change_between family n.0 None (Some n.1) ∷ []
moved_changes family (Some o) (Some n) =
    if eq_by_cmp key_cmp n.0 o.0 then if_said (change_between family o.0 (Some o.1) (Some n.1))
    else change_between family o.0 (Some o.1) None ∷ change_between family n.0 None (Some n.1) ∷ []

-- the changes of the rows of one index that is built of all items, when an item, if one was there, gives way to another, if one comes
abbrev pub moves_in : TableSchema → Option (List Pair) → Option (List Pair) → IndexSchema
    → List RowChange
moves_in d old new i = moved_changes i.family (option_and_then (row_in_index d i) old)
    (option_and_then (row_in_index d i) new)

-- and of one that is built of some
abbrev pub built_row_changes : TableSchema → Option (List Pair) → Option (List Pair) → IndexSchema
    → List RowChange
built_row_changes d old new i = moved_changes i.family (option_and_then (built_row d i) old)
    (option_and_then (built_row d i) new)

-- and those of all indexes of a table
abbrev pub index_changes : TableSchema → Option (List Pair) → Option (List Pair) → List RowChange
index_changes d old new = flat_map (built_row_changes d old new) (indexes d)
