-- The changes of rows that a write of the state makes (docs/formats/table-rows.md).
use Rattle.std.specs.Prelude.{ℕ, List, [], ◌∷◌, ◌++◌, Option, Some, None, option_map, T}
use Rattle.std.specs.List.{flat_map}
use Rattle.alt_cells.specs.Batches.{is_distinct}
use Rattle.alt_cells.specs.declared.batch.RowChange.{RowChange}
use Rattle.alt_cells.specs.Changes.{change_between}
use Rattle.alt_changes.specs.ChangeRows.{row_changes}
use Rattle.alt_changes.specs.TrimRows.{trim_changes}
use Rattle.alt_opening.specs.HandInHand.{batch_write}
use Rattle.alt_layout.specs.Layout.{Layout, IsPast}
use Rattle.alt_layout.specs.Writes.{with_write}
use Rattle.alt_codec.specs.declared.writer.Writer.{Writer}
use Rattle.alt_machine.specs.Changes.{change_left}
use Rattle.alt_machine.specs.State.{State}
use Rattle.alt_machine.specs.Valid.{IsValid}
use Rattle.alt_schema.specs.declared.schema.IndexSchema.{IndexSchema}
use Rattle.alt_schema.specs.declared.schema.TableSchema.{TableSchema}
use Rattle.alt_views.specs.IndexRows.{index_changes, moves_in}
use Rattle.alt_views.specs.ItemRows.{item_columns}
use Rattle.alt_value.specs.Tree.{Pair}
use Rattle.alt_opening.specs.StateRows.{Shows, IsHeldWhole, catalog_family, next_row, table_row}

-- of an item, by the write of a number at a moment: the change of its row, those of its rows in the indexes, and the row that the
-- stream gets, which tells who made the write
abbrev pub item_changes : TableSchema → ℕ → ℕ → Writer → List ℕ → Option (List Pair)
    → Option (List Pair) → List RowChange
item_changes d number moment writer place old new = change_between d.family place
    (option_map item_columns old) (option_map item_columns new)
    ∷ (index_changes d old new ++ row_changes d (change_left number moment writer old new))

-- of the write that leaves the item: these, the row of number 0 of the stream where the number of the last change that is trimmed rises, and rows
-- left over of such changes, which are hidden
abbrev pub write_changes : TableSchema → ℕ → ℕ → Writer → List ℕ → Option (List Pair)
    → Option (List Pair) → ℕ → ℕ → List ℕ → List RowChange
write_changes d number moment writer place old new before after leftovers =
    item_changes d number moment writer place old new ++ trim_changes d before after leftovers

-- of a new table: its description, and the next family
abbrev pub creation_changes : ℕ → ℕ → TableSchema → List RowChange
creation_changes before after d = change_between catalog_family d.name None (Some (table_row d))
    ∷ change_between catalog_family [] (next_row before) (next_row after) ∷ []

-- of a table that is dropped: its description goes, and its rows stay where nobody looks
abbrev pub drop_changes : TableSchema → List RowChange
drop_changes d = change_between catalog_family d.name (Some (table_row d)) None ∷ []

-- of a table that has another attribute for time to live, or none: the row of its description changes
abbrev pub time_changes : TableSchema → Option (List ℕ) → List RowChange
time_changes d ttl = change_between catalog_family d.name (Some (table_row d))
    (Some (table_row (record d { ttl = ttl }))) ∷ []

-- of a table that has another description: its row changes, and the next family
abbrev pub alter_changes : ℕ → ℕ → TableSchema → TableSchema → List RowChange
alter_changes before after d e = change_between catalog_family d.name (Some (table_row d))
    (Some (table_row e))
    ∷ change_between catalog_family [] (next_row before) (next_row after) ∷ []

-- of a table of which an index is built of these items more: the row of its description changes, and their rows in the index come
abbrev pub step_changes : TableSchema → TableSchema → IndexSchema → List (List ℕ × List Pair)
    → List RowChange
step_changes d e i more = change_between catalog_family d.name (Some (table_row d))
    (Some (table_row e))
    ∷ flat_map (λ (x : List ℕ × List Pair). moves_in d None (Some x.1) i) more

-- the rows behind these changes, which are one write with the next number
abbrev pub changed_rows : Layout → List RowChange → Layout
changed_rows l changes = with_write l (batch_write l changes)

-- Where no row stands twice in them, these row changes turn, as the next write, the rows of one state into those of another.
pub record Turns (changes : List RowChange) (s r : State) : Type 0 where
  pub shows : T (is_distinct changes) → (l : Layout) → IsPast l → Shows l s
      → Shows (changed_rows l changes) r
  pub valid : IsValid r
  pub held : IsHeldWhole r
