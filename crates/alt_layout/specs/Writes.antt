-- The changes of a write as rows of a family, and the layout after writes. Of several changes of one row in a write each counts: they are joined.
use Rattle.std.specs.Prelude.{◌+◌, ◌==◌, ℕ, List, [], ◌∷◌, if◌then◌else◌}
use Rattle.std.specs.FinMap.{empty, from_sorted}
use Rattle.alt_cells.specs.declared.batch.RowChange.{RowChange}
use Rattle.alt_cells.specs.declared.row.RowCells.{RowCells}
use Rattle.alt_cells.specs.Changes.{row_of_change}
use Rattle.alt_cells.specs.Joined.{joined_map}
use Rattle.alt_cells.specs.Rows.{join_row}
use Rattle.alt_layout.specs.Layout.{Layout, RowMap}
use Rattle.alt_writes.specs.Writes.{Write}

-- A map of one row.
abbrev pub one_row : List ℕ → RowCells → RowMap
one_row key row = from_sorted ((key, row) ∷ [])

-- The rows that a write of this number gives the family: each change of it as a row, joined.
abbrev pub changes_in : ℕ → ℕ → List RowChange → RowMap
changes_in number family [] = empty
changes_in number family (c ∷ cs) =
    if c.family == family
    then joined_map join_row (one_row c.key (row_of_change number c)) (changes_in number family cs)
    else changes_in number family cs

-- The rows of a family joined with what several writes give it, the first one first.
abbrev pub rows_with : ℕ → RowMap → List Write → RowMap
rows_with family m [] = m
rows_with family m (w ∷ ws) =
    rows_with family (joined_map join_row m (changes_in w.number family w.changes)) ws

-- The layout after a write: each family's rows joined with those of the write, and the next number is behind it.
abbrev pub with_write : Layout → Write → Layout
with_write l w = record {
  rows = λ family. joined_map join_row (l.rows family)
      (changes_in w.number family w.changes);
  next_number = w.number + 1;
}

-- The layout after several writes, the first one first.
abbrev pub with_writes : Layout → List Write → Layout
with_writes l [] = l
with_writes l (w ∷ ws) = with_writes (with_write l w) ws
