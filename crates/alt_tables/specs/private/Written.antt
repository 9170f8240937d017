-- What a write leaves of the rows beneath the tables.
use Rattle.std.specs.Prelude.{T, List}
use Rattle.alt_cells.specs.Batches.{is_distinct}
use Rattle.alt_cells.specs.declared.batch.RowChange.{RowChange}
use Rattle.alt_disk.specs.Disk.{DiskState}
use Rattle.alt_layout.specs.Layout.{Layout}
use Rattle.alt_rowchanges.specs.RowChanges.{changed_rows}
use Rattle.alt_tables.specs.Stands.{HasRows}
use Rattle.alt_tables.specs.declared.tables.Tables.{Tables}

-- The rows beneath the tables are those of the layout behind these changes, in which no row stands twice.
pub record IsWrittenAs (disk : DiskState) (t : Tables) (l : Layout) (changes : List RowChange)
    : Type 0 where
  pub distinct : T (is_distinct changes)
  pub rows : HasRows disk t (changed_rows l changes)
