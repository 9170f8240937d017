-- The cell's name is below those of the row.
use Rattle.std.proofs.Common.{sym, subst}
use Rattle.std.specs.FinMap.{entries}
use Rattle.std.specs.Prelude.{codes}
use Rattle.alt_cells.specs.Changes.{Columns}
use Rattle.alt_tablerows.specs.private.Cells.{AllBelow}
use Rattle.alt_tablerows.proofs.CellRows.{below_described}
use Rattle.alt_tablerows.proofs.catalog_row.row_with_time.Goals as goal

pub with_built_cell-requires : goal.with_built_cell-requires
with_built_cell-requires c = record {
  rises = subst (λ (r : Columns). AllBelow (codes "b") (entries r)) (sym c.in_ok-row.ensures.row)
      (below_described _ _);
}
