-- The row of the change is of another family than the changes of the item's row and of its index rows.
use Rattle.std.proofs.Common.{refl, sym, subst, false, List, ◌≡◌}
use Rattle.std.specs.Prelude.{option_map}
use Rattle.alt_cells.specs.Batches.{has_row}
use Rattle.alt_cells.specs.declared.batch.RowChange.{RowChange}
use Rattle.alt_cells.specs.Changes.{change_between}
use Rattle.alt_changes.specs.ChangeRows.{row_key}
use Rattle.alt_rowchanges.proofs.StreamShows.{change_new}
use Rattle.alt_rowchanges.proofs.items.item_batch.Goals as goal
use Rattle.alt_views.specs.ItemRows.{item_columns}

pub change_row-requires : goal.change_row-requires
change_row-requires c = record {
  row = λ family stream. subst (λ (batch : List RowChange).
      has_row batch family (row_key c.args.number) ≡ false) (sym c.in_ok-batch.ensures.changes)
      (change_new c.args.schema.now c.requires.families c.args.old.now c.args.new.now
      (change_between c.args.schema.now.family c.args.place
      (option_map item_columns c.args.old.now) (option_map item_columns c.args.new.now)) refl family
      stream (row_key c.args.number));
}
