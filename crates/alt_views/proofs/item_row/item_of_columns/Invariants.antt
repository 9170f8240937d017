-- The item has the columns so far, and its values are as they are stored.
use Rattle.std.proofs.Common.{◌≡◌, ◌≤◌, T, map, take}
use Rattle.alt_machine.specs.Valid.{deepest}
use Rattle.alt_views.specs.ItemRows.{column_of}
use Rattle.alt_value.specs.Size.{fields_depth}
use Rattle.alt_value.specs.Tree.{fields_of}
use Rattle.alt_value.specs.Values.{fields_full}
use Rattle.alt_views.proofs.item_row.item_of_columns.Given as goal

abbrev pub invariant-loop-column : goal.invariant-loop-column
invariant-loop-column l = record {
  columns : map column_of l.item ≡ take l.column-index l.columns;
  full : T (fields_full (fields_of l.item));
  depth : fields_depth (fields_of l.item) ≤ deepest;
}
