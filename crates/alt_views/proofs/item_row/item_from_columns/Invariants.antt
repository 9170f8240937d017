-- The item has the columns that were given, and its values are as they are stored.
use Rattle.std.proofs.Common.{◌≡◌, ◌≤◌, T, map}
use Rattle.alt_machine.specs.Valid.{deepest}
use Rattle.alt_views.specs.ItemRows.{column_of}
use Rattle.alt_value.specs.Size.{fields_depth}
use Rattle.alt_value.specs.Tree.{fields_of}
use Rattle.alt_value.specs.Values.{fields_full}
use Rattle.alt_views.proofs.item_row.item_from_columns.Given as goal

abbrev pub invariant-loop-called : goal.invariant-loop-called
invariant-loop-called l = record {
  columns : map column_of l.item ≡ l.yielded;
  full : T (fields_full (fields_of l.item));
  depth : fields_depth (fields_of l.item) ≤ deepest;
}
