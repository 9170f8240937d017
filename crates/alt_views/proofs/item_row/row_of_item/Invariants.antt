-- Behind the marker stand the columns of the attributes so far.
use Rattle.std.proofs.Common.{◌≡◌, [], ◌∷◌, map, take}
use Rattle.std.specs.FinMap.{entries}
use Rattle.alt_views.specs.ItemRows.{column_of}
use Rattle.alt_views.proofs.item_row.row_of_item.Given as goal

abbrev pub invariant-loop-at : goal.invariant-loop-at
invariant-loop-at l = entries l.row ≡ ([], []) ∷ map column_of (take l.at l.item)
