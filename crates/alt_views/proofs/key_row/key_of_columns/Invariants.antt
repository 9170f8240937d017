-- The columns so far are read.
use Rattle.alt_views.proofs.OwnKeys.{IsReadTo}
use Rattle.alt_views.proofs.key_row.key_of_columns.Given as goal

abbrev pub invariant-loop-column : goal.invariant-loop-column
invariant-loop-column l = IsReadTo l.schema l.most l.columns l.column-index l.key l.left
