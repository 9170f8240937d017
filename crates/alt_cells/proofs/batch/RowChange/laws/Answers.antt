-- The laws of changes, as they are proved in ChangeLaws.
use Rattle.alt_cells.proofs.ChangeLaws.{row_shown-written, IsBelow-join, written-change_between}
use Rattle.alt_cells.proofs.batch.RowChange.laws.Goals as goal

pub returns-clause-shown : goal.returns-clause-shown
returns-clause-shown c = row_shown-written

pub returns-clause-below : goal.returns-clause-below
returns-clause-below c = IsBelow-join

pub returns-clause-turns : goal.returns-clause-turns
returns-clause-turns c = written-change_between
