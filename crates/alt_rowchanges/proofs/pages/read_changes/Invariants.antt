-- The changes of the rows so far are read.
use Rattle.std.proofs.Common.{map}
use Rattle.alt_changes.specs.ChangeRows.{change_in}
use Rattle.alt_rowchanges.specs.Pages.{AreChangesOf}
use Rattle.alt_rowchanges.proofs.pages.read_changes.Given as goal

abbrev pub invariant-loop-key : goal.invariant-loop-key
invariant-loop-key l = AreChangesOf l.yielded (map change_in l.changes.items)
