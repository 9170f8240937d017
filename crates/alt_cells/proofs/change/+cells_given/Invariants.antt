-- It goes on with halves of what is given.
use Rattle.std.proofs.Common.{length}
use Rattle.alt_cells.proofs.change.+cells_given.Given as goal

abbrev pub decreases-cells_given : goal.decreases-cells_given
decreases-cells_given l = length l.given.now
