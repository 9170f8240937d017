-- A function within another is one level less.
use Rattle.std.proofs.Common.{◌+◌, ◌*◌}
use Rattle.alt_updparse.proofs.term.+term.Given as goal

abbrev pub decreases-term : goal.decreases-term
decreases-term l = 2 * l.depth

abbrev pub decreases-if_not_exists : goal.decreases-if_not_exists
decreases-if_not_exists l = 2 * l.depth + 1

abbrev pub decreases-list_append : goal.decreases-list_append
decreases-list_append l = 2 * l.depth + 1
