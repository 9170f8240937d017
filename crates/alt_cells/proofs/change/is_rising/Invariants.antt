-- Each name so far is above the one before it.
use Rattle.std.proofs.Common.{◌≡◌, ◌+◌, ◌<◌, ℕ, List, Option, get_or}
use Rattle.std.specs.declared.cmp.Ordering.TheVariants.{Less}
use Rattle.alt_cells.specs.Keys.{key_cmp}
use Rattle.alt_cells.proofs.change.is_rising.Given as goal

abbrev pub invariant-loop-at : goal.invariant-loop-at
invariant-loop-at l = (k : ℕ) (d : List ℕ × Option (List ℕ)) → k + 1 < l.at
    → key_cmp (get_or l.given k d).0 (get_or l.given (k + 1) d).0 ≡ Less
