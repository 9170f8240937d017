-- The value is deeper than each depth that was tried.
use Rattle.std.proofs.Common.{◌≤◌}
use Rattle.alt_value.specs.Size.{depth}
use Rattle.alt_updeval.specs.Shown.{made_tree}
use Rattle.alt_updeval.proofs.standing.levels.Given as goal

abbrev pub invariant-loop-most : goal.invariant-loop-most
invariant-loop-most l = l.most ≤ depth (made_tree l.made)
