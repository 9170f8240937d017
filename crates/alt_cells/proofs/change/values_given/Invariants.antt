-- The values so far, and those to come.
use Rattle.std.proofs.Common.{◌≡◌, ◌++◌, drop}
use Rattle.alt_cells.specs.Changes.{values_given}
use Rattle.alt_cells.proofs.change.values_given.Given as goal

-- what is out and what is given from here on stay together
abbrev pub invariant-loop-name : goal.invariant-loop-name
invariant-loop-name l = l.out.items ++ values_given (drop l.name-index l.given) ≡ values_given l.given
