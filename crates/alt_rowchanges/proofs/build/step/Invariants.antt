-- The rows of the items so far come.
use Rattle.std.proofs.Common.{◌≡◌, ◌≤◌, Some, take}
use Rattle.alt_machine.specs.Building.{building_in}
use Rattle.alt_schema.specs.declared.schema.IndexSchema.{IndexSchema}
use Rattle.alt_rowchanges.specs.Steps.{AreApartIn, step_row_changes}
use Rattle.alt_rowchanges.proofs.build.step.Given as goal

abbrev pub invariant-loop-n : goal.invariant-loop-n
invariant-loop-n l = (i : IndexSchema) → building_in l.schema ≡ Some i → 1 ≤ i.family
    → AreApartIn l.schema i l.items → l.batch ≡ step_row_changes l.schema l.later i (take l.n l.items)
