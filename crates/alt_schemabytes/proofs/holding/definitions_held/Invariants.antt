-- Those so far are held.
use Rattle.std.proofs.Common.{take}
use Rattle.std.specs.List.{AllByRecursion}
use Rattle.alt_schemabytes.specs.Held.{IsHeldText}
use Rattle.alt_schemabytes.proofs.holding.definitions_held.Given as goal

abbrev pub invariant-loop-definition : goal.invariant-loop-definition
invariant-loop-definition l = AllByRecursion (λ d. IsHeldText d.name)
    (take l.definition-index l.definitions)
