-- Those so far are held.
use Rattle.std.proofs.Common.{take}
use Rattle.std.specs.List.{AllByRecursion}
use Rattle.alt_schemabytes.specs.Held.{IsHeldText}
use Rattle.alt_schemabytes.proofs.holding.names_held.Given as goal

abbrev pub invariant-loop-name : goal.invariant-loop-name
invariant-loop-name l = AllByRecursion IsHeldText (take l.name-index l.names)
