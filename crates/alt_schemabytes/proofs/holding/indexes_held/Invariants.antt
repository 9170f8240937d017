-- Those so far are held.
use Rattle.std.proofs.Common.{take}
use Rattle.std.specs.List.{AllByRecursion}
use Rattle.alt_schemabytes.specs.Held.{IsHeldIndex}
use Rattle.alt_schemabytes.proofs.holding.indexes_held.Given as goal

abbrev pub invariant-loop-index : goal.invariant-loop-index
invariant-loop-index l = AllByRecursion IsHeldIndex (take l.index-index l.indexes)
