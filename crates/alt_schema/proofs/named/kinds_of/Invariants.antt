-- The map is that of the definitions so far, whose names differ.
use Rattle.std.proofs.Common.{◌≡◌, true, take}
use Rattle.alt_schema.specs.Named.{AreOf}
use Rattle.alt_schema.specs.Rules.{all_differ}
use Rattle.alt_schema.proofs.named.kinds_of.Given as goal

abbrev pub invariant-loop-definition : goal.invariant-loop-definition
invariant-loop-definition l =
    AreOf l.kinds (take l.definition-index l.definitions)
    × (all_differ (λ k. k.name) (take l.definition-index l.definitions) ≡ true)
