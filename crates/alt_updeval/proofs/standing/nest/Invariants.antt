use Rattle.std.proofs.Common.{◌≡◌}
use Rattle.alt_value.specs.Stands.{tree_of}
use Rattle.alt_updeval.specs.StandsIn.{nest}
use Rattle.alt_updeval.proofs.standing.nest.Given as goal

abbrev pub invariant-loop : goal.invariant-loop
invariant-loop l = tree_of l.value ≡ nest l.counter
