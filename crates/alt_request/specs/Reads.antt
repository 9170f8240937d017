-- What a read of one item comes to, once its place is known.
use Rattle.std.specs.Prelude.{ℕ, List, Option}
use Rattle.std.specs.FinMap as map
use Rattle.alt_machine.specs.declared.Expressions.{Expressions}
use Rattle.alt_machine.specs.Outcomes.{Outcome, says}
use Rattle.alt_machine.specs.State.{Table}
use Rattle.alt_shape.specs.Refusals.{Answer}
use Rattle.alt_value.specs.Tree.{Pair}

-- what an operation answers of what its expressions say and of what stands at a place
abbrev pub finds : (Expressions → Option (List Pair) → Answer) → Expressions → Table → List ℕ
    → Outcome
finds answer said t place = says (answer said (map.get t.items place))
