-- DeleteItem: takes out the item of a key, where a condition holds of it (DynamoDB API Reference, "DeleteItem").
use Rattle.std.specs.Prelude.{ℕ, List, [], ◌∷◌, Option, None, codes}
use Rattle.serde_json.specs.Data.{Members}
use Rattle.alt_shape.specs.Bodies as bodies
use Rattle.alt_shape.specs.Refusals.{Answer}
use Rattle.alt_value.specs.Tree.{Pair}
use Rattle.alt_machine.specs.Body.{MemberRules, body_refusals}
use Rattle.alt_machine.specs.Conditional.{writes_if}
use Rattle.alt_machine.specs.declared.Expressions.{Expressions}
use Rattle.alt_machine.specs.declared.Sought.TheVariants.{Key}
use Rattle.alt_machine.specs.Expressions.{conditional}
use Rattle.alt_machine.specs.Outcomes.{Outcome}
use Rattle.alt_machine.specs.State.{State, Table}
use Rattle.alt_machine.specs.Targets.{on_item}

-- the rules of its members
abbrev pub rules : MemberRules
rules = record {
  legacy = codes "Expected" ∷ [];
  texts = codes "ConditionExpression" ∷ [];
  joined = codes "Expected" ∷ [];
  named = codes "TableName" ∷ [];
}

-- what the body alone says
abbrev pub of_body : Members → List (Option Answer)
of_body ms = body_refusals (bodies.delete_item ms) rules ms

-- nothing is left at the place of the key
abbrev pub deletes : State → ℕ → Members → Expressions → List Pair → Table → List ℕ → Outcome
deletes s moment ms said key t place = writes_if said.condition s moment ms t place None

-- behind the tests of the body, the key is read and placed in its table, and what is there is taken out
unfoldable pub delete_item : State → ℕ → Members → Outcome
delete_item s moment ms = on_item (of_body ms) Key conditional s ms (deletes s moment ms)
