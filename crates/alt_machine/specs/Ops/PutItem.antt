-- PutItem: puts an item in the place of the one with its key, where a condition holds of that (DynamoDB API Reference, "PutItem").
use Rattle.std.specs.Prelude.{ℕ, nat_le, List, [], ◌∷◌, Option, Some, codes}
use Rattle.serde_json.specs.Data.{Members}
use Rattle.alt_shape.specs.Bodies as bodies
use Rattle.alt_shape.specs.Refusals.{Answer, bad_index_key, item_too_large}
use Rattle.alt_schema.specs.Indexes.{keys_fit}
use Rattle.alt_schema.specs.declared.schema.TableSchema.{TableSchema}
use Rattle.alt_value.specs.Size.{item_size}
use Rattle.alt_value.specs.Tree.{Pair}
use Rattle.alt_machine.specs.declared.TheConstants.{LARGEST_ITEM}
use Rattle.alt_machine.specs.Body.{MemberRules, body_refusals}
use Rattle.alt_machine.specs.declared.Sought.TheVariants.{Item}
use Rattle.alt_machine.specs.Conditional.{writes_if}
use Rattle.alt_machine.specs.declared.Expressions.{Expressions}
use Rattle.alt_machine.specs.Expressions.{conditional}
use Rattle.alt_machine.specs.Outcomes.{Outcome, unless_refused}
use Rattle.alt_machine.specs.Refusals.{refuse_unless}
use Rattle.alt_machine.specs.State.{State, Table}
use Rattle.alt_machine.specs.Targets.{on_item}

-- the rules of its members
abbrev pub rules : MemberRules
rules = record {
  legacy = codes "Expected" ∷ [];
  texts = codes "ConditionExpression" ∷ [];
  joined = codes "Expected" ∷ [];
  named = codes "TableName" ∷ [];
}

-- what the body alone says
abbrev pub of_body : Members → List (Option Answer)
of_body ms = body_refusals (bodies.put_item ms) rules ms

-- what the table says of the item, beside its key
abbrev pub of_item : TableSchema → List Pair → List (Option Answer)
of_item d item =
    refuse_unless (keys_fit d item) bad_index_key ∷
    refuse_unless (nat_le (item_size item) LARGEST_ITEM) item_too_large ∷ []

-- the item is put at its place, where the condition holds of the one that is there
abbrev pub puts : State → ℕ → Members → Expressions → List Pair → Table → List ℕ → Outcome
puts s moment ms said item t place = unless_refused (of_item t.description item)
    (writes_if said.condition s moment ms t place (Some item))

-- behind the tests of the body, the item is read and placed in its table, and is put there
unfoldable pub put_item : State → ℕ → Members → Outcome
put_item s moment ms = on_item (of_body ms) Item conditional s ms (puts s moment ms)
