-- GetItem: answers the item of a key, or parts of it (DynamoDB API Reference, "GetItem"; Developer Guide, "Using projection expressions in
-- DynamoDB").
use Rattle.std.specs.Prelude.{ℕ, List, [], ◌∷◌, Option, option_map, codes}
use Rattle.std.specs.FinMap as map
use Rattle.std.specs.Option.{option_map_or}
use Rattle.serde_json.specs.Data.{Members}
use Rattle.alt_shape.specs.Bodies as bodies
use Rattle.alt_shape.specs.Refusals.{Answer}
use Rattle.alt_expr.specs.Projected.{projected}
use Rattle.alt_expr.specs.declared.path.PathPart.{PathPart}
use Rattle.alt_value.specs.Tree.{Pair}
use Rattle.alt_machine.specs.Body.{MemberRules, body_refusals}
use Rattle.alt_machine.specs.declared.Expressions.{Expressions}
use Rattle.alt_machine.specs.declared.Sought.TheVariants.{Key}
use Rattle.alt_machine.specs.Expressions.{projecting}
use Rattle.alt_machine.specs.Outcomes.{Outcome, says}
use Rattle.alt_machine.specs.Replies.{item_answer}
use Rattle.alt_machine.specs.State.{State, Table}
use Rattle.alt_machine.specs.Targets.{on_item}

-- the rules of its members
abbrev pub rules : MemberRules
rules = record {
  legacy = codes "AttributesToGet" ∷ [];
  texts = codes "ProjectionExpression" ∷ [];
  joined = [];
  named = codes "TableName" ∷ [];
}

-- what the body alone says
abbrev pub of_body : Members → List (Option Answer)
of_body ms = body_refusals (bodies.get_item ms) rules ms

-- what paths choose of an item, or all of it where there are none
abbrev pub parts : Option (List (List PathPart)) → List Pair → List Pair
parts paths item = option_map_or (λ chosen. projected chosen item) paths item

-- what is asked for of the item at a place is answered, where there is one
abbrev pub gets : Expressions → List Pair → Table → List ℕ → Outcome
gets said key t place = says (item_answer (codes "Item")
    (option_map (parts said.projection) (map.get t.items place)))

-- behind the tests of the body, the key is read and placed in its table, and what is there is answered
unfoldable pub get_item : State → Members → Outcome
get_item s ms = on_item (of_body ms) Key projecting s ms gets
