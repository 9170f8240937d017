-- DescribeTable: answers a table's description (DynamoDB API Reference, "DescribeTable").
use Rattle.std.specs.Prelude.{List, [], ◌∷◌, Option, codes}
use Rattle.serde_json.specs.Data.{Members}
use Rattle.alt_shape.specs.Bodies as bodies
use Rattle.alt_shape.specs.Refusals.{Answer}
use Rattle.alt_schema.specs.Json.{description_json}
use Rattle.alt_schema.specs.declared.schema.TableSchema.{TableSchema}
use Rattle.alt_machine.specs.Body.{MemberRules, of_names, body_refusals}
use Rattle.alt_machine.specs.Outcomes.{Outcome, says}
use Rattle.alt_machine.specs.Replies.{answers}
use Rattle.alt_machine.specs.State.{State}
use Rattle.alt_machine.specs.Targets.{on_table}

-- all its members are taken
abbrev pub rules : MemberRules
rules = of_names (codes "TableName" ∷ [])

-- what the body alone says
abbrev pub of_body : Members → List (Option Answer)
of_body ms = body_refusals (bodies.describe_table ms) rules ms

-- a table's description, as it is answered
abbrev pub described : TableSchema → Answer
described d = answers (codes "Table") (description_json d (codes "ACTIVE"))

-- behind the tests the description of the table that is named is answered
unfoldable pub describe_table : State → Members → Outcome
describe_table s ms = on_table (of_body ms) s ms (λ t. says (described t.description))
