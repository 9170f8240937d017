-- DescribeTimeToLive: answers whether a table's items have a time to live, and the attribute that tells it (DynamoDB API Reference,
-- "DescribeTimeToLive").
use Rattle.std.specs.Prelude.{ℕ, List, [], ◌∷◌, Option, Some, None, codes}
use Rattle.serde_json.specs.Data.{Data, Members, member, no_members, object, string}
use Rattle.alt_shape.specs.Bodies as bodies
use Rattle.alt_shape.specs.Refusals.{Answer}
use Rattle.alt_schema.specs.declared.schema.TableSchema.{TableSchema}
use Rattle.alt_machine.specs.Body.{MemberRules, of_names, body_refusals}
use Rattle.alt_machine.specs.Outcomes.{Outcome, says}
use Rattle.alt_machine.specs.Replies.{answers}
use Rattle.alt_machine.specs.State.{State}
use Rattle.alt_machine.specs.Targets.{on_table}

-- all its members are taken
abbrev pub rules : MemberRules
rules = of_names (codes "TableName" ∷ [])

-- what the body alone says: it names a table, as that of a DescribeTable
abbrev pub of_body : Members → List (Option Answer)
of_body ms = body_refusals (bodies.describe_table ms) rules ms

-- whether there is an attribute that tells it, and which
abbrev pub time_json : Option (List ℕ) → Data
time_json None = object (member (codes "TimeToLiveStatus") (string (codes "DISABLED")) no_members)
time_json (Some name) = object (member (codes "AttributeName") (string name)
    (member (codes "TimeToLiveStatus") (string (codes "ENABLED")) no_members))

-- as it is answered
abbrev pub described : TableSchema → Answer
described d = answers (codes "TimeToLiveDescription") (time_json d.ttl)

-- behind the tests what the table that is named says is answered
unfoldable pub describe_time_to_live : State → Members → Outcome
describe_time_to_live s ms = on_table (of_body ms) s ms (λ t. says (described t.description))
