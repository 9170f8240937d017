-- DeleteTable: takes a table out with all its items and answers its description (DynamoDB API Reference, "DeleteTable"). The
-- table is gone at once.
use Rattle.std.specs.Prelude.{ℕ, List, [], ◌∷◌, Option, codes}
use Rattle.std.specs.FinMap as map
use Rattle.serde_json.specs.Data.{Members}
use Rattle.alt_shape.specs.Bodies as bodies
use Rattle.alt_shape.specs.Refusals.{Answer}
use Rattle.alt_schema.specs.Json.{description_json}
use Rattle.alt_schema.specs.declared.schema.TableSchema.{TableSchema}
use Rattle.alt_machine.specs.Body.{MemberRules, of_names, body_refusals}
use Rattle.alt_machine.specs.Members.{table_name}
use Rattle.alt_machine.specs.Outcomes.{Outcome, writes}
use Rattle.alt_machine.specs.Replies.{answers}
use Rattle.alt_machine.specs.State.{State, after_write}
use Rattle.alt_machine.specs.Targets.{on_table}

-- all its members are taken
abbrev pub rules : MemberRules
rules = of_names (codes "TableName" ∷ [])

-- what the body alone says
abbrev pub of_body : Members → List (Option Answer)
of_body ms = body_refusals (bodies.delete_table ms) rules ms

-- the state without the table of that name
abbrev pub without_table : State → List ℕ → State
without_table s name = after_write s (map.remove s.tables name)

-- its description, as it is answered
abbrev pub deleted : TableSchema → Answer
deleted d = answers (codes "TableDescription") (description_json d (codes "DELETING"))

-- behind the tests the table that is named is taken out
unfoldable pub delete_table : State → Members → Outcome
delete_table s ms = on_table (of_body ms) s ms
    (λ t. writes (without_table s (table_name ms) ∷ []) (deleted t.description))
