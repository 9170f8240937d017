-- Query: answers a page of the items of one HASH value, by their RANGE values, in a table or in one of its indexes (DynamoDB API
-- Reference, "Query"; Developer Guide, "Key condition expressions for the Query operation").
use Rattle.std.specs.Prelude.{ℕ, Bool, true, List, [], ◌∷◌, Option, option_map, option_and_then, unwrap_or, Some, Result, codes}
use Rattle.serde_json.specs.Data.{Members}
use Rattle.serde_json.specs.Find.{as_bool}
use Rattle.alt_expr.specs.KeyForm.{Key, Ask, ask_of}
use Rattle.alt_expr.specs.Pages.{passes}
use Rattle.alt_expr.specs.declared.cond.Cond.{Cond}
use Rattle.alt_schema.specs.declared.schema.IndexSchema.{IndexSchema}
use Rattle.alt_schema.specs.declared.schema.KeyAttr.{KeyAttr}
use Rattle.alt_schema.specs.declared.schema.TableSchema.{TableSchema}
use Rattle.alt_shape.specs.Bodies as bodies
use Rattle.alt_shape.specs.Refusals.{Answer, bad_key_condition}
use Rattle.alt_shape.specs.Shape.{given}
use Rattle.alt_value.specs.Tree.{Pair}
use Rattle.alt_machine.specs.Body.{MemberRules, paired_refusals}
use Rattle.alt_machine.specs.declared.Expressions.{Expressions}
use Rattle.alt_machine.specs.Expressions.{querying}
use Rattle.alt_machine.specs.Lists.{is_mismatched, walk_start, listed, pages, on_list}
use Rattle.alt_machine.specs.Outcomes.{Outcome, with_found}
use Rattle.alt_machine.specs.Refusals.{or_refused}
use Rattle.alt_machine.specs.Sources.{index_at, hash_of, range_of}
use Rattle.alt_machine.specs.State.{State, Table}

-- the rules of its members
abbrev pub rules : MemberRules
rules = record {
  legacy = codes "KeyConditions" ∷ codes "QueryFilter" ∷ codes "AttributesToGet" ∷ [];
  texts = codes "KeyConditionExpression" ∷ codes "FilterExpression"
      ∷ codes "ProjectionExpression" ∷ [];
  joined = codes "QueryFilter" ∷ [];
  named = codes "TableName" ∷ codes "IndexName" ∷ [];
}

-- what the body alone says
abbrev pub of_body : Members → List (Option Answer)
of_body ms = paired_refusals (bodies.query ms) (is_mismatched ms) rules ms

-- a key attribute, as key conditions speak of it
abbrev pub key_of : KeyAttr → Key
key_of attribute = record { name = attribute.name; kind = attribute.kind }

-- what the key condition asks, where it has the form of one
abbrev pub key_asked : TableSchema → Option IndexSchema → Option Cond → Result Ask Answer
key_asked d i condition = or_refused bad_key_condition (option_and_then
    (ask_of (key_of (hash_of d i)) (option_map key_of (range_of d i))) condition)

-- the items rise by their RANGE values, unless ScanIndexForward is false
abbrev pub goes_forward : Members → Bool
goes_forward ms = unwrap_or (option_and_then as_bool (given (codes "ScanIndexForward") ms)) true

-- the list is that of the items of which the key condition holds
abbrev pub queries : Members → Expressions → Option (List Pair) → Table → Option ℕ → Outcome
queries ms said start t index =
    let i = index_at t.description index in
    with_found (key_asked t.description i said.key_condition) (λ ask.
    with_found (walk_start t.description i (Some ask.hash) start) (λ place.
    pages t.description i ms said (listed (goes_forward ms) place (passes said.key_condition) t i)))

-- behind the tests, in the table or the index that is asked for, the page of that list is answered
unfoldable pub query : State → Members → Outcome
query s ms = on_list (of_body ms) querying s ms (queries ms)
