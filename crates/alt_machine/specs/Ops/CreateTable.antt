-- CreateTable: adds an empty table and answers its description (DynamoDB API Reference, "CreateTable").
use Rattle.std.specs.Prelude.{ℕ, ◌+◌, nat_le, Bool, true, false, not, List, [], ◌∷◌, length, Option, is_some, option_and_then, codes}
use Rattle.std.specs.Option.{option_map_or}
use Rattle.std.specs.FinMap as map
use Rattle.serde_json.specs.Data.{Members}
use Rattle.serde_json.specs.Find.{as_bool, as_object}
use Rattle.alt_shape.specs.Bodies as bodies
use Rattle.alt_shape.specs.Refusals.{Answer, not_together, table_exists, too_many_tables}
use Rattle.alt_shape.specs.Shape.{given}
use Rattle.alt_schema.specs.Described.{description_of}
use Rattle.alt_schema.specs.Json.{description_json}
use Rattle.alt_schema.specs.Rules.{create_table_refusal}
use Rattle.alt_schema.specs.declared.schema.TableSchema.{TableSchema}
use Rattle.alt_machine.specs.declared.TheConstants.{MOST_TABLES}
use Rattle.alt_machine.specs.Body.{of_shape}
use Rattle.alt_machine.specs.Members.{table_name}
use Rattle.alt_machine.specs.Outcomes.{Outcome, makes, unless_refused}
use Rattle.alt_machine.specs.Refusals.{refuse_if, refuse_by}
use Rattle.alt_machine.specs.Replies.{answers}
use Rattle.alt_machine.specs.State.{State, new_table, families_of}

-- ---- members that don't go together

-- whether a stream is asked for, where that is said
abbrev pub enables : Members → Option Bool
enables ms = option_and_then as_bool (given (codes "StreamEnabled") ms)

-- whether it is said what the stream shows
abbrev pub shows : Members → Bool
shows ms = is_some (given (codes "StreamViewType") ms)

-- a stream shows something exactly where it is enabled; that is so or it isn't
abbrev pub is_odd : Bool → Bool → Bool
is_odd true shows = not shows
is_odd false shows = shows

-- a stream that is enabled and shows nothing, or the other way round
abbrev pub mismatched : Members → Bool
mismatched ms = option_map_or (λ on. is_odd on (shows ms)) (enables ms) false

-- the object at StreamSpecification passes a test
abbrev pub of_stream : (Members → Bool) → Members → Bool
of_stream test ms = option_map_or test (option_and_then as_object
    (given (codes "StreamSpecification") ms)) false

-- ---- the operation

-- what the body alone says, before its names, keys and indexes are read
abbrev pub of_body : Members → List (Option Answer)
of_body ms =
    of_shape (bodies.create_table ms) ∷
    refuse_if (of_stream mismatched ms) not_together ∷ []

-- what it says of names, keys and indexes, and then what the tables say
abbrev pub of_tables : State → Members → List (Option Answer)
of_tables s ms =
    refuse_by (create_table_refusal ms) ∷
    refuse_if (map.contains_key s.tables (table_name ms)) table_exists ∷
    refuse_if (nat_le MOST_TABLES (map.len s.tables)) too_many_tables ∷ []

-- the state with an empty table of this description, which takes the next number and the next families
abbrev pub with_table : State → TableSchema → State
with_table s d = record {
  tables = map.insert s.tables d.name (new_table d);
  next_number = s.next_number + 1;
  next_family = s.next_family + length (families_of d);
}

-- a description, as it is answered
abbrev pub created : TableSchema → Answer
created d = answers (codes "TableDescription") (description_json d (codes "ACTIVE"))

-- the table of this description is made
abbrev pub creates : State → TableSchema → Outcome
creates s d = makes (with_table s d) (created d)

-- behind all tests the table that the body describes is made, with the next number and the next families
unfoldable pub create_table : State → ℕ → Members → Outcome
create_table s moment ms = unless_refused (of_body ms) (unless_refused (of_tables s ms)
    (creates s (description_of ms moment s.next_number s.next_family)))
