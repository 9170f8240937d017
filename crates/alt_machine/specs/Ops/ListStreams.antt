-- ListStreams: answers the streams of tables, by the names of these, page by page (DynamoDB Streams API Reference, "ListStreams").
use Rattle.std.specs.Prelude.{ℕ, Bool, true, ◌&&◌, List, [], ◌∷◌, length, map, take, nat_lt, is_some, Option, None, option_map, option_and_then, codes, if◌then◌else◌}
use Rattle.std.specs.List.{filter, last_or}
use Rattle.std.specs.Option.{option_map_or}
use Rattle.std.specs.Ordering.{is_lt}
use Rattle.std.specs.Str.{bytes_eq}
use Rattle.serde_json.specs.Data.{Data, string, object, array, Members, member, no_members}
use Rattle.serde_json.specs.Find.{as_str}
use Rattle.alt_schema.specs.Json.{items_by, label, member_if, stream_arn}
use Rattle.alt_schema.specs.declared.schema.TableSchema.{TableSchema}
use Rattle.alt_shape.specs.Bodies as bodies
use Rattle.alt_shape.specs.Refusals.{Answer, answered, bad_stream_argument, bad_name}
use Rattle.alt_shape.specs.Shape.{given}
use Rattle.alt_value.specs.Members.{text_order}
use Rattle.alt_machine.specs.Body.{of_shape}
use Rattle.alt_machine.specs.Members.{may_name}
use Rattle.alt_machine.specs.Ops.ListTables.{page_length}
use Rattle.alt_machine.specs.Outcomes.{Outcome, says, unless_refused}
use Rattle.alt_machine.specs.Refusals.{refuse_unless}
use Rattle.alt_machine.specs.State.{State}
use Rattle.alt_machine.specs.Streams.{all_tables, table_of_stream}

-- the stream to start after, where one is given
abbrev pub start_stream_arn : Members → Option (List ℕ)
start_stream_arn ms = option_and_then as_str (given (codes "ExclusiveStartStreamArn") ms)

-- it is the stream of a table
abbrev pub is_start : State → Members → Bool
is_start s ms = option_map_or (λ arn. is_some (table_of_stream s arn)) (start_stream_arn ms) true

-- the tests of the body, the start among them
abbrev pub refusals : State → Members → List (Option Answer)
refusals s ms =
    of_shape (bodies.list_streams ms) ∷
    refuse_unless (is_start s ms) bad_stream_argument ∷
    refuse_unless (may_name ms (codes "TableName")) bad_name ∷ []

-- the table stands after that of the start, where a start is given
abbrev pub is_after : State → Members → TableSchema → Bool
is_after s ms d = option_map_or (λ t. is_lt (text_order t.description.name d.name))
    (option_and_then (table_of_stream s) (start_stream_arn ms)) true

-- it is the table that is named, where one is
abbrev pub is_asked_table : Members → TableSchema → Bool
is_asked_table ms d = option_map_or (bytes_eq d.name)
    (option_and_then as_str (given (codes "TableName") ms)) true

-- the descriptions of the tables whose streams are asked for
abbrev pub listed : State → Members → List TableSchema
listed s ms = filter (λ d. is_some d.view && (is_after s ms d && is_asked_table ms d))
    (map (λ t. t.description) (all_tables s))

-- a stream in a list
abbrev pub stream_json : TableSchema → Data
stream_json d = object
    (member (codes "StreamArn") (string (stream_arn d.name d.number))
    (member (codes "StreamLabel") (string (label d.number))
    (member (codes "TableName") (string d.name) no_members)))

-- the last stream of a page, where it isn't the last of all
abbrev pub continues : ℕ → List TableSchema → Option TableSchema
continues most ds = if nat_lt most (length ds) then last_or None (take most ds) else None

-- the first of these streams, as many as a page takes
abbrev pub streams_answer : ℕ → List TableSchema → Answer
streams_answer most ds = answered
    (member_if (codes "LastEvaluatedStreamArn")
    (option_map (λ d. string (stream_arn d.name d.number)) (continues most ds))
    (member (codes "Streams") (array (items_by stream_json (take most ds))) no_members))

-- behind the tests the first page of the streams that are asked for is answered
unfoldable pub list_streams : State → Members → Outcome
list_streams s ms = unless_refused (refusals s ms)
    (says (streams_answer (page_length ms) (listed s ms)))
