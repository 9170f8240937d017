-- The streams that a ListStreams goes through, and what it says of the one to start after.
use Rattle.std.specs.Prelude.{◌≡◌, ℕ, Bool, true, false, ◌&&◌, List, [], map as each, is_some, Option, Some, None, option_map, option_and_then, codes, if◌then◌else◌, Result, Ok, Err}
use Rattle.std.specs.Borrow.{Bor}
use Rattle.std.specs.FinMap as map
use Rattle.std.specs.List.{filter, last_or}
use Rattle.std.specs.Option.{option_map_or}
use Rattle.std.specs.Ordering.{is_lt}
use Rattle.std.specs.Str.{bytes_eq}
use Rattle.serde_json.specs.Data.{string, array, Members, member, no_members}
use Rattle.serde_json.specs.Find.{as_str}
use Rattle.alt_machine.specs.Ops.ListStreams.{start_stream_arn, is_start, refusals, stream_json}
use Rattle.alt_machine.specs.Refusals.{first_answer}
use Rattle.alt_machine.specs.State.{State, Texts, descriptions}
use Rattle.alt_machine.specs.Streams.{table_of_stream}
use Rattle.alt_machine.specs.Valid.{IsValid}
use Rattle.alt_request.specs.declared.stop.Stop.{Stop}
use Rattle.alt_request.specs.declared.stop.Stop.TheVariants.{Refused, Fault}
use Rattle.alt_schema.specs.Json.{items_by, member_if, stream_arn}
use Rattle.alt_schema.specs.declared.schema.TableSchema.{TableSchema}
use Rattle.alt_shape.specs.Refusals.{Answer, IsKnown, answered, refused, bad_stream_argument}
use Rattle.alt_shape.specs.Shape.{given}
use Rattle.alt_request.specs.TablesFaults.{IsReadFault}
use Rattle.alt_value.specs.Members.{text_order}

-- ---- the streams behind a name

-- The tables are known by their own names, as they are in each valid state.
abbrev pub TablesHaveOwnNames : Texts TableSchema → Type 0
TablesHaveOwnNames catalog = (name : List ℕ) (d : TableSchema) → map.get catalog name ≡ Some d → d.name ≡ name

-- the descriptions, in the order of the names
abbrev pub all_in : Texts TableSchema → List TableSchema
all_in catalog = each (λ e. e.1) (map.entries catalog)

-- it is the table of that name, where one is given
abbrev pub is_table_of_name : Option (List ℕ) → TableSchema → Bool
is_table_of_name name d = option_map_or (bytes_eq d.name) name true

-- it has a stream, stands after the last one, and is the table of that name, where one is given
abbrev pub is_listed : List ℕ → Option (List ℕ) → TableSchema → Bool
is_listed last name d = is_some d.view && (is_lt (text_order last d.name) && is_table_of_name name d)

-- all of those
abbrev pub streams_after : List ℕ → Option (List ℕ) → Texts TableSchema → List TableSchema
streams_after last name catalog = filter (is_listed last name) (all_in catalog)

-- the name of the table to start after, the empty one where none is given: it is before all names
abbrev pub start_table_name : Option TableSchema → List ℕ
start_table_name start = option_map_or (λ d. d.name) start []

-- the name of the table whose streams are asked for
abbrev pub name_given : Members → Option (List ℕ)
name_given ms = option_and_then as_str (given (codes "TableName") ms)

-- ---- the page

-- the last of a page, where it isn't the last of all
abbrev pub last_table_of_page : Bool → List TableSchema → Option TableSchema
last_table_of_page more ds = if more then last_or None ds else None

-- a page as it is answered
abbrev pub streams_page_answer : Bool → List TableSchema → Answer
streams_page_answer more ds = answered
    (member_if (codes "LastEvaluatedStreamArn")
    (option_map (λ d. string (stream_arn d.name d.number)) (last_table_of_page more ds))
    (member (codes "Streams") (array (items_by stream_json ds)) no_members))

-- ---- the request

-- that is the description of the table to start after, in this state
abbrev pub StartsAfter : State → Members → Option TableSchema → Type 0
StartsAfter s ms start =
    option_map (λ t. t.description) (option_and_then (table_of_stream s) (start_stream_arn ms)) ≡ start

-- That is the table to start after, if one is given; or it is refused; or memory was wanting.
abbrev pub IsStart : Texts TableSchema → Members → Result (Option (Bor TableSchema)) Stop → Type 0
IsStart catalog ms (Ok o) = (s : State) → IsValid s → descriptions s.tables ≡ catalog
    → (is_start s ms ≡ true) × StartsAfter s ms (option_map (λ d. d.now) o)
IsStart catalog ms (Err (Refused r)) = (r ≡ bad_stream_argument)
    × ((s : State) → IsValid s → descriptions s.tables ≡ catalog → is_start s ms ≡ false)
IsStart catalog ms (Err (Fault f)) = IsReadFault f

-- Nothing refuses the request, and that is the table to start after, if one is given; or the machine refuses it too; or memory was wanting.
abbrev pub StartsAfterOrRefused : Texts TableSchema → Members → Result (Option (Bor TableSchema)) Stop → Type 0
StartsAfterOrRefused catalog ms (Ok o) = (s : State) → IsValid s → descriptions s.tables ≡ catalog
    → (first_answer (refusals s ms) ≡ None) × StartsAfter s ms (option_map (λ d. d.now) o)
StartsAfterOrRefused catalog ms (Err (Refused r)) = IsKnown r
    × ((s : State) → IsValid s → descriptions s.tables ≡ catalog
    → first_answer (refusals s ms) ≡ Some (refused r))
StartsAfterOrRefused catalog ms (Err (Fault f)) = IsReadFault f
