-- What a request's body and its members say. One whose value is null counts as absent.
use Rattle.std.specs.Prelude.{ℕ, Bool, true, List, is_some, Option, Some, None, option_and_then, Result, Ok, Err, codes, if◌then◌else◌}
use Rattle.std.specs.List.{list_any}
use Rattle.std.specs.Option.{option_map_or}
use Rattle.std.specs.Str.{is_utf8}
use Rattle.std.specs.FinMap as map
use Rattle.serde_json.specs.Data.{Data, Members}
use Rattle.serde_json.specs.Find.{as_object, as_str}
use Rattle.serde_json.specs.Read.{read}
use Rattle.alt_codec.specs.declared.fault.ValueFault.{ValueFault}
use Rattle.alt_codec.specs.Reading.{item_in}
use Rattle.alt_schema.specs.Rules.{is_name}
use Rattle.alt_schema.specs.Stated.{text_of}
use Rattle.alt_shape.specs.Refusals.{Answer, refused, not_found, member_missing}
use Rattle.alt_shape.specs.Shape.{given}
use Rattle.alt_value.specs.Tree.{Pair}
use Rattle.alt_machine.specs.Refusals.{value_refusal, or_refused}
use Rattle.alt_machine.specs.State.{State, Table}

-- the members of a body, where it is text in UTF-8 of one JSON object; a text means what the reader of `serde_json` makes of it
abbrev pub body_of : List ℕ → Option Members
body_of bytes = if is_utf8 bytes then option_and_then as_object (read bytes) else None

-- whether one of these members is there
abbrev pub gives_any : List (List ℕ) → Members → Bool
gives_any names ms = list_any (λ name. is_some (given name ms)) names

-- the member, where it is there, is the name of a table or an index
abbrev pub may_name : Members → List ℕ → Bool
may_name ms name = option_map_or is_name (option_and_then as_str (given name ms)) true

-- the name of the table
abbrev pub table_name : Members → List ℕ
table_name = text_of (codes "TableName")

-- the table that is named, or that it isn't there
abbrev pub table_at : State → Members → Result Table Answer
table_at s ms = or_refused not_found (map.get s.tables (table_name ms))

-- an item that was read, or the refusal of its fault
abbrev pub unless_fault : Result (List Pair) ValueFault → Result (List Pair) Answer
unless_fault (Ok item) = Ok item
unless_fault (Err fault) = Err (refused (value_refusal fault))

-- the item or the key that a member is, of at most 32 levels
abbrev pub item_of : Option Data → Result (List Pair) Answer
item_of None = Err (refused member_missing)
item_of (Some d) = unless_fault (item_in 32 d)

-- the item or the key at a member, or the refusal of its first fault
abbrev pub item_at : List ℕ → Members → Result (List Pair) Answer
item_at name ms = item_of (given name ms)
