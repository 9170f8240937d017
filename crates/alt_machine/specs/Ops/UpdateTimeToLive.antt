-- UpdateTimeToLive: says which attribute of a table's items tells when their time is over, or that none does (DynamoDB API Reference,
-- "UpdateTimeToLive").
use Rattle.std.specs.Prelude.{ℕ, Bool, true, false, not, ◌||◌, ◌==◌, nat_lt, length, codes, if◌then◌else◌, List, [], ◌∷◌, Option, Some, None, is_some, option_and_then, unwrap_or}
use Rattle.std.specs.FinMap as map
use Rattle.std.specs.Option.{option_map_or}
use Rattle.std.specs.Str.{bytes_eq}
use Rattle.serde_json.specs.Data.{Data, Members, boolean, member, no_members, object, string}
use Rattle.serde_json.specs.Find.{as_bool, as_object}
use Rattle.alt_shape.specs.BodyParts.{first_shape_fault, in_object, required}
use Rattle.alt_shape.specs.Refusals.{Answer, bad_time_to_live}
use Rattle.alt_shape.specs.Shape.{a_text, a_truth, an_object, first_unmet, given}
use Rattle.alt_shape.specs.declared.rule.Broken.{Broken}
use Rattle.alt_schema.specs.Stated.{text_of}
use Rattle.alt_schema.specs.declared.schema.TableSchema.{TableSchema}
use Rattle.alt_machine.specs.Body.{MemberRules, of_names, body_refusals}
use Rattle.alt_machine.specs.Members.{table_name}
use Rattle.alt_machine.specs.Outcomes.{Outcome, unless_refused, writes}
use Rattle.alt_machine.specs.Refusals.{refuse_if}
use Rattle.alt_machine.specs.Replies.{answers}
use Rattle.alt_machine.specs.State.{State, Table, after_write}
use Rattle.alt_machine.specs.Targets.{on_table}

-- ---- the body

-- what is said of an attribute: its name, and whether it tells the time
abbrev pub specified : Members → Option Broken
specified = in_object (codes "TimeToLiveSpecification") (first_unmet
    (required (codes "AttributeName") a_text ∷ required (codes "Enabled") a_truth ∷ []))

-- it names a table, and says that of an attribute
abbrev pub shape : Members → Option Broken
shape ms = first_shape_fault (
    first_unmet (required (codes "TableName") a_text
    ∷ required (codes "TimeToLiveSpecification") an_object ∷ []) ms ∷ specified ms ∷ [])

-- all its members are taken
abbrev pub rules : MemberRules
rules = of_names (codes "TableName" ∷ [])

-- what the body alone says
abbrev pub of_body : Members → List (Option Answer)
of_body ms = body_refusals (shape ms) rules ms

-- what is said of the attribute
abbrev pub said : Members → Members
said ms = unwrap_or (option_and_then as_object (given (codes "TimeToLiveSpecification") ms)) no_members

-- its name
abbrev pub attribute : Members → List ℕ
attribute ms = text_of (codes "AttributeName") (said ms)

-- whether it is to tell the time, or no longer
abbrev pub enables : Members → Bool
enables ms = unwrap_or (option_and_then as_bool (given (codes "Enabled") (said ms))) false

-- ---- what is refused

-- the longest name of an attribute, in bytes
abbrev pub longest_name : ℕ
longest_name = 255

-- no attribute has that name
abbrev pub is_no_name : List ℕ → Bool
is_no_name name = (length name == 0) || nat_lt longest_name (length name)

-- Where it is to tell the time, the table has no attribute that does; where it isn't to any longer, the table's is this one.
abbrev pub may_change : Bool → List ℕ → Option (List ℕ) → Bool
may_change true name ttl = not (is_some ttl)
may_change false name ttl = option_map_or (λ own. bytes_eq own name) ttl false

-- the name is none, or that can't be done with the table's attribute
abbrev pub is_barred : Members → TableSchema → Bool
is_barred ms d = is_no_name (attribute ms)
    || not (may_change (enables ms) (attribute ms) d.ttl)

-- so it is refused
abbrev pub of_time : Members → TableSchema → List (Option Answer)
of_time ms d = refuse_if (is_barred ms d) bad_time_to_live ∷ []

-- ---- the operation

-- the attribute that tells the time then
abbrev pub time_left : Members → Option (List ℕ)
time_left ms = if enables ms then Some (attribute ms) else None

-- a table with another attribute for that, or none
abbrev pub timed : Option (List ℕ) → Table → Table
timed ttl t = record t { description = record t.description { ttl = ttl } }

-- the state in which the table of that name has it
abbrev pub with_time : State → List ℕ → Table → Option (List ℕ) → State
with_time s name t ttl = after_write s (map.insert s.tables name (timed ttl t))

-- a name, and whether it tells the time
abbrev pub time_json : List ℕ → Bool → Data
time_json name enabled = object (member (codes "AttributeName") (string name)
    (member (codes "Enabled") (boolean enabled) no_members))

-- what was said, as it is answered
abbrev pub time_said : Members → Answer
time_said ms = answers (codes "TimeToLiveSpecification") (time_json (attribute ms) (enables ms))

-- behind the tests the table that is named has the attribute, or has it no longer
unfoldable pub update_time_to_live : State → Members → Outcome
update_time_to_live s ms = on_table (of_body ms) s ms (λ t.
    unless_refused (of_time ms t.description)
    (writes (with_time s (table_name ms) t (time_left ms) ∷ []) (time_said ms)))
