-- ListTables: answers names of tables, in the order of their bytes, page by page (DynamoDB API Reference, "ListTables").
use Rattle.std.specs.Prelude.{ℕ, List, [], ◌∷◌, length, take, nat_lt, Option, Some, None, option_and_then, unwrap_or, if◌then◌else◌, codes}
use Rattle.std.specs.List.{filter, last_or}
use Rattle.std.specs.Ordering.{is_lt}
use Rattle.std.specs.FinMap as map
use Rattle.serde_json.specs.Data.{string, array, Members, member, no_members}
use Rattle.alt_codec.specs.Writing.{strings}
use Rattle.alt_shape.specs.Bodies as bodies
use Rattle.alt_shape.specs.Refusals.{Answer, answered}
use Rattle.alt_shape.specs.Shape.{given, natural_of}
use Rattle.alt_schema.specs.Stated.{text_of}
use Rattle.alt_value.specs.Members.{text_order}
use Rattle.alt_machine.specs.declared.TheConstants.{PAGE_LENGTH}
use Rattle.alt_machine.specs.Body.{MemberRules, of_names, body_refusals}
use Rattle.alt_machine.specs.Outcomes.{Outcome, says, unless_refused}
use Rattle.alt_machine.specs.State.{State, Texts}

-- all its members are taken
abbrev pub rules : MemberRules
rules = of_names (codes "ExclusiveStartTableName" ∷ [])

-- what the body alone says
abbrev pub of_body : Members → List (Option Answer)
of_body ms = body_refusals (bodies.list_tables ms) rules ms

-- the name to start after, the empty one where none is given: it is before all names
abbrev pub start_name : Members → List ℕ
start_name = text_of (codes "ExclusiveStartTableName")

-- how many names are on a page at most
abbrev pub page_length : Members → ℕ
page_length ms = unwrap_or (option_and_then natural_of (given (codes "Limit") ms)) PAGE_LENGTH

-- the names after one, in order
abbrev pub names_after : {X : Type 0} → List ℕ → Texts X → List (List ℕ)
names_after start tables = filter (λ name. is_lt (text_order start name)) (map.keys tables)

-- the last name of a page, where it isn't the last of all
abbrev pub continues : ℕ → List (List ℕ) → Option (List ℕ)
continues most names = if nat_lt most (length names) then last_or None (take most names) else None

-- a page, and the name to go on after, where there is one
abbrev pub listed : Option (List ℕ) → List (List ℕ) → Answer
listed None page = answered (member (codes "TableNames") (array (strings page)) no_members)
listed (Some last) page =
    answered (member (codes "LastEvaluatedTableName") (string last)
    (member (codes "TableNames") (array (strings page)) no_members))

-- the first names of those, as many as a page takes
abbrev pub table_names_page : ℕ → List (List ℕ) → Answer
table_names_page most names = listed (continues most names) (take most names)

-- behind the tests the first page of the names after the one to start after is answered
unfoldable pub list_tables : State → Members → Outcome
list_tables s ms = unless_refused (of_body ms)
    (says (table_names_page (page_length ms) (names_after (start_name ms) s.tables)))
