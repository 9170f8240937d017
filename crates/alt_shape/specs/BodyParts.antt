-- Parts of bodies that many operations share: demands, the first fault inside a value, and members of the older interface.
use Rattle.std.specs.Prelude.{ℕ, List, [], ◌∷◌, true, false, Option, Some, None, codes, if◌then◌else◌, is_some, option_and_then}
use Rattle.std.specs.Option.{option_map_or}
use Rattle.serde_json.specs.Data.{Data, Items, no_items, item, Members, no_members, member}
use Rattle.serde_json.specs.Find.{as_str, as_array, as_object}
use Rattle.alt_shape.specs.declared.rule.Broken.{Broken}
use Rattle.alt_shape.specs.declared.rule.Broken.TheVariants.{WrongKind}
use Rattle.alt_shape.specs.Shape.{Form, a_truth, an_object, an_array, a_word, Demand, given, or_next_fault, first_unmet}

-- ---- demands

-- a member that has to be there
abbrev pub required : List ℕ → Form → Demand
required name form = record { name = name; form = form; must = true }

-- a member that may be there
abbrev pub optional : List ℕ → Form → Demand
optional name form = record { name = name; form = form; must = false }

-- ---- inside a value

-- the first fault of a list
abbrev pub first_shape_fault : List (Option Broken) → Option Broken
first_shape_fault [] = None
first_shape_fault (fault ∷ faults) = or_next_fault fault (first_shape_fault faults)

-- the first fault among the items of an array, in list order
abbrev pub in_items : (Data → Option Broken) → Items → Option Broken
in_items fault no_items = None
in_items fault (item d ds) = or_next_fault (fault d) (in_items fault ds)

-- the first fault among the members of an object, by name in byte order
abbrev pub in_members : (Data → Option Broken) → Members → Option Broken
in_members fault no_members = None
in_members fault (member name d ms) = or_next_fault (fault d) (in_members fault ms)

-- a value that has to be a text
abbrev pub text_fault : Data → Option Broken
text_fault d = if is_some (as_str d) then None else Some WrongKind

-- a value that has to be an object
abbrev pub key_fault : Data → Option Broken
key_fault d = if is_some (as_object d) then None else Some WrongKind

-- a value that has to be an object whose members have no fault
abbrev pub object_fault : (Members → Option Broken) → Data → Option Broken
object_fault inside d = option_map_or inside (as_object d) (Some WrongKind)

-- a value that has to be an array whose items have no fault
abbrev pub array_fault : (Items → Option Broken) → Data → Option Broken
array_fault inside d = option_map_or inside (as_array d) (Some WrongKind)

-- a member that is an array, where it is there
abbrev pub in_array : List ℕ → (Items → Option Broken) → Members → Option Broken
in_array name inside ms = option_map_or inside (option_and_then as_array (given name ms)) None

-- a member that is an object, where it is there
abbrev pub in_object : List ℕ → (Members → Option Broken) → Members → Option Broken
in_object name inside ms = option_map_or inside (option_and_then as_object (given name ms)) None

-- ---- members of the older interface

-- the words of ComparisonOperator
abbrev pub operators : List (List ℕ)
operators =
    codes "EQ" ∷ codes "NE" ∷ codes "LT" ∷ codes "LE" ∷ codes "GT" ∷ codes "GE" ∷
    codes "BETWEEN" ∷ codes "IN" ∷ codes "NOT_NULL" ∷ codes "NULL" ∷ codes "CONTAINS" ∷
    codes "NOT_CONTAINS" ∷ codes "BEGINS_WITH" ∷ []

-- an entry of a condition: an operator and its values
abbrev pub condition_entry : Members → Option Broken
condition_entry = first_unmet (
    required (codes "ComparisonOperator") (a_word operators) ∷
    optional (codes "AttributeValueList") an_array ∷ [])

-- an entry of Expected: a value, or an operator and its values
abbrev pub expected_entry : Members → Option Broken
expected_entry = first_unmet (
    optional (codes "Value") an_object ∷
    optional (codes "Exists") a_truth ∷
    optional (codes "ComparisonOperator") (a_word operators) ∷
    optional (codes "AttributeValueList") an_array ∷ [])

-- an entry of AttributeUpdates: what is done, and with which value
abbrev pub update_entry : Members → Option Broken
update_entry = first_unmet (
    optional (codes "Action") (a_word (codes "PUT" ∷ codes "ADD" ∷ codes "DELETE" ∷ [])) ∷
    optional (codes "Value") an_object ∷ [])

-- the entries at a member, by the names of their attributes
abbrev pub in_entries : List ℕ → (Members → Option Broken) → Members → Option Broken
in_entries name entry = in_object name (in_members (object_fault entry))

-- the names to show are texts
abbrev pub in_names : Members → Option Broken
in_names = in_array (codes "AttributesToGet") (in_items text_fault)

-- how entries are joined
abbrev pub operator_demand : Demand
operator_demand =
    optional (codes "ConditionalOperator") (a_word (codes "AND" ∷ codes "OR" ∷ []))
