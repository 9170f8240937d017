-- The entries of Expected, and those of KeyConditions, QueryFilter and ScanFilter (API Reference, "ExpectedAttributeValue" and
-- "Condition"). A member that is null counts as absent.
use Rattle.std.specs.Prelude.{ℕ, Bool, true, false, ◌||◌, List, [], ◌∷◌, Option, Some, None, is_some, option_map, option_and_then, codes, if◌then◌else◌}
use Rattle.std.specs.Option.{option_map_or}
use Rattle.serde_json.specs.Data.{Data, Items, no_items, Members, no_members, member}
use Rattle.serde_json.specs.Find.{as_array, as_bool, as_object, as_str}
use Rattle.alt_expr.specs.declared.cond.Comparison.TheVariants as c
use Rattle.alt_legacy.specs.declared.entry.Entry.{Entry}
use Rattle.alt_legacy.specs.declared.entry.Test.{Test}
use Rattle.alt_legacy.specs.declared.entry.Test.TheVariants as t
use Rattle.alt_legacy.specs.declared.reading.Form.{Form}
use Rattle.alt_legacy.specs.declared.reading.Form.TheVariants as form
use Rattle.alt_legacy.specs.Operators.{operator_of, test_of_operator}
use Rattle.alt_legacy.specs.Values.{json_value}
use Rattle.alt_shape.specs.Shape.{given}

-- the operator that an entry names
abbrev pub operator_in : Members → Option (List ℕ)
operator_in ms = option_and_then as_str (given (codes "ComparisonOperator") ms)

-- the values of its operator, none where it has no list
abbrev pub operator_values : Members → Items
operator_values ms = option_map_or (λ ds. ds)
    (option_and_then as_array (given (codes "AttributeValueList") ms)) no_items

-- whether the attribute is to be there, where the entry says so
abbrev pub exists_in : Members → Option Bool
exists_in ms = option_and_then as_bool (given (codes "Exists") ms)

-- what an operator asks with its values
abbrev pub operator_test : Members → Option Test
operator_test ms = option_and_then (λ operator. test_of_operator operator (operator_values ms))
    (option_and_then operator_of (operator_in ms))

-- the attribute is to equal a value
abbrev pub equals : Data → Option Test
equals d = option_map (λ v. t.Compares c.Equal v) (json_value d)

-- without an operator: a value alone or with Exists true, or Exists false alone
abbrev pub plain_test : Option Data → Option Bool → Option Test
plain_test (Some d) None = equals d
plain_test (Some d) (Some true) = equals d
plain_test None (Some false) = Some t.Missing
plain_test _ _ = None

-- what an entry of Expected asks: an operator with its values and no more, or a form without one
abbrev pub expected_test : Members → Option Test
expected_test ms =
    if is_some (given (codes "ComparisonOperator") ms) then
    (if is_some (given (codes "Value") ms) || is_some (exists_in ms) then None
    else operator_test ms)
    else if is_some (given (codes "AttributeValueList") ms) then None
    else plain_test (given (codes "Value") ms) (exists_in ms)

-- what an entry of that form asks, by its members
abbrev pub members_test : Form → Members → Option Test
members_test form.Expected ms = expected_test ms
members_test form.Filter ms = operator_test ms

-- what an entry of that form asks
abbrev pub test_in : Form → Data → Option Test
test_in f d = option_and_then (members_test f) (as_object d)

-- an entry asks of the attribute of its name, which isn't empty
abbrev pub entry_of : Form → List ℕ → Data → Option Entry
entry_of f [] d = None
entry_of f (b ∷ bs) d = option_map (λ test. record { name = b ∷ bs; test = test }) (test_in f d)

-- an entry in front of others
abbrev pub entry_then : Option Entry → Option (List Entry) → Option (List Entry)
entry_then (Some e) more = option_map (λ es. e ∷ es) more
entry_then None more = None

-- each entry of an object, by name; none where one of them isn't of the form
abbrev pub each_entry : Form → Members → Option (List Entry)
each_entry f no_members = Some []
each_entry f (member name d ms) = entry_then (entry_of f name d) (each_entry f ms)

-- the entries of a member
abbrev pub entries_in : Form → Data → Option (List Entry)
entries_in f d = option_and_then (each_entry f) (as_object d)
