-- UpdateTable: adds a global index to a table, or takes one from it, while writes go on (DynamoDB API Reference, "UpdateTable";
-- docs/API.md).
use Rattle.std.specs.Prelude.{ℕ, ◌+◌, ◌==◌, Bool, false, ◌&&◌, ◌||◌, nat_le, length, map, codes, if◌then◌else◌, List, [], ◌∷◌, Option, is_some, option_and_then}
use Rattle.std.specs.FinMap as finite
use Rattle.std.specs.List.{filter, flat_map, list_all, list_any}
use Rattle.serde_json.specs.Data.{Data, Members}
use Rattle.serde_json.specs.Find.{as_object}
use Rattle.alt_shape.specs.Bodies as bodies
use Rattle.alt_shape.specs.Refusals.{Answer, bad_index, bad_index_update, bad_key_schema, bad_name, no_such_index}
use Rattle.alt_shape.specs.Shape.{given}
use Rattle.alt_schema.specs.Json.{description_json}
use Rattle.alt_schema.specs.Rules.{is_name}
use Rattle.alt_schema.specs.Stated.{at_most_one, definitions_of, index_in, stated_at, text_of}
use Rattle.alt_schema.specs.declared.schema.KeyAttr.{KeyAttr}
use Rattle.alt_schema.specs.declared.schema.TableSchema.{TableSchema}
use Rattle.alt_schema.specs.declared.stated.StatedIndex.{StatedIndex}
use Rattle.alt_schema.specs.Altered.{definitions_fit, indexes_fit_with, is_none_of, keys_fit_with, with_index, without_index}
use Rattle.alt_machine.specs.Body.{of_shape}
use Rattle.alt_machine.specs.Building.{building_in}
use Rattle.alt_machine.specs.Lists.{is_given}
use Rattle.alt_machine.specs.Members.{may_name, table_name}
use Rattle.alt_machine.specs.Outcomes.{Outcome, Wants, a_family, a_number, says, unless_refused}
use Rattle.alt_machine.specs.Refusals.{refuse_if, refuse_unless}
use Rattle.alt_machine.specs.Replies.{answers}
use Rattle.alt_machine.specs.State.{State, Table}
use Rattle.alt_machine.specs.Targets.{on_table}

-- ---- the body

-- the members of a change, if it is an object
abbrev pub change_members : Data → List Members
change_members d = at_most_one (as_object d)

-- the changes
abbrev pub changes : Members → List Members
changes = stated_at change_members (codes "GlobalSecondaryIndexUpdates")

-- one is exactly one of the three
abbrev pub is_one : Members → Bool
is_one u = length (filter (λ name. is_given name u)
    (codes "Create" ∷ codes "Update" ∷ codes "Delete" ∷ [])) == 1

-- in it an index comes or goes
abbrev pub acts : Members → Bool
acts u = is_given (codes "Create") u || is_given (codes "Delete") u

-- each is one of the three, and in one of them at most an index comes or goes
abbrev pub are_single : Members → Bool
are_single ms = list_all is_one (changes ms) && nat_le (length (filter acts (changes ms))) 1

-- ---- what is asked

-- the object at a name of a change
abbrev pub asked_in : List ℕ → Members → List Members
asked_in name u = at_most_one (option_and_then as_object (given name u))

-- those of all changes
abbrev pub asked_at : List ℕ → Members → List Members
asked_at name ms = flat_map (asked_in name) (changes ms)

-- the index that comes
abbrev pub coming : Members → List StatedIndex
coming ms = map index_in (asked_at (codes "Create") ms)

-- the name of the one that goes
abbrev pub going : Members → List (List ℕ)
going ms = map (text_of (codes "IndexName")) (asked_at (codes "Delete") ms)

-- the names of both are good
abbrev pub changed_index_names_fit : Members → Bool
changed_index_names_fit ms = list_all (λ i. is_name i.name) (coming ms) && list_all is_name (going ms)

-- what the body alone says: its shape, then changes that aren't single, then names
abbrev pub of_body : Members → List (Option Answer)
of_body ms =
    of_shape (bodies.update_table ms) ∷
    refuse_unless (are_single ms) bad_index_update ∷
    refuse_unless (may_name ms (codes "TableName") && changed_index_names_fit ms) bad_name ∷ []

-- ---- the description then

-- with the first index of these that come, which has that family and the definitions given, or without the first of these names that go
abbrev pub altered_by : TableSchema → List KeyAttr → ℕ → List StatedIndex → List (List ℕ)
    → TableSchema
altered_by d more family (i ∷ is) names = with_index d more family i
altered_by d more family [] (name ∷ names) = without_index d name
altered_by d more family [] [] = d

-- in one change at most an index comes or goes
abbrev pub altered : TableSchema → Members → ℕ → TableSchema
altered d ms family = altered_by d (definitions_of ms) family (coming ms) (going ms)

-- ---- what the table says

-- the definitions that are given fit it, and so do the keys of the index that comes
abbrev pub are_keys_good : TableSchema → Members → Bool
are_keys_good d ms = definitions_fit d (altered d ms 0) (definitions_of ms)
    && list_all (keys_fit_with d (definitions_of ms)) (coming ms)

-- an index comes while another is being built
abbrev pub comes_early : TableSchema → List StatedIndex → Bool
comes_early d [] = false
comes_early d (i ∷ is) = is_some (building_in d)

-- a name of none that goes; then definitions and keys, then indexes, then one that comes while another is being built
abbrev pub of_indexes : TableSchema → Members → List (Option Answer)
of_indexes d ms =
    refuse_if (list_any (is_none_of d) (going ms)) no_such_index ∷
    refuse_unless (are_keys_good d ms) bad_key_schema ∷
    refuse_unless (list_all (indexes_fit_with d (definitions_of ms)) (coming ms)) bad_index ∷
    refuse_if (comes_early d (coming ms)) bad_index_update ∷ []

-- ---- the operation

-- a table of another description
abbrev pub redescribed : TableSchema → Table → Table
redescribed d t = record t { description = d }

-- the state in which the table of that name has this description, by a write that takes a number; and the next family then
abbrev pub with_description : State → List ℕ → Table → TableSchema → ℕ → State
with_description s name t d next = record {
  tables = finite.insert s.tables name (redescribed d t);
  next_number = s.next_number + 1;
  next_family = next;
}

-- an index that comes takes the next family
abbrev pub family_after : ℕ → List StatedIndex → ℕ
family_after family [] = family
family_after family (i ∷ is) = family + 1

-- the state then
abbrev pub state_altered : State → Members → Table → State
state_altered s ms t = with_description s (table_name ms) t
    (altered t.description ms s.next_family) (family_after s.next_family (coming ms))

-- and so it wants a family too
abbrev pub wanted_for : List StatedIndex → Wants
wanted_for [] = a_number
wanted_for (i ∷ is) = a_family

-- a description, as it is answered
abbrev pub described : TableSchema → List ℕ → Answer
described d status = answers (codes "TableDescription") (description_json d status)

-- what is asked is one write, where an index comes or goes, else there is none
abbrev pub alters : State → Members → Table → Outcome
alters s ms t = if list_any acts (changes ms) then record {
  answer = described (altered t.description ms s.next_family) (codes "UPDATING");
  atoms = state_altered s ms t ∷ [];
  wants = wanted_for (coming ms);
}
    else says (described t.description (codes "ACTIVE"))

-- behind the tests the indexes of the table that is named change
unfoldable pub update_table : State → Members → Outcome
update_table s ms = on_table (of_body ms) s ms (λ t.
    unless_refused (of_indexes t.description ms) (alters s ms t))
