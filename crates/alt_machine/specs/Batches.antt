-- Batches: what BatchWriteItem and BatchGetItem have in common (DynamoDB API Reference, "BatchWriteItem" and "BatchGetItem"). The members
-- of a batch stand by the names of their tables in byte order, and in each table in list order. Each step of the refusals is made over
-- all members before the next step.
use Rattle.std.specs.Prelude.{ℕ, Bool, false, ◌&&◌, ◌||◌, nat_le, List, [], ◌∷◌, ◌++◌, map, Option, Some, None, option_and_then, unwrap_or, Result, Ok, codes}
use Rattle.std.specs.List.{list_any, list_all}
use Rattle.std.specs.FinMap as finite
use Rattle.std.specs.Str.{bytes_eq}
use Rattle.serde_json.specs.Data.{Data, Items, no_items, item, Members, no_members, member}
use Rattle.serde_json.specs.Find.{as_array, as_object}
use Rattle.alt_machine.specs.declared.BatchMember.{BatchMember}
use Rattle.alt_machine.specs.declared.PlacedMember.{PlacedMember}
use Rattle.alt_machine.specs.Body.{of_shape}
use Rattle.alt_machine.specs.Refusals.{first_answer, or_refused, refuse_if, refuse_unless, unless_answer, ◌>>=◌}
use Rattle.alt_machine.specs.State.{Texts}
use Rattle.alt_machine.specs.Targets.{of_length, place_in}
use Rattle.alt_schema.specs.Rules.{is_name}
use Rattle.alt_schema.specs.declared.schema.TableSchema.{TableSchema}
use Rattle.alt_shape.specs.Refusals.{Answer, not_found, not_together, bad_batch, bad_name, bad_key}
use Rattle.alt_shape.specs.Shape.{given}
use Rattle.alt_shape.specs.declared.rule.Broken.{Broken}

-- ---- what a body asks of its tables

-- the members of an object, none where it is another value
abbrev pub members_in : Data → Members
members_in d = unwrap_or (as_object d) no_members

-- the object at a member of an object, where one is there
abbrev pub object_in : List ℕ → Data → Option Members
object_in name d = option_and_then as_object (given name (members_in d))

-- the elements of an array
abbrev pub array_elements : Items → List Data
array_elements no_items = []
array_elements (item d ds) = d ∷ array_elements ds

-- those of an array, none where there is no array
abbrev pub elements_if_array : Option Items → List Data
elements_if_array None = []
elements_if_array (Some ds) = array_elements ds

-- those of a value, none where it is no array
abbrev pub elements_in : Data → List Data
elements_in d = elements_if_array (as_array d)

-- the members of an object as pairs, which rise by their names
abbrev pub pairs_in : Members → List (List ℕ × Data)
pairs_in no_members = []
pairs_in (member name d ms) = (name, d) ∷ pairs_in ms

-- those of an object, none where there is no object
abbrev pub pairs_of : Option Members → List (List ℕ × Data)
pairs_of None = []
pairs_of (Some ms) = pairs_in ms

-- the tables that a batch names, each with what is asked of it
abbrev pub tables_asked : Members → List (List ℕ × Data)
tables_asked ms = pairs_of (option_and_then as_object (given (codes "RequestItems") ms))

-- something of each of them, in their order, with the name of its table
abbrev pub of_each : (Data → List Data) → List (List ℕ × Data) → List (List ℕ × Data)
of_each inside [] = []
of_each inside (t ∷ ts) = map (λ d. (t.0, d)) (inside t.1) ++ of_each inside ts

-- ---- steps over all members

-- what a step finds of each, in their order, or the refusal of the first that it refuses
abbrev pub each_found : {A B : Type 0} → (A → Result B Answer) → List A → Result (List B) Answer
each_found step [] = Ok []
each_found step (x ∷ xs) = step x >>= (λ y. each_found step xs >>= (λ ys. Ok (y ∷ ys)))

-- there is a member, and there aren't more than so many
abbrev pub is_sized : ℕ → ℕ → Bool
is_sized most count = nat_le 1 count && nat_le count most

-- What a body alone is refused for: its shape, members that don't go together, the batch's own members (how many they are, and what else
-- says that they are bad), and a name that no table can have.
abbrev pub batch_refusals : Option Broken → Bool → Bool → List (List ℕ × Data)
    → List (Option Answer)
batch_refusals broken mixed good tables =
    of_shape broken ∷
    refuse_if mixed not_together ∷
    refuse_unless good bad_batch ∷
    refuse_unless (list_all (λ t. is_name t.0) tables) bad_name ∷ []

-- each table is there, also one of which nothing is asked
abbrev pub of_catalog : Texts TableSchema → List (List ℕ × Data) → List (Option Answer)
of_catalog catalog tables =
    refuse_unless (list_all (λ t. finite.contains_key catalog t.0) tables) not_found ∷ []

-- ---- members and their places

-- the member has that place in its table
abbrev pub at_place : BatchMember → List ℕ → PlacedMember
at_place m place = record { table = m.table; sought = m.sought; item = m.item; place = place }

-- the place of a member in a table, where it has one and its key isn't too long
abbrev pub placed_in : TableSchema → BatchMember → Result PlacedMember Answer
placed_in d m = or_refused bad_key (place_in m.sought d m.item)
    >>= (λ place. unless_answer (first_answer (of_length d m.item)) (at_place m place))

-- its place in the table that it names
abbrev pub placed : Texts TableSchema → BatchMember → Result PlacedMember Answer
placed catalog m = or_refused not_found (finite.get catalog m.table) >>= (λ d. placed_in d m)

-- two members have one key of one table
abbrev pub is_same_key : PlacedMember → PlacedMember → Bool
is_same_key m n = bytes_eq m.table n.table && bytes_eq m.place n.place

-- a key stands twice
abbrev pub has_repeat : List PlacedMember → Bool
has_repeat [] = false
has_repeat (m ∷ ms) = list_any (is_same_key m) ms || has_repeat ms
