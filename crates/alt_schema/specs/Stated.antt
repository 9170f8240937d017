-- What the body of a CreateTable states, member by member (DynamoDB API Reference, "CreateTable" and the data types that it
-- names). A member that is absent, `null` or of another kind reads as empty: the rules of shape, which are tested before, leave
-- no required one out.
use Rattle.std.specs.Prelude.{ℕ, false, if◌then◌else◌, List, [], ◌∷◌, ◌++◌, Option, Some, None, option_and_then, option_map, unwrap_or, codes}
use Rattle.std.specs.Option.{option_map_or}
use Rattle.std.specs.Str.{bytes_eq}
use Rattle.serde_json.specs.Data.{Data, Items, no_items, item, Members}
use Rattle.serde_json.specs.Find.{as_bool, as_str, as_array, as_object}
use Rattle.alt_shape.specs.Shape.{given}
use Rattle.alt_value.specs.declared.kind.KeyKind.{KeyKind}
use Rattle.alt_value.specs.declared.kind.KeyKind.TheVariants.{S, N, B}
use Rattle.alt_description.specs.declared.schema.KeyAttr.{KeyAttr}
use Rattle.alt_description.specs.declared.schema.View.{View}
use Rattle.alt_description.specs.declared.schema.View.TheVariants.{KeysOnly, NewImage, OldImage, NewAndOldImages}
use Rattle.alt_schema.specs.declared.stated.Element.{Element}
use Rattle.alt_schema.specs.declared.stated.StatedIndex.{StatedIndex}
use Rattle.alt_schema.specs.declared.stated.Stated.{Stated}

-- ---- reading members

-- the text at a member
abbrev pub text_of : List ℕ → Members → List ℕ
text_of name ms = unwrap_or (option_and_then as_str (given name ms)) []

-- what the items of an array state, in order
abbrev pub stated_by : {A : Type 0} → (Data → List A) → Items → List A
stated_by of no_items = []
stated_by of (item d ds) = of d ++ stated_by of ds

-- what the items of the array at a member state
abbrev pub stated_at : {A : Type 0} → (Data → List A) → List ℕ → Members → List A
stated_at of name ms = option_map_or (stated_by of) (option_and_then as_array (given name ms)) []

-- one of a list, where there is one
abbrev pub at_most_one : {A : Type 0} → Option A → List A
at_most_one None = []
at_most_one (Some x) = x ∷ []

-- ---- key schemas and definitions

-- an element of a key schema: a name and a role
abbrev pub element_in : Members → Element
element_in ms = record {
  name = text_of (codes "AttributeName") ms;
  role =
      text_of (codes "KeyType") ms;
}

-- the element that a value states, if it is an object
abbrev pub element_of : Data → List Element
element_of d = at_most_one (option_map element_in (as_object d))

-- the elements of a key schema
abbrev pub key_schema_of : Members → List Element
key_schema_of = stated_at element_of (codes "KeySchema")

-- the kind of a word: S, N or B
abbrev pub kind_named : List ℕ → KeyKind
kind_named word = if bytes_eq word (codes "S") then S else
    (if bytes_eq word (codes "N") then N else B)

-- an attribute with its kind
abbrev pub definition_in : Members → KeyAttr
definition_in ms = record {
  name = text_of (codes "AttributeName") ms;
  kind =
      kind_named (text_of (codes "AttributeType") ms);
}

-- the definition that a value states, if it is an object
abbrev pub definition_of : Data → List KeyAttr
definition_of d = at_most_one (option_map definition_in (as_object d))

-- the attributes that are defined
abbrev pub definitions_of : Members → List KeyAttr
definitions_of = stated_at definition_of (codes "AttributeDefinitions")

-- ---- indexes

-- the text that a value is, if it is one
abbrev pub word_of : Data → List (List ℕ)
word_of d = at_most_one (as_str d)

-- the names of NonKeyAttributes, where the member is there
abbrev pub included_in : Members → Option (List (List ℕ))
included_in ms = option_map (stated_by word_of)
    (option_and_then as_array (given (codes "NonKeyAttributes") ms))

-- the object at Projection
abbrev pub projection_of : Members → Option Members
projection_of ms = option_and_then as_object (given (codes "Projection") ms)

-- an index: its name, its key schema and its projection
abbrev pub index_in : Members → StatedIndex
index_in ms = record {
  name = text_of (codes "IndexName") ms;
  keys = key_schema_of ms;
  projects = option_map_or (text_of (codes "ProjectionType")) (projection_of ms) [];
  includes = option_and_then included_in (projection_of ms);
}

-- the index that a value states, if it is an object
abbrev pub index_of : Data → List StatedIndex
index_of d = at_most_one (option_map index_in (as_object d))

-- ---- the stream

-- what a word says that a stream shows
abbrev pub view_named : List ℕ → Option View
view_named word =
    if bytes_eq word (codes "KEYS_ONLY") then Some KeysOnly
    else (if bytes_eq word (codes "NEW_IMAGE") then Some NewImage
    else (if bytes_eq word (codes "OLD_IMAGE") then Some OldImage
    else (if bytes_eq word (codes "NEW_AND_OLD_IMAGES") then Some NewAndOldImages else None)))

-- what an enabled stream shows
abbrev pub view_in : Members → Option View
view_in ms =
    if unwrap_or (option_and_then as_bool (given (codes "StreamEnabled") ms)) false then view_named
    (text_of (codes "StreamViewType") ms) else None

-- what the table's stream shows, where it is enabled
abbrev pub view_of : Members → Option View
view_of ms = option_and_then view_in
    (option_and_then as_object (given (codes "StreamSpecification") ms))

-- ---- the whole body

-- all that the body states
abbrev pub stated : Members → Stated
stated ms = record {
  name = text_of (codes "TableName") ms;
  keys = key_schema_of ms;
  definitions = definitions_of ms;
  locals = stated_at index_of (codes "LocalSecondaryIndexes") ms;
  globals = stated_at index_of (codes "GlobalSecondaryIndexes") ms;
  view = view_of ms;
}
