-- A description as a client is shown it (DynamoDB API Reference, "TableDescription" and the data types that it names; Service
-- Authorization Reference, "Resource types defined by Amazon DynamoDB", for the names of resources; docs/API.md). Members stand
-- by name in byte order. Nothing tells how many items there are or how large they are.
use Rattle.std.specs.Prelude.{ℕ, ◌-◌, true, List, [], ◌∷◌, ◌++◌, length, replicate, Option, Some, None, option_map, codes, decimal}
use Rattle.serde_json.specs.Data.{Data, number, unsigned, boolean, string, array, object, Items, no_items, item, Members, no_members, member, put}
use Rattle.alt_value.specs.declared.kind.KeyKind.{KeyKind}
use Rattle.alt_value.specs.declared.kind.KeyKind.TheVariants.{S, N, B}
use Rattle.alt_description.specs.declared.schema.Built.{Built}
use Rattle.alt_description.specs.declared.schema.Built.TheVariants.{Whole, UpTo}
use Rattle.alt_description.specs.declared.schema.KeyAttr.{KeyAttr}
use Rattle.alt_description.specs.declared.schema.Projection.{Projection}
use Rattle.alt_description.specs.declared.schema.Projection.TheVariants.{All, KeysOnly, Include}
use Rattle.alt_description.specs.declared.schema.View.{View}
use Rattle.alt_description.specs.declared.schema.View.TheVariants.{KeysOnly as view_keys, NewImage, OldImage, NewAndOldImages}
use Rattle.alt_description.specs.declared.schema.IndexSchema.{IndexSchema}
use Rattle.alt_description.specs.declared.schema.TableSchema.{TableSchema}

-- ---- names of resources

-- a write number in 21 digits
unfoldable pub label : ℕ → List ℕ
label n = replicate (21 - length (decimal n)) 48 ++ decimal n

-- the name of a table as a resource
abbrev pub table_arn : List ℕ → List ℕ
table_arn name = codes "arn:aws:dynamodb:local:000000000000:table/" ++ name

-- the name of an index as a resource
abbrev pub index_arn : List ℕ → List ℕ → List ℕ
index_arn table name = table_arn table ++ (codes "/index/" ++ name)

-- the stream of a table that the write of that number made
abbrev pub stream_arn : List ℕ → ℕ → List ℕ
stream_arn table n = table_arn table ++ (codes "/stream/" ++ label n)

-- ---- arrays and members

-- an array's items, one of each element of a list
abbrev pub items_by : {A : Type 0} → (A → Data) → List A → Items
items_by shown [] = no_items
items_by shown (x ∷ xs) = item (shown x) (items_by shown xs)

-- an array with the elements of a list; none where the list is empty
abbrev pub array_if_any : {A : Type 0} → (A → Data) → List A → Option Data
array_if_any shown [] = None
array_if_any shown (x ∷ xs) = Some (array (items_by shown (x ∷ xs)))

-- a member, where it applies, before the others
abbrev pub member_if : List ℕ → Option Data → Members → Members
member_if name None ms = ms
member_if name (Some d) ms = member name d ms

-- ---- attributes, keys and projections

-- the word of a kind
abbrev pub kind_word : KeyKind → List ℕ
kind_word S = codes "S"
kind_word N = codes "N"
kind_word B = codes "B"

-- a defined attribute
abbrev pub definition_json : KeyAttr → Data
definition_json d = object (member (codes "AttributeName") (string d.name)
    (member (codes "AttributeType") (string (kind_word d.kind)) no_members))

-- a key attribute in its role
abbrev pub key_json : List ℕ → KeyAttr → Data
key_json role k = object (member (codes "AttributeName") (string k.name)
    (member (codes "KeyType") (string role) no_members))

-- the RANGE key, where there is one
abbrev pub range_items : Option KeyAttr → Items
range_items None = no_items
range_items (Some k) = item (key_json (codes "RANGE") k) no_items

-- the keys of a table or an index
abbrev pub key_schema_json : KeyAttr → Option KeyAttr → Data
key_schema_json hash range = array (item (key_json (codes "HASH") hash) (range_items range))

-- what an index keeps
abbrev pub projection_json : Projection → Data
projection_json All = object (member (codes "ProjectionType") (string (codes "ALL")) no_members)
projection_json KeysOnly = object
    (member (codes "ProjectionType") (string (codes "KEYS_ONLY")) no_members)
projection_json (Include names) =
    object (member (codes "NonKeyAttributes") (array (items_by (λ name. string name) names))
    (member (codes "ProjectionType") (string (codes "INCLUDE")) no_members))

-- ---- indexes and the stream

-- what each index shows
abbrev pub index_members : List ℕ → IndexSchema → Members
index_members table i =
    member (codes "IndexArn") (string (index_arn table i.name))
    (member (codes "IndexName") (string i.name)
    (member (codes "KeySchema") (key_schema_json i.hash i.range)
    (member (codes "Projection") (projection_json i.projection) no_members)))

-- a local index
abbrev pub local_json : List ℕ → IndexSchema → Data
local_json table i = object (index_members table i)

-- it is true of an index that is being built, and isn't shown of one that is whole
abbrev pub backfilling : Built → Option Data
backfilling Whole = None
backfilling (UpTo key) = Some (boolean true)

-- the word for how far an index is built
abbrev pub status_word : Built → List ℕ
status_word Whole = codes "ACTIVE"
status_word (UpTo key) = codes "CREATING"

-- a global index has a status too
abbrev pub global_json : List ℕ → IndexSchema → Data
global_json table i = object (
    member_if (codes "Backfilling") (backfilling i.built)
    (member (codes "IndexArn") (string (index_arn table i.name))
    (member (codes "IndexName") (string i.name)
    (member (codes "IndexStatus") (string (status_word i.built))
    (member (codes "KeySchema") (key_schema_json i.hash i.range)
    (member (codes "Projection") (projection_json i.projection) no_members))))))

-- the word for what a stream shows
abbrev pub view_word : View → List ℕ
view_word view_keys = codes "KEYS_ONLY"
view_word NewImage = codes "NEW_IMAGE"
view_word OldImage = codes "OLD_IMAGE"
view_word NewAndOldImages = codes "NEW_AND_OLD_IMAGES"

-- a stream that shows so much
abbrev pub specification_json : View → Data
specification_json v = object (member (codes "StreamEnabled") (boolean true)
    (member (codes "StreamViewType") (string (view_word v)) no_members))

-- ---- the whole

-- a description, with the table's status; what stands only where it applies is `member_if`
unfoldable pub description_json : TableSchema → List ℕ → Data
description_json s status = object
    (member (codes "AttributeDefinitions") (array (items_by definition_json s.definitions))
    (member (codes "CreationDateTime") (number (unsigned s.created))
    (member_if (codes "GlobalSecondaryIndexes") (array_if_any (global_json s.name) s.globals)
    (member (codes "KeySchema") (key_schema_json s.hash s.range)
    (member_if (codes "LatestStreamArn")
    (option_map (λ v. string (stream_arn s.name s.number)) s.view)
    (member_if (codes "LatestStreamLabel") (option_map (λ v. string (label s.number)) s.view)
    (member_if (codes "LocalSecondaryIndexes") (array_if_any (local_json s.name) s.locals)
    (member_if (codes "StreamSpecification") (option_map specification_json s.view)
    (member (codes "TableArn") (string (table_arn s.name))
    (member (codes "TableName") (string s.name)
    (member (codes "TableStatus") (string status) no_members)))))))))))

-- ---- how the program builds it

-- a member, where it applies, put among others
abbrev pub put_member_if : List ℕ → Option Data → Members → Members
put_member_if name None ms = ms
put_member_if name (Some d) ms = put name d ms

-- what each table has
abbrev pub lasting_members : TableSchema → List ℕ → Members
lasting_members s status =
    member (codes "AttributeDefinitions") (array (items_by definition_json s.definitions))
    (member (codes "CreationDateTime") (number (unsigned s.created))
    (member (codes "KeySchema") (key_schema_json s.hash s.range)
    (member (codes "TableArn") (string (table_arn s.name))
    (member (codes "TableName") (string s.name)
    (member (codes "TableStatus") (string status) no_members)))))

-- what a table with a stream has besides, put among others
abbrev pub with_stream_members : TableSchema → View → Members → Members
with_stream_members s v ms =
    put (codes "StreamSpecification") (specification_json v)
    (put (codes "LatestStreamLabel") (string (label s.number))
    (put (codes "LatestStreamArn") (string (stream_arn s.name s.number)) ms))

-- the same, where there is a stream
abbrev pub with_stream : TableSchema → Option View → Members → Members
with_stream s None ms = ms
with_stream s (Some v) ms = with_stream_members s v ms
