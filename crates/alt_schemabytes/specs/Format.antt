-- The bytes of a table's description (docs/formats/descriptions.md).
use Rattle.std.specs.Prelude.{ℕ, Bool, true, false, List, [], ◌∷◌, ◌++◌, length, Option, Some, None}
use Rattle.std.specs.Int.{w32, w64, to_be_bytes}
use Rattle.alt_fields.specs.Field.{field}
use Rattle.alt_value.specs.declared.kind.KeyKind.{KeyKind}
use Rattle.alt_value.specs.declared.kind.KeyKind.TheVariants.{S, N, B}
use Rattle.alt_schema.specs.declared.schema.KeyAttr.{KeyAttr}
use Rattle.alt_schema.specs.declared.schema.View.{View}
use Rattle.alt_schema.specs.declared.schema.View.TheVariants.{KeysOnly as view_keys, NewImage, OldImage, NewAndOldImages}
use Rattle.alt_schema.specs.declared.schema.Projection.{Projection}
use Rattle.alt_schema.specs.declared.schema.Projection.TheVariants.{All, KeysOnly, Include}
use Rattle.alt_schema.specs.declared.schema.IndexSchema.{IndexSchema}
use Rattle.alt_schema.specs.declared.schema.TableSchema.{TableSchema}

-- each of a list, one behind another
abbrev pub each : {A : Type 0} → (A → List ℕ) → List A → List ℕ
each bytes [] = []
each bytes (x ∷ xs) = bytes x ++ each bytes xs

-- how many there are, and then each
abbrev pub counted_list : {A : Type 0} → (A → List ℕ) → List A → List ℕ
counted_list bytes xs = to_be_bytes w64 (length xs) ++ each bytes xs

-- the byte of what a stream shows
abbrev pub view_byte : Option View → ℕ
view_byte None = 0
view_byte (Some view_keys) = 1
view_byte (Some NewImage) = 2
view_byte (Some OldImage) = 3
view_byte (Some NewAndOldImages) = 4

-- the stream's family, where there is a stream
abbrev pub stream_bytes : Option ℕ → List ℕ
stream_bytes None = []
stream_bytes (Some family) = to_be_bytes w32 family

-- the byte of a kind
abbrev pub kind_byte : KeyKind → ℕ
kind_byte S = 1
kind_byte N = 2
kind_byte B = 3

-- a name and its kind
abbrev pub definition_bytes : KeyAttr → List ℕ
definition_bytes d = field d.name ++ kind_byte d.kind ∷ []

-- whether there is one
abbrev pub truth_byte : Bool → ℕ
truth_byte false = 0
truth_byte true = 1

-- the RANGE name, where there is one
abbrev pub range_bytes : Option KeyAttr → List ℕ
range_bytes None = truth_byte false ∷ []
range_bytes (Some range) = truth_byte true ∷ field range.name

-- the keys of a table or an index
abbrev pub keys_bytes : KeyAttr → Option KeyAttr → List ℕ
keys_bytes hash range = field hash.name ++ range_bytes range

-- which kind of projection it is
abbrev pub projection_byte : Projection → ℕ
projection_byte All = 1
projection_byte KeysOnly = 2
projection_byte (Include names) = 3

-- the names, where it names some
abbrev pub projection_bytes : Projection → List ℕ
projection_bytes All = projection_byte All ∷ []
projection_bytes KeysOnly = projection_byte KeysOnly ∷ []
projection_bytes (Include names) = projection_byte (Include names) ∷ counted_list field names

-- an index: its name, its family, its keys and what it keeps
abbrev pub index_bytes : IndexSchema → List ℕ
index_bytes i = field i.name ++
    (to_be_bytes w32 i.family ++ (keys_bytes i.hash i.range ++ projection_bytes i.projection))

-- the table's name, when and by which write it was made, and its family
abbrev pub head_bytes : TableSchema → List ℕ
head_bytes s = field s.name ++
    (to_be_bytes w64 s.created ++ (to_be_bytes w64 s.number ++ to_be_bytes w32 s.family))

-- the bytes of a description
unfoldable pub description_bytes : TableSchema → List ℕ
description_bytes s =
    head_bytes s ++ (view_byte s.view ∷ stream_bytes s.stream_family
    ++ (counted_list definition_bytes s.definitions
    ++ (keys_bytes s.hash s.range ++
    (counted_list index_bytes s.locals ++ counted_list index_bytes s.globals))))
