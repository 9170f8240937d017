-- The description that the body of a CreateTable states, and what each description is.
use Rattle.std.specs.Prelude.{◌≡◌, ◌≤◌, ℕ, suc, ◌+◌, Bool, true, false, ◌&&◌, if◌then◌else◌, List, [], ◌∷◌, map, length, slice_get, Option, Some, None, is_some, option_map, codes}
use Rattle.std.specs.List.{list_any, list_all, find}
use Rattle.std.specs.Option.{option_map_or}
use Rattle.std.specs.Str.{bytes_eq}
use Rattle.serde_json.specs.Data.{Members}
use Rattle.alt_shape.specs.Refusals.{IsKnown}
use Rattle.alt_value.specs.declared.kind.KeyKind.{KeyKind}
use Rattle.alt_value.specs.declared.kind.KeyKind.TheVariants.{S, N, B}
use Rattle.alt_description.specs.Bare.{is_whole}
use Rattle.alt_description.specs.Indexes.{indexes, of_range}
use Rattle.alt_schema.specs.Rules.{all_differ, most_locals, most_globals, create_table_refusal}
use Rattle.alt_schema.specs.declared.described.SchemaFault.{SchemaFault}
use Rattle.alt_schema.specs.declared.described.SchemaFault.TheVariants.{Refused, NoMemory}
use Rattle.alt_schema.specs.Stated.{stated}
use Rattle.alt_description.specs.declared.schema.Built.TheVariants.{Whole}
use Rattle.alt_description.specs.declared.schema.KeyAttr.{KeyAttr}
use Rattle.alt_description.specs.declared.schema.Projection.{Projection}
use Rattle.alt_description.specs.declared.schema.Projection.TheVariants.{All, KeysOnly, Include}
use Rattle.alt_description.specs.declared.schema.IndexSchema.{IndexSchema}
use Rattle.alt_description.specs.declared.schema.TableSchema.{TableSchema}
use Rattle.alt_schema.specs.declared.stated.Element.{Element}
use Rattle.alt_schema.specs.declared.stated.StatedIndex.{StatedIndex}
use Rattle.alt_schema.specs.declared.stated.Stated.{Stated}

-- ---- what a body describes, where it isn't refused

-- the kind that a name is defined with; each name that is used is defined
abbrev pub kind_in : List KeyAttr → List ℕ → KeyKind
kind_in definitions name = option_map_or (λ d. d.kind)
    (find (λ d. bytes_eq d.name name) definitions) S

-- the key attribute of a name, with its kind
abbrev pub key_attr : List KeyAttr → List ℕ → KeyAttr
key_attr definitions name = record { name = name; kind = kind_in definitions name }

-- the first attribute of a key schema
abbrev pub hash_of_key_schema : List KeyAttr → List Element → KeyAttr
hash_of_key_schema definitions keys = key_attr definitions (option_map_or (λ e. e.name) (slice_get keys 0) [])

-- the second, where there is one
abbrev pub range_of_key_schema : List KeyAttr → List Element → Option KeyAttr
range_of_key_schema definitions keys = option_map (λ e. key_attr definitions e.name) (slice_get keys 1)

-- the names given, or else all or the keys alone
abbrev pub projection_for : List ℕ → Option (List (List ℕ)) → Projection
projection_for word (Some names) = Include names
projection_for word None = if bytes_eq word (codes "ALL") then All else KeysOnly

-- an index with the keys and the projection that are stated
abbrev pub index_for : List KeyAttr → ℕ → StatedIndex → IndexSchema
index_for definitions family i = record {
  name = i.name;
  hash = hash_of_key_schema definitions i.keys;
  range = range_of_key_schema definitions i.keys;
  projection = projection_for i.projects i.includes;
  family = family;
  built = Whole;
}

-- the indexes of a list, with families from the given one on
abbrev pub indexes_from : List KeyAttr → ℕ → List StatedIndex → List IndexSchema
indexes_from definitions family [] = []
indexes_from definitions family (i ∷ is) = index_for definitions family i
    ∷ indexes_from definitions (suc family) is

-- the table takes the given family, and then come local indexes, global indexes and stream
unfoldable pub described_by : Stated → ℕ → ℕ → ℕ → TableSchema
described_by b moment number family = record {
  name = b.name;
  definitions = b.definitions;
  hash = hash_of_key_schema b.definitions b.keys;
  range = range_of_key_schema b.definitions b.keys;
  locals = indexes_from b.definitions (family + 1) b.locals;
  globals = indexes_from b.definitions (family + 1 + length b.locals) b.globals;
  view = b.view;
  stream_family = option_map (λ v. family + 1 + length b.locals + length b.globals) b.view;
  created = moment;
  number = number;
  family = family;
  ttl = None;
}

-- the description that the body of a CreateTable states, made at a moment by the write of a number
unfoldable pub description_of : Members → ℕ → ℕ → ℕ → TableSchema
description_of body moment number family = described_by (stated body) moment number family

-- ---- why it isn't described

-- a refusal is the one that applies; want of memory has no cause
abbrev pub SchemaFaultApplies : Members → SchemaFault → Type 0
SchemaFaultApplies body (Refused r) = create_table_refusal body ≡ Some r
SchemaFaultApplies body NoMemory = Unit {0}

-- a refusal is one of those that have a message
abbrev pub IsKnownFault : SchemaFault → Type 0
IsKnownFault (Refused r) = IsKnown r
IsKnownFault NoMemory = Unit {0}

-- ---- what each description is

-- two kinds are the same
abbrev pub same_kind : KeyKind → KeyKind → Bool
same_kind S S = true
same_kind N N = true
same_kind B B = true
same_kind k l = false

-- the attribute is one of those, with its kind
abbrev pub is_one_of : List KeyAttr → KeyAttr → Bool
is_one_of definitions k = list_any
    (λ d. bytes_eq d.name k.name && same_kind d.kind k.kind) definitions

-- the keys of a table or an index are defined ones
abbrev pub keys_defined : List KeyAttr → KeyAttr → Option KeyAttr → Bool
keys_defined definitions hash range = is_one_of definitions hash
    && of_range (is_one_of definitions) true range

-- It has a family for a stream exactly where it has a stream; no attribute is defined twice, and each key attribute of the table
-- and of an index is a defined one.
pub record IsDescription (s : TableSchema) : Type 0 where
  pub stream : is_some s.stream_family ≡ is_some s.view
  pub once : all_differ (λ d. d.name) s.definitions ≡ true
  pub keys : keys_defined s.definitions s.hash s.range ≡ true
  pub index_keys : list_all (λ i. keys_defined s.definitions i.hash i.range) (indexes s) ≡ true

-- numbers that rise by one
abbrev pub from_on : {A : Type 0} → ℕ → List A → List ℕ
from_on n [] = []
from_on n (x ∷ xs) = n ∷ from_on (suc n) xs

-- A description as it is made: at most 5 local and 20 global indexes of different names, each whole; the families rise by one from
-- the table's, over the local indexes, the global indexes and the stream; and there is no time to live.
pub record IsNew (s : TableSchema) : Type 0 where
  pub description : IsDescription s
  pub locals : length s.locals ≤ most_locals
  pub globals : length s.globals ≤ most_globals
  pub names : all_differ (λ i. i.name) (indexes s) ≡ true
  pub families : map (λ i. i.family) (indexes s) ≡ from_on (s.family + 1) (indexes s)
  pub stream_family : s.stream_family ≡ option_map (λ v. s.family + 1 + length (indexes s)) s.view
  pub whole : list_all (λ i. is_whole i.built) (indexes s) ≡ true
  pub no_time : s.ttl ≡ None
