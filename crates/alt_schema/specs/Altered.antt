-- The description of a table to which a global index is added, or from which one is taken: what it is, and what it is refused for
-- (DynamoDB API Reference, "UpdateTable"; docs/API.md).
use Rattle.std.specs.Prelude.{◌≡◌, ℕ, ◌&&◌, Bool, not, map, codes, List, [], ◌∷◌, ◌++◌, Option, Some, None, if◌then◌else◌}
use Rattle.std.specs.List.{filter, list_all, list_any}
use Rattle.std.specs.Option.{option_map_or}
use Rattle.std.specs.Str.{bytes_eq}
use Rattle.alt_schema.specs.Described.{index_for, same_kind}
use Rattle.alt_description.specs.Indexes.{is_named, is_used}
use Rattle.alt_schema.specs.Rules.{all_differ, indexes_fit, is_defined, keys_fit_together}
use Rattle.alt_schema.specs.declared.described.SchemaFault.{SchemaFault}
use Rattle.alt_schema.specs.declared.described.SchemaFault.TheVariants.{Refused, NoMemory}
use Rattle.alt_description.specs.declared.schema.Built.TheVariants.{UpTo}
use Rattle.alt_description.specs.declared.schema.IndexSchema.{IndexSchema}
use Rattle.alt_description.specs.declared.schema.KeyAttr.{KeyAttr}
use Rattle.alt_description.specs.declared.schema.Projection.{Projection}
use Rattle.alt_description.specs.declared.schema.Projection.TheVariants.{All, KeysOnly, Include}
use Rattle.alt_description.specs.declared.schema.TableSchema.{TableSchema}
use Rattle.alt_schema.specs.declared.stated.Element.{Element}
use Rattle.alt_schema.specs.declared.stated.Stated.{Stated}
use Rattle.alt_schema.specs.declared.stated.StatedIndex.{StatedIndex}
use Rattle.alt_shape.specs.Refusals.{bad_key_schema, bad_index}
use Rattle.alt_shape.specs.declared.refusal.Refusal.{Refusal}

-- ---- an index more

-- the definitions of a table, and behind them those of these whose names it lacks
abbrev pub definitions_with : TableSchema → List KeyAttr → List KeyAttr
definitions_with d more =
    d.definitions ++ filter (λ a. not (is_defined d.definitions a.name)) more

-- an index as it is added: of a family, and built of no item
abbrev pub index_added : TableSchema → List KeyAttr → ℕ → StatedIndex → IndexSchema
index_added d more family i =
    record (index_for (definitions_with d more) family i) { built = UpTo None }

-- a description with an index more, the last of the global ones
abbrev pub with_index : TableSchema → List KeyAttr → ℕ → StatedIndex → TableSchema
with_index d more family i = record d {
  definitions = definitions_with d more;
  globals = d.globals ++ index_added d more family i ∷ [];
}

-- ---- an index less

-- a description without its global index of a name
abbrev pub without_named : TableSchema → List ℕ → TableSchema
without_named d name = record d { globals = filter (λ i. not (is_named name i)) d.globals }

-- and then without the definitions that no key uses
abbrev pub without_index : TableSchema → List ℕ → TableSchema
without_index d name = record (without_named d name) {
  definitions = filter (λ a. is_used (without_named d name) a.name) d.definitions;
}

-- ---- a description, as a CreateTable would state it

-- the elements of a key schema
abbrev pub key_schema_elements : KeyAttr → Option KeyAttr → List Element
key_schema_elements hash range = record { name = hash.name; role = codes "HASH" }
    ∷ option_map_or (λ (r : KeyAttr). record { name = r.name; role = codes "RANGE" } ∷ []) range []

-- the word of a projection
abbrev pub word_of : Projection → List ℕ
word_of All = codes "ALL"
word_of KeysOnly = codes "KEYS_ONLY"
word_of (Include names) = codes "INCLUDE"

-- the names that it includes
abbrev pub included_names : Projection → Option (List (List ℕ))
included_names All = None
included_names KeysOnly = None
included_names (Include names) = Some names

-- an index
abbrev pub stated_index : IndexSchema → StatedIndex
stated_index i = record {
  name = i.name;
  keys = key_schema_elements i.hash i.range;
  projects = word_of i.projection;
  includes = included_names i.projection;
}

-- a table with an index more
abbrev pub stated_with : TableSchema → List KeyAttr → StatedIndex → Stated
stated_with d more i = record {
  name = d.name;
  keys = key_schema_elements d.hash d.range;
  definitions = definitions_with d more;
  locals = map stated_index d.locals;
  globals = map stated_index d.globals ++ i ∷ [];
  view = d.view;
}

-- ---- what is tested

-- a definition has another kind than the table's of its name
abbrev pub differs_in_kind : TableSchema → KeyAttr → Bool
differs_in_kind d a =
    list_any (λ b. bytes_eq b.name a.name && not (same_kind b.kind a.kind)) d.definitions

-- definitions that are given fit a table as it is, and as it is then: of its kinds, each used then, and given once
abbrev pub definitions_fit : TableSchema → TableSchema → List KeyAttr → Bool
definitions_fit d later more = not (list_any (differs_in_kind d) more)
    && (list_all (λ a. is_used later a.name) more && all_differ (λ a. a.name) more)

-- the keys and definitions of a table with an index more are good
abbrev pub keys_fit_with : TableSchema → List KeyAttr → StatedIndex → Bool
keys_fit_with d more i = keys_fit_together (stated_with d more i)

-- and so are its indexes
abbrev pub indexes_fit_with : TableSchema → List KeyAttr → StatedIndex → Bool
indexes_fit_with d more i = indexes_fit (stated_with d more i)

-- no global index has that name
abbrev pub is_none_of : TableSchema → List ℕ → Bool
is_none_of d name = not (list_any (is_named name) d.globals)

-- ---- why it is refused

-- keys and definitions with an index more, then the index beside the others
abbrev pub refused_with : TableSchema → List KeyAttr → ℕ → StatedIndex → Option Refusal
refused_with d more family i =
    if not (definitions_fit d (with_index d more family i) more && keys_fit_with d more i)
    then Some bad_key_schema
    else (if not (indexes_fit_with d more i) then Some bad_index else None)

-- definitions, with an index less
abbrev pub refused_without : TableSchema → List KeyAttr → List ℕ → Option Refusal
refused_without d more name =
    if not (definitions_fit d (without_index d name) more) then Some bad_key_schema else None

-- a fault is that refusal, or memory was refused
abbrev pub IsFaultOf : Option Refusal → SchemaFault → Type 0
IsFaultOf refused (Refused r) = refused ≡ Some r
IsFaultOf refused NoMemory = Unit {0}
