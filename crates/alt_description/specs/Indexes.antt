-- What an item's row in an index is, and which items an index takes (DynamoDB Developer Guide, "Using Global Secondary
-- Indexes", "Attribute projections").
use Rattle.std.specs.Prelude.{ℕ, Bool, true, false, ◌&&◌, ◌||◌, nat_lt, nat_le, if◌then◌else◌, List, ◌++◌, length, Option, Some, None}
use Rattle.std.specs.List.{list_any, list_all}
use Rattle.std.specs.Option.{option_map_or}
use Rattle.std.specs.Str.{bytes_eq}
use Rattle.std.specs.FinMap.Entries.{where_key}
use Rattle.alt_value.specs.Members.{text_order}
use Rattle.alt_value.specs.Tree.{Tree, S_tree, N_tree, B_tree, Pair}
use Rattle.alt_value.specs.Item.{at_name}
use Rattle.alt_value.specs.declared.kind.KeyKind.{KeyKind}
use Rattle.alt_value.specs.declared.kind.KeyKind.TheVariants.{S, N, B}
use Rattle.alt_description.specs.Bare.{is_whole}
use Rattle.alt_description.specs.declared.schema.KeyAttr.{KeyAttr}
use Rattle.alt_description.specs.declared.schema.Projection.{Projection}
use Rattle.alt_description.specs.declared.schema.Projection.TheVariants.{All, KeysOnly, Include}
use Rattle.alt_description.specs.declared.schema.IndexSchema.{IndexSchema}
use Rattle.alt_description.specs.declared.schema.TableSchema.{TableSchema}

-- the indexes of a table, numbered from 0: the local ones first
abbrev pub indexes : TableSchema → List IndexSchema
indexes s = s.locals ++ s.globals

-- whether an index has that name
abbrev pub is_named : List ℕ → IndexSchema → Bool
is_named name index = bytes_eq index.name name

-- whether it has that name and can be read, since it is whole
abbrev pub is_read_as : List ℕ → IndexSchema → Bool
is_read_as name index = is_named name index && is_whole index.built

-- whether a name is one of those
abbrev pub stands_among_names : List (List ℕ) → List ℕ → Bool
stands_among_names names name = list_any (λ other. bytes_eq other name) names

-- whether a test holds of the RANGE attribute, where there is one
abbrev pub of_range : (KeyAttr → Bool) → Bool → Option KeyAttr → Bool
of_range test without None = without
of_range test without (Some range) = test range

-- ---- which items are in an index

-- the bytes of a key: some, and not too many
abbrev pub is_key_length : ℕ → ℕ → Bool
is_key_length most n = nat_lt 0 n && nat_le n most

-- whether a value can be a key of that kind
abbrev pub is_key_value : ℕ → KeyKind → Tree → Bool
is_key_value most S (S_tree text) = is_key_length most (length text)
is_key_value most N (N_tree number) = true
is_key_value most B (B_tree bytes) = is_key_length most (length bytes)
is_key_value most kind other = false

-- the longest HASH and RANGE keys, in bytes (Developer Guide, "Service, account, and table quotas")
abbrev pub longest_hash : ℕ
longest_hash = 2048

-- and the longest RANGE key
abbrev pub longest_range : ℕ
longest_range = 1024

-- the item has the key attribute, with a value that can be such a key
abbrev pub has_part : ℕ → List Pair → KeyAttr → Bool
has_part most item key = option_map_or (is_key_value most key.kind) (at_name key.name item) false

-- the item has all key attributes of the index, each with a value that can be such a key
abbrev pub is_in_index : IndexSchema → List Pair → Bool
is_in_index index item = has_part longest_hash item index.hash
    && of_range (has_part longest_range item) true index.range

-- ---- what the index keeps of them

-- the key attribute has that name
abbrev pub has_key_name : List ℕ → KeyAttr → Bool
has_key_name name key = bytes_eq key.name name

-- whether an attribute of that name is a key of these
abbrev pub is_key : KeyAttr → Option KeyAttr → List ℕ → Bool
is_key hash range name = has_key_name name hash || of_range (has_key_name name) false range

-- whether it is one of the table or of an index
abbrev pub is_used : TableSchema → List ℕ → Bool
is_used d name = is_key d.hash d.range name
    || list_any (λ i. is_key i.hash i.range name) (indexes d)

-- whether a projection names the attribute
abbrev pub is_included : Projection → List ℕ → Bool
is_included All name = true
is_included KeysOnly name = false
is_included (Include names) name = stands_among_names names name

-- whether an attribute is projected; the keys of the table and of the index always are
abbrev pub is_projected : TableSchema → IndexSchema → List ℕ → Bool
is_projected s index name = is_included index.projection name
    || (is_key s.hash s.range name || is_key index.hash index.range name)

-- the item cut to the projected attributes
abbrev pub cut : TableSchema → IndexSchema → List Pair → List Pair
cut s index item = where_key text_order (is_projected s index) item

-- an item's row in an index, if it is in it
abbrev pub index_row : TableSchema → List Pair → IndexSchema → Option (List Pair)
index_row s item index = if is_in_index index item then Some (cut s index item) else None

-- ---- whether an item's index keys are keys

-- no value, or one that can be a key of that kind
abbrev pub is_key_or_none : ℕ → KeyKind → Option Tree → Bool
is_key_or_none most kind None = true
is_key_or_none most kind (Some value) = is_key_value most kind value

-- where the item has a key attribute, its value can be a key
abbrev pub part_fits : ℕ → List Pair → KeyAttr → Bool
part_fits most item key = is_key_or_none most key.kind (at_name key.name item)

-- each key attribute of the index that the item has can be a key
abbrev pub index_fits : List Pair → IndexSchema → Bool
index_fits item index = part_fits longest_hash item index.hash
    && of_range (part_fits longest_range item) true index.range

-- each key attribute of an index that the item has can be a key
abbrev pub keys_fit : TableSchema → List Pair → Bool
keys_fit s item = list_all (index_fits item) (indexes s)
