-- The key of an item, and the place that it gives the item in its table.
use Rattle.std.specs.Prelude.{ℕ, List, length, ◌==◌, ◌&&◌, nat_lt, nat_le, Bool, true, false, Option, Some, None, option_map, option_and_then, if◌then◌else◌}
use Rattle.std.specs.Option.{option_map_or}
use Rattle.alt_keyorder.specs.Place.{Place, place_in_table, place_bytes}
use Rattle.alt_schema.specs.Indexes.{of_range, longest_hash, longest_range}
use Rattle.alt_schema.specs.declared.schema.KeyAttr.{KeyAttr}
use Rattle.alt_schema.specs.declared.schema.TableSchema.{TableSchema}
use Rattle.alt_value.specs.Item.{at_name}
use Rattle.alt_value.specs.Tree.{Tree, Pair, S_tree, N_tree, B_tree}
use Rattle.alt_value.specs.declared.kind.KeyKind.{KeyKind}
use Rattle.alt_value.specs.declared.kind.KeyKind.TheVariants.{S, N, B}

-- ---- what a key is

-- a value of that kind that isn't empty
abbrev pub can_be_key : KeyKind → Tree → Bool
can_be_key S (S_tree s) = nat_lt 0 (length s)
can_be_key N (N_tree z) = true
can_be_key B (B_tree b) = nat_lt 0 (length b)
can_be_key kind other = false

-- a value, where it can be a key of that kind
abbrev pub if_key : KeyKind → Tree → Option Tree
if_key kind t = if can_be_key kind t then Some t else None

-- the value of a key attribute in an item, where it is there and can be a key
abbrev pub key_value : List Pair → KeyAttr → Option Tree
key_value item key = option_and_then (if_key key.kind) (at_name key.name item)

-- ---- where an item stands

-- the place of a HASH value and of the RANGE value that is beside it, where the table has a RANGE key
abbrev pub place_beside : List Pair → Option KeyAttr → Tree → Option Place
place_beside item None hash = Some (place_in_table hash None)
place_beside item (Some range) hash = option_map (λ r. place_in_table hash (Some r))
    (key_value item range)

-- the place that its key gives an item in its table, where it has all of the key
abbrev pub key_place : TableSchema → List Pair → Option Place
key_place d item = option_and_then (place_beside item d.range) (key_value item d.hash)

-- its bytes, whose order is the order of places (docs/formats/key-bytes.md); an item stands under them
abbrev pub place_of : TableSchema → List Pair → Option (List ℕ)
place_of d item = option_map place_bytes (key_place d item)

-- how many attributes a key has
abbrev pub key_count : TableSchema → ℕ
key_count d = option_map_or (λ _. 2) d.range 1

-- the place of a key, which has the key attributes and no others
abbrev pub place_of_key : TableSchema → List Pair → Option (List ℕ)
place_of_key d key = if length key == key_count d then place_of d key else None

-- ---- how long a key is

-- the bytes of a text or a binary
abbrev pub byte_count : Tree → ℕ
byte_count (S_tree s) = length s
byte_count (B_tree b) = length b
byte_count other = 0

-- the value of a key attribute has at most so many bytes
abbrev pub is_key_value_within : ℕ → List Pair → KeyAttr → Bool
is_key_value_within most item key = option_map_or (λ t. nat_le (byte_count t) most)
    (at_name key.name item) true

-- HASH has 2,048 bytes at most, RANGE 1,024 (Developer Guide, "Service, account, and table quotas")
abbrev pub key_fits : TableSchema → List Pair → Bool
key_fits d item = is_key_value_within longest_hash item d.hash && of_range
    (is_key_value_within longest_range item) true d.range
