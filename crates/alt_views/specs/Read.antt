-- What is read of an index row.
use Rattle.std.specs.Prelude.{◌≡◌, ◌<◌, ℕ, List, drop, length, Option, Some, None, option_map, Result, Ok, Err}
use Rattle.alt_cells.specs.Changes.{Columns}
use Rattle.alt_keyorder.specs.KeyBytes.{IsKeyOf}
use Rattle.alt_keyorder.specs.Place.{place_bytes}
use Rattle.alt_machine.specs.Indexed.{KeyValues, index_place}
use Rattle.alt_schema.specs.declared.schema.IndexSchema.{IndexSchema}
use Rattle.alt_schema.specs.declared.schema.KeyAttr.{KeyAttr}
use Rattle.alt_schema.specs.declared.schema.TableSchema.{TableSchema}
use Rattle.alt_value.specs.Item.{with_pair}
use Rattle.alt_value.specs.Tree.{Tree, Pair}
use Rattle.alt_views.specs.IndexRows.{KeyedRow, index_columns}
use Rattle.alt_views.specs.ItemRows.{IsReadItem}
use Rattle.alt_views.specs.declared.indexed.IndexRow.{IndexRow}
use Rattle.alt_views.specs.declared.item_row.Unread.{Unread}
use Rattle.alt_views.specs.declared.item_row.Unread.TheVariants.{Bad, NoMemory}

-- a row of the program, with its key
abbrev pub row_at : IndexRow → KeyedRow
row_at row = (row.key, row.columns)

-- The key attributes have names.
pub record AreNamed (d : TableSchema) (i : IndexSchema) : Type 0 where
  pub hash : 0 < length d.hash.name
  pub range : (r : KeyAttr) → d.range ≡ Some r → 0 < length r.name
  pub own_hash : 0 < length i.hash.name
  pub own_range : (r : KeyAttr) → i.range ≡ Some r → 0 < length r.name

-- At that key and with those columns an index keeps this of an item.
pub record IsKeptAt (d : TableSchema) (i : IndexSchema) (kept : List Pair) (key : List ℕ)
    (columns : Columns) : Type 0 where
  pub named : AreNamed d i
  pub read : IsReadItem kept
  pub place : option_map place_bytes (index_place d i kept) ≡ Some key
  pub shows : columns ≡ index_columns d i kept

-- ---- the parts of a key

-- a value of the kind of a key attribute, which has a name
abbrev pub IsValueOf : KeyAttr → Tree → Type 0
IsValueOf attribute t = IsKeyOf attribute.kind t × (0 < length attribute.name)

-- the same of a RANGE value, which is there exactly where the key has the attribute
abbrev pub IsRangeValueOf : Option KeyAttr → Option Tree → Type 0
IsRangeValueOf None None = Unit {0}
IsRangeValueOf None (Some t) = ⊥
IsRangeValueOf (Some r) None = ⊥
IsRangeValueOf (Some r) (Some t) = IsValueOf r t

-- values of these key attributes
abbrev pub AreValuesOf : KeyAttr → Option KeyAttr → KeyValues → Type 0
AreValuesOf hash range values = IsValueOf hash values.hash × IsRangeValueOf range values.range

-- an item with a RANGE value, where the key has one
abbrev pub with_range : Option KeyAttr → Option Tree → List Pair → List Pair
with_range (Some r) (Some t) item = with_pair r.name t item
with_range range o item = item

-- an item with the values of a key
abbrev pub with_values : KeyAttr → Option KeyAttr → KeyValues → List Pair → List Pair
with_values hash range values item =
    with_range range values.range (with_pair hash.name values.hash item)

-- The item is as wanted, and the key goes on behind the place that is told; where it isn't, memory was refused.
abbrev pub TakesKeyPart : List Pair → List ℕ → List ℕ → List Pair → Result ℕ Unread → Type 0
TakesKeyPart wanted key behind item (Ok end) = (item ≡ wanted) × (drop end key ≡ behind)
TakesKeyPart wanted key behind item (Err Bad) = ⊥
TakesKeyPart wanted key behind item (Err NoMemory) = Unit {0}

-- That is the item; where none is told, memory was refused.
abbrev pub ReadsIndexRow : List Pair → Result (List Pair) Unread → Type 0
ReadsIndexRow item (Ok read) = read ≡ item
ReadsIndexRow item (Err Bad) = ⊥
ReadsIndexRow item (Err NoMemory) = Unit {0}
