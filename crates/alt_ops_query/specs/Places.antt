-- Places at which items may stand, and ranges of them.
use Rattle.std.specs.Prelude.{◌≡◌, ◌&&◌, ℕ, Bool, List, Option, Some, None, option_map}
use Rattle.alt_keyorder.specs.Place.{place_bytes}
use Rattle.alt_machine.specs.Indexed.{index_entry, index_place}
use Rattle.alt_machine.specs.Keys.{place_of}
use Rattle.alt_machine.specs.Valid.{IsStored}
use Rattle.alt_machine.specs.Walks.{is_beyond}
use Rattle.alt_schema.specs.declared.schema.IndexSchema.{IndexSchema}
use Rattle.alt_schema.specs.declared.schema.TableSchema.{TableSchema}
use Rattle.alt_request.specs.TablesReading.{is_within}
use Rattle.alt_value.specs.Tree.{Pair}
use Rattle.alt_value.specs.Values.{IsItemOfValues}

-- where an item lies in a table or in an index
abbrev pub place_in_source : TableSchema → Option IndexSchema → List Pair → Option (List ℕ)
place_in_source d None item = place_of d item
place_in_source d (Some i) item = option_map place_bytes (index_place d i item)

-- An item may stand at a place of a table; or of an index, which keeps it of an item that may.
abbrev pub MayStand : TableSchema → Option IndexSchema → List ℕ → List Pair → Type 0
MayStand d None place item = IsStored d place item × IsItemOfValues item
MayStand d (Some i) key row = (place : List ℕ) × (item : List Pair)
    × IsStored d place item × IsItemOfValues item × (index_entry d i item ≡ Some (key, row))

-- Of the items that may stand there, a range holds exactly those that are beyond a place and pass a test.
abbrev pub HoldsListed : Bool → Option (List ℕ) → (List Pair → Bool) → TableSchema
    → Option IndexSchema → List ℕ → Option (List ℕ) → Type 0
HoldsListed forward place test d i from to = (key : List ℕ) (item : List Pair)
    → MayStand d i key item
    → is_within from to key ≡ (is_beyond forward place key && test item)
