-- The items of an index: those of its table that have its key attributes, each cut to what the index keeps, in the order of their
-- places there (DynamoDB Developer Guide, "Using Global Secondary Indexes" and "Local Secondary Indexes"). They are a function of
-- the table's items.
use Rattle.std.specs.Prelude.{ℕ, List, Option, Some, None, option_map, option_and_then}
use Rattle.alt_keyorder.specs.Place.{Place, place_in_index, place_bytes}
use Rattle.alt_schema.specs.Indexes.{index_row}
use Rattle.alt_schema.specs.declared.schema.IndexSchema.{IndexSchema}
use Rattle.alt_schema.specs.declared.schema.KeyAttr.{KeyAttr}
use Rattle.alt_schema.specs.declared.schema.TableSchema.{TableSchema}
use Rattle.alt_value.specs.Tree.{Tree, Pair}
use Rattle.alt_machine.specs.Keys.{key_value}
use Rattle.alt_machine.specs.Rekeyed.{rekeyed}
use Rattle.alt_machine.specs.State.{Texts}

-- ---- places in an index

-- the values of a key: HASH, and RANGE where the key has it
pub record KeyValues : Type 0 where
  pub hash : Tree
  pub range : Option Tree

-- a HASH value with the RANGE value beside it, where a reading of attributes finds all that the key has
abbrev pub values_beside : (KeyAttr → Option Tree) → Option KeyAttr → Tree → Option KeyValues
values_beside read None hash = Some (record { hash = hash; range = None })
values_beside read (Some range) hash = option_map (λ r. record { hash = hash; range = Some r })
    (read range)

-- the values of a key, where a reading of attributes finds all of them
abbrev pub values_of : (KeyAttr → Option Tree) → KeyAttr → Option KeyAttr → Option KeyValues
values_of read hash range = option_and_then (values_beside read range) (read hash)

-- the place of an index's key, behind which comes the table's
abbrev pub place_of_both : KeyValues → KeyValues → Place
place_of_both own key = place_in_index own.hash own.range key.hash key.range

-- the place in an index, where a reading of attributes finds both keys
abbrev pub place_read : (KeyAttr → Option Tree) → TableSchema → IndexSchema → Option Place
place_read read d i = option_and_then
    (λ own. option_map (place_of_both own) (values_of read d.hash d.range))
    (values_of read i.hash i.range)

-- the place that its keys give an item in an index, where it has all of both
abbrev pub index_place : TableSchema → IndexSchema → List Pair → Option Place
index_place d i item = place_read (key_value item) d i

-- ---- what stands there

-- what an index keeps of an item, under the bytes of its place there; nothing of one that isn't in it
abbrev pub index_entry : TableSchema → IndexSchema → List Pair → Option (List ℕ × List Pair)
index_entry d i item = option_and_then
    (λ row. option_map (λ place. (place_bytes place, row)) (index_place d i item))
    (index_row d item i)

-- the items of an index, of those of its table
abbrev pub index_items : TableSchema → IndexSchema → Texts (List Pair) → Texts (List Pair)
index_items d i items = rekeyed (index_entry d i) items
