-- A body of a batch of writes that was read straight from its text: the tables with their writes, each in its plainest form.
use Rattle.std.specs.Prelude.{◌≡◌, ℕ, List, [], ◌∷◌, Some, Ok, codes, ⊤}
use Rattle.serde_json.specs.Data.{Data, array, object, Items, no_items, item, Members, no_members, member}
use Rattle.alt_codec.specs.Reading.{item_in}
use Rattle.alt_readahead.specs.declared.batch.TableWrites.{TableWrites}
use Rattle.alt_readahead.specs.declared.batch.Write.{Write}
use Rattle.alt_readahead.specs.declared.batch.Write.TheVariants.{Put, Delete}
use Rattle.alt_shape.specs.Shape.{given}

-- an object with one member alone
abbrev pub alone : List ℕ → Data → Data
alone name d = object (member name d no_members)

-- the JSON of a write, with the members of its item or key
abbrev pub write_json : List ℕ → List ℕ → Members → Data
write_json request name os = alone request (alone name (object os))

-- a JSON is a write: the put of an item, or the delete of a key, and nothing else
abbrev pub SaysWrite : Data → Write → Type 0
SaysWrite d (Put i) = (os : Members)
    × (d ≡ write_json (codes "PutRequest") (codes "Item") os) × (item_in 32 (object os) ≡ Ok i)
SaysWrite d (Delete k) = (os : Members)
    × (d ≡ write_json (codes "DeleteRequest") (codes "Key") os) × (item_in 32 (object os) ≡ Ok k)

-- the elements of an array are writes, one by one
abbrev pub SayWrites : Items → List Write → Type 0
SayWrites no_items [] = ⊤
SayWrites no_items (w ∷ ws) = ⊥
SayWrites (item d ds) [] = ⊥
SayWrites (item d ds) (w ∷ ws) = SaysWrite d w × SayWrites ds ws

-- A member of an object is a table with its writes.
pub record SaysTable (name : List ℕ) (d : Data) (t : TableWrites) : Type 0 where
  pub named : t.table ≡ name
  pub elements : Items
  pub array : d ≡ array elements
  pub writes : SayWrites elements t.writes.items

-- the members of an object are tables with their writes, one by one
abbrev pub SayTables : Members → List TableWrites → Type 0
SayTables no_members [] = ⊤
SayTables no_members (t ∷ ts) = ⊥
SayTables (member name d ms) [] = ⊥
SayTables (member name d ms) (t ∷ ts) = SaysTable name d t × SayTables ms ts

-- A body says `ms`, and these tables with their writes were read ahead of it.
pub record IsBatchAhead (ms : Members) (ts : List TableWrites) : Type 0 where
  pub tables : Members
  pub given : given (codes "RequestItems") ms ≡ Some (object tables)
  pub say : SayTables tables ts
