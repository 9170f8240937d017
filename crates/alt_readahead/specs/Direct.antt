-- What is read straight from the tokens of a text, without a tree, and a body in which an item was read so.
use Rattle.std.specs.Prelude.{◌≡◌, ◌≢◌, ℕ, true, List, Some, Ok, codes}
use Rattle.std.specs.Str.{IsUtf8}
use Rattle.json.specs.Token.{Token}
use Rattle.json.specs.Json.{value}
use Rattle.serde_json.specs.Data.{Data, object, Members, no_members}
use Rattle.serde_json.specs.Read.{of_json, read, converted}
use Rattle.alt_codec.specs.Reading.{value_in, item_in}
use Rattle.alt_named.specs.Named.{is_among}
use Rattle.alt_shape.specs.Shape.{given}
use Rattle.alt_value.specs.Tree.{Tree, Pair}

-- the next JSON of these tokens stands for this value, where so many levels have room, and those tokens come behind it
abbrev pub ReadsValue : ℕ → ℕ → List Token → Tree → List Token → Type 0
ReadsValue depth room before t after = (d : Data)
    × (converted of_json (value depth before) ≡ Some (d, after)) × (value_in room d ≡ Ok t)

-- so for an item
abbrev pub ReadsItem : ℕ → List Token → List Pair → List Token → Type 0
ReadsItem depth before i after = (os : Members)
    × (converted of_json (value depth before) ≡ Some (object os, after))
    × (item_in 32 (object os) ≡ Ok i)

-- the bytes are text in UTF-8 of one JSON object with these members
abbrev pub SaysObject : List ℕ → Members → Type 0
SaysObject bytes ms = IsUtf8 bytes × (read bytes ≡ Some (object ms))

-- A body says `ms`. Of its members of these names the others were kept as JSON trees, and the item was read ahead: an empty object stands
-- in its place.
pub record IsReadAhead (names : List (List ℕ)) (ms bs : Members) (item : List Pair) : Type 0 where
  pub others : (name : List ℕ) → is_among names name ≡ true → name ≢ codes "Item"
      → given name ms ≡ given name bs
  pub read : (os : Members) × (given (codes "Item") ms ≡ Some (object os))
      × (item_in 32 (object os) ≡ Ok item)
  pub stub : given (codes "Item") bs ≡ Some (object no_members)
