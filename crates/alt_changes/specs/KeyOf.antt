-- What a record of a change is put together from: sizes that are bounded, and the key of an item.
use Rattle.std.specs.Prelude.{◌≤◌, ℕ, List, [], ◌∷◌, Option, Some, None, IfSome}
use Rattle.alt_machine.specs.State.{Change}
use Rattle.alt_machine.specs.declared.TheConstants.{LARGEST_ITEM}
use Rattle.alt_schema.specs.declared.schema.KeyAttr.{KeyAttr}
use Rattle.alt_value.specs.Item.{at_name, with_pair}
use Rattle.alt_value.specs.Size.{item_size}
use Rattle.alt_value.specs.Tree.{Tree, Pair}

-- an item that is there is as large as may be stored at most
abbrev pub IsSized : Option (List Pair) → Type 0
IsSized item = IfSome item (λ i. item_size i ≤ LARGEST_ITEM)

-- both items of a change are
abbrev pub HasSizes : Change → Type 0
HasSizes c = IsSized c.old × IsSized c.new

-- with the value of an attribute, where it is there; no attribute has the empty name
abbrev pub with_attribute : List ℕ → Option Tree → List Pair → List Pair
with_attribute [] o key = key
with_attribute name None key = key
with_attribute (b ∷ name) (Some t) key = with_pair (b ∷ name) t key

-- with those of a key
abbrev pub with_key : KeyAttr → Option KeyAttr → List Pair → List Pair → List Pair
with_key hash None item key = with_attribute hash.name (at_name hash.name item) key
with_key hash (Some range) item key = with_attribute range.name (at_name range.name item)
    (with_attribute hash.name (at_name hash.name item) key)
