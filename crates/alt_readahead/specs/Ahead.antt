-- A body of which a part was read, with its item read ahead where that was come to.
use Rattle.std.specs.Prelude.{◌≡◌, ◌≢◌, ℕ, true, List, Option, Some, None, codes}
use Rattle.serde_json.specs.Data.{Data, Members, put}
use Rattle.alt_named.specs.Named.{is_among}
use Rattle.alt_value.specs.Tree.{Pair}
use Rattle.alt_readahead.specs.Direct.{IsReadAhead}
use Rattle.alt_shape.specs.Shape.{given}

-- two objects have the same at each of these names but the item's
abbrev pub SameOthers : List (List ℕ) → Members → Members → Type 0
SameOthers names ms bs = (name : List ℕ) → is_among names name ≡ true → name ≢ codes "Item"
    → given name ms ≡ given name bs

-- the members that a body says so far, those that were kept as JSON trees, and the item, where it is among them
abbrev pub IsReadSoFar : List (List ℕ) → Members → Members → Option (List Pair) → Type 0
IsReadSoFar names ms bs None = SameOthers names ms bs
IsReadSoFar names ms bs (Some item) = IsReadAhead names ms bs item

-- a member of this name and value more, whatever the members before it were
abbrev pub AddsMember : List (List ℕ) → List ℕ → Data → Members → Option (List Pair) → Members
    → Option (List Pair) → Type 0
AddsMember names name d bs item bs' item' = (ms : Members) → IsReadSoFar names ms bs item
    → IsReadSoFar names (put name d ms) bs' item'
