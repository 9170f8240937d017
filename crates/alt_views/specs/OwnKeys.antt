-- The key of an item that is read from its row, without its other attributes.
use Rattle.std.specs.Prelude.{◌≡◌, ◌≤◌, ◌<◌, ℕ, true, List, Option, Some, None}
use Rattle.alt_schema.specs.Indexes.{is_key}
use Rattle.alt_schema.specs.declared.schema.TableSchema.{TableSchema}
use Rattle.alt_value.specs.Item.{at_name}
use Rattle.alt_value.specs.Size.{item_size}
use Rattle.alt_value.specs.Tree.{Pair}

-- at each name of a key attribute stands what stands there in the item
abbrev pub HasKeyOf : TableSchema → List Pair → List Pair → Type 0
HasKeyOf d item key = (name : List ℕ) → is_key d.hash d.range name ≡ true
    → at_name name key ≡ at_name name item

-- the key of an item that has so many bytes at most, and how many it has; None for one that has more
abbrev pub IsKeyWithin : TableSchema → ℕ → List Pair → Option (List Pair × ℕ) → Type 0
IsKeyWithin d most item None = most < item_size item
IsKeyWithin d most item (Some own) = (item_size item ≤ most) × HasKeyOf d item own.0
    × (own.1 ≡ item_size item)
