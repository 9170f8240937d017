-- Where a name stands among an item's entries, or where it is to go.
use Rattle.std.specs.Prelude.{◌≡◌, ℕ, ◌<◌, ◌≤◌, List, length, slice_index_or}
use Rattle.std.specs.declared.cmp.Ordering.TheVariants.{Less, Greater}
use Rattle.alt_value.specs.declared.attr.Pair.{Pair as Entry}
use Rattle.alt_value.specs.Members.{text_order}

-- the name stands at the place, and the names before it are below it
pub record NameStandsAt (name : List ℕ) (entries : List Entry) (i : ℕ) : Type 0 where
  pub within : i < length entries
  pub same : (d : Entry) → (slice_index_or entries i d).name ≡ name
  pub before : (k : ℕ) (d : Entry) → k < i → text_order (slice_index_or entries k d).name name
      ≡ Less

-- the names before the place are below the name, and those from it on are above
pub record GoesTo (name : List ℕ) (entries : List Entry) (i : ℕ) : Type 0 where
  pub within : i ≤ length entries
  pub before : (k : ℕ) (d : Entry) → k < i → text_order (slice_index_or entries k d).name name
      ≡ Less
  pub after : (k : ℕ) (d : Entry) → i ≤ k → k < length entries
      → text_order (slice_index_or entries k d).name name ≡ Greater
