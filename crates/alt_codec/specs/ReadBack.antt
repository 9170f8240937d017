-- What is written is read back as the same value. Only an empty set isn't, since none is read, and what nests too deep.
use Rattle.std.specs.Prelude.{◌≡◌, ℕ, ◌≤◌, T, List, Ok}
use Rattle.serde_json.specs.Data.{Data}
use Rattle.alt_value.specs.Size.{depth, fields_depth}
use Rattle.alt_value.specs.Tree.{Tree, Pair, fields_of}
use Rattle.alt_value.specs.Values.{sets_full, fields_full}
use Rattle.alt_codec.specs.JsonOf.{JsonOf, ItemJsonOf}
use Rattle.alt_codec.specs.Reading.{value_in, item_in}

-- the JSON is read as that value, where no set in it is empty and it nests no deeper than there is room
abbrev pub ReadsAsValue : ℕ → Data → Tree → Type 0
ReadsAsValue room d t = T (sets_full t) → depth t ≤ room → value_in room d ≡ Ok t

-- the JSON is read as that item
abbrev pub ReadsAsItem : ℕ → Data → List Pair → Type 0
ReadsAsItem room d item = T (fields_full (fields_of item)) → fields_depth (fields_of item) ≤ room
    → item_in room d ≡ Ok item

-- so it stands for that value
abbrev pub StandsForValue : ℕ → Data → Tree → Type 0
StandsForValue room d t = T (sets_full t) → depth t ≤ room → JsonOf room d t

-- and for that item
abbrev pub StandsForItem : ℕ → Data → List Pair → Type 0
StandsForItem room d item =
    T (fields_full (fields_of item)) → fields_depth (fields_of item) ≤ room → ItemJsonOf room d item
