-- The files as they read, in a map.
use Rattle.std.specs.Prelude.{ℕ, List, Option, Some, None, Vec}
use Rattle.std.specs.declared.alloc.Global.{Global}
use Rattle.std.specs.BTreeMap.{BTreeMap, get}
use Rattle.std.specs.Ordering.{nat_cmp}

-- the bytes that a file has
abbrev pub option_items : Option (Vec ℕ Global) → Option (List ℕ)
option_items None = None
option_items (Some bytes) = Some bytes.items

-- the bytes of a file of the map
abbrev pub file_in : BTreeMap ℕ (Vec ℕ Global) → ℕ → Option (List ℕ)
file_in files f = option_items (get nat_cmp files f)
