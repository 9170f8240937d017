-- Where a walk begins among rows.
use Rattle.std.specs.Prelude.{◌≡◌, ◌≢◌, ℕ, Bool, true, false, List, [], Option, Some, None}
use Rattle.std.specs.declared.cmp.Ordering.TheVariants.{Less}
use Rattle.std.specs.List.{AllByRecursion}
use Rattle.alt_cells.specs.Keys.{key_cmp}
use Rattle.alt_rowblocks.specs.Format.{Entry}

-- a row below a key
abbrev pub IsBelowKey : List ℕ → Entry → Type 0
IsBelowKey key e = key_cmp e.0 key ≡ Less

-- and one that isn't
abbrev pub IsFromKey : List ℕ → Entry → Type 0
IsFromKey key e = key_cmp e.0 key ≢ Less

-- a walk from a key on begins between the rows below it and the others; with no key it begins before the first row, or behind the last one
abbrev pub IsCutAtKey : Option (List ℕ) → Bool → List Entry → List Entry → Type 0
IsCutAtKey (Some key) forward front back =
    AllByRecursion (IsBelowKey key) front × AllByRecursion (IsFromKey key) back
IsCutAtKey None true front back = front ≡ []
IsCutAtKey None false front back = back ≡ []

-- a walk passes a row of this key on its way, all where it goes to no key
abbrev pub IsPassed : Option (List ℕ) → List ℕ → Type 0
IsPassed None key = Unit {0}
IsPassed (Some to) key = key_cmp key to ≡ Less
