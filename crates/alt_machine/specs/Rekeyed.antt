-- A finite map under other keys: the items of an index, among those of its table.
use Rattle.std.specs.Prelude.{ℕ, List, [], ◌∷◌, Option, Some, None}
use Rattle.std.specs.FinMap.{entries, from_entries}
use Rattle.alt_machine.specs.State.{Texts}

-- a list with one more in front, where there is one
abbrev pub before_those : {A : Type 0} → Option A → List A → List A
before_those None xs = xs
before_those (Some x) xs = x ∷ xs

-- the entries that the values of a list have under other keys, none for those that have none
abbrev pub rekeyed_entries : {X Y : Type 0} → (X → Option (List ℕ × Y)) → List (List ℕ × X)
    → List (List ℕ × Y)
rekeyed_entries g [] = []
rekeyed_entries g (e ∷ es) = before_those (g e.1) (rekeyed_entries g es)

-- the map of those entries
abbrev pub rekeyed : {X Y : Type 0} → (X → Option (List ℕ × Y)) → Texts X → Texts Y
rekeyed g m = from_entries (rekeyed_entries g (entries m))
