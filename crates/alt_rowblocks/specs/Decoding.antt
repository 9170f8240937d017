-- The rows of a block, as they are read.
use Rattle.std.specs.Prelude.{◌≡◌, ℕ, List, [], ◌∷◌, ◌++◌, length, None, T}
use Rattle.std.specs.List.{AllByRecursion}
use Rattle.std.specs.FinMap.{empty}
use Rattle.std.specs.FinMap.Entries.{is_sorted}
use Rattle.alt_cells.specs.Keys.{key_cmp}
use Rattle.alt_rowblocks.specs.Format.{Entry, rows_bytes, IsHeldEntry}

-- rows with rising keys, which fit their bytes
abbrev pub AreRows : List Entry → Type 0
AreRows rows = AllByRecursion IsHeldEntry rows × T (is_sorted key_cmp rows)

-- the keys that rows can go on with
abbrev pub IsNextKey : List Entry → List ℕ → Type 0
IsNextKey rows key =
    T (is_sorted key_cmp (rows ++ (key, record { gone = None; cells = empty }) ∷ []))

-- so many bytes stand before the last row
abbrev pub StandBefore : ℕ → List Entry → Type 0
StandBefore n rows = (front : List Entry) (last : Entry) → rows ≡ front ++ last ∷ []
    → n ≡ length (rows_bytes front)

-- the bytes are of no rows
abbrev pub NoRows : List ℕ → Type 0
NoRows bytes = (rows : List Entry) → AreRows rows → bytes ≡ rows_bytes rows → ⊥
