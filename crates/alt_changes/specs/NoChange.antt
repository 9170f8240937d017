-- Where a row isn't that of a change: the place within its first bad cell by name.
use Rattle.std.specs.Prelude.{◌≡◌, ◌≢◌, ◌<◌, ◌+◌, ◌^◌, ◌==◌, ◌⊎◌, ◌||◌, ℕ, Bool, true, false, List, [], ◌∷◌, length, Some, IfSome, codes}
use Rattle.std.specs.FinMap.{get}
use Rattle.std.specs.Int.{w64, to_be_bytes}
use Rattle.std.specs.Str.{bytes_eq}
use Rattle.alt_cellbytes.specs.Places as cell
use Rattle.alt_cells.specs.Changes.{Columns}
use Rattle.alt_changes.specs.ChangeRows.{IsReadItem, item_bytes}
use Rattle.alt_machine.specs.Valid.{deepest}
use Rattle.alt_value.specs.Tree.{Pair}

-- ---- a cell that is right

-- the bytes of a moment
abbrev pub IsMoment : List ℕ → Type 0
IsMoment bytes = (n : ℕ) × (n < 2 ^ 64) × (bytes ≡ to_be_bytes w64 n)

-- the bytes of an item
abbrev pub IsItemCell : List ℕ → Type 0
IsItemCell bytes = (item : List Pair) × IsReadItem item × (bytes ≡ item_bytes item)

-- the cell that tells that time to live wrote the change has no bytes
abbrev pub IsWriterCell : List ℕ → Type 0
IsWriterCell bytes = bytes ≡ []

-- ---- and one that is bad at a place

-- a moment that ends early is bad where it ends, and one that goes on, behind its 8 bytes
abbrev pub NoMoment : List ℕ → ℕ → Type 0
NoMoment bytes at = ((length bytes < 8) × (at ≡ length bytes))
    ⊎ ((8 < length bytes) × (at ≡ 8))

-- the bytes begin as those of a map
abbrev pub is_map : List ℕ → Bool
is_map [] = false
is_map (b ∷ bytes) = b == 10

-- Bytes that don't begin a map are bad there; others where they are no cell bytes, or nest too deep.
abbrev pub NoItem : List ℕ → ℕ → Type 0
NoItem bytes at = ((is_map bytes ≡ false) × (at ≡ 0))
    ⊎ ((is_map bytes ≡ true)
    × (cell.IsBadValueAt bytes at ⊎ cell.IsDeepAt (deepest + 1) bytes at))

-- no item has these bytes
abbrev pub NoneIs : List ℕ → Type 0
NoneIs bytes = (item : List Pair) → IsReadItem item → bytes ≡ item_bytes item → ⊥

-- the moment of a row is bad there
abbrev pub IsBadMoment : Columns → ℕ → Type 0
IsBadMoment row at = (bytes : List ℕ) × (get row (codes "m") ≡ Some bytes) × NoMoment bytes at

-- and so is the item in a column
abbrev pub IsBadItem : Columns → List ℕ → ℕ → Type 0
IsBadItem row name at = (bytes : List ℕ) × (get row name ≡ Some bytes) × NoItem bytes at
    × NoneIs bytes

-- and so is the cell that tells who wrote the change, which has bytes then
abbrev pub IsBadWriter : Columns → ℕ → Type 0
IsBadWriter row at = (bytes : List ℕ) × (get row (codes "u") ≡ Some bytes) × (bytes ≢ [])
    × (at ≡ 0)

-- ---- a row

-- a column of that name is one of a change
abbrev pub is_column : List ℕ → Bool
is_column name = bytes_eq name (codes "m") || (bytes_eq name (codes "n")
    || (bytes_eq name (codes "o") || bytes_eq name (codes "u")))

-- The first cell by name that is bad, is bad there; where no cell is, but one is missing or too many, the place is 0.
pub data IsBadChangeAt (row : Columns) (at : ℕ) : Type 0 where
  in_moment : (bytes : List ℕ) → get row (codes "m") ≡ Some bytes → NoMoment bytes at
      → IsBadChangeAt row at
  in_new : IfSome (get row (codes "m")) IsMoment → (bytes : List ℕ)
      → get row (codes "n") ≡ Some bytes → NoItem bytes at → IsBadChangeAt row at
  in_old : IfSome (get row (codes "m")) IsMoment → IfSome (get row (codes "n")) IsItemCell
      → (bytes : List ℕ) → get row (codes "o") ≡ Some bytes → NoItem bytes at → IsBadChangeAt row at
  in_writer : IfSome (get row (codes "m")) IsMoment → IfSome (get row (codes "n")) IsItemCell
      → IfSome (get row (codes "o")) IsItemCell → (bytes : List ℕ)
      → get row (codes "u") ≡ Some bytes → bytes ≢ [] → at ≡ 0 → IsBadChangeAt row at
  in_none : IfSome (get row (codes "m")) IsMoment → IfSome (get row (codes "n")) IsItemCell
      → IfSome (get row (codes "o")) IsItemCell → IfSome (get row (codes "u")) IsWriterCell
      → at ≡ 0 → IsBadChangeAt row at
