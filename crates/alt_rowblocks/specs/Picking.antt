-- The rows of a block as pairs of fields, of which the second isn't read.
use Rattle.std.specs.Prelude.{◌≡◌, ℕ, ◌<◌, ◌^◌, List, ◌++◌, length, Option, Some, None, T}
use Rattle.std.specs.List.{AllByRecursion, flat_map}
use Rattle.std.specs.FinMap.Entries.{find, is_sorted}
use Rattle.alt_fields.specs.Field.{field}
use Rattle.alt_cells.specs.Format.{bytes_of_row, IsHeldRow}
use Rattle.alt_cells.specs.Keys.{key_cmp}
use Rattle.alt_cells.specs.declared.row.RowCells.{RowCells}

-- a row's key, and its bytes
abbrev pub Piece : Type 0
Piece = List ℕ × List ℕ

-- both as fields
abbrev pub piece_bytes : Piece → List ℕ
piece_bytes p = field p.0 ++ field p.1

-- lengths that fit their eight bytes
abbrev pub IsShortPiece : Piece → Type 0
IsShortPiece p = (length p.0 < 2 ^ 64) × (length p.1 < 2 ^ 64)

-- the bytes are those of these pieces to their end, and the keys rise
pub record ArePieces (bytes : List ℕ) (pieces : List Piece) : Type 0 where
  pub short : AllByRecursion IsShortPiece pieces
  pub rising : T (is_sorted key_cmp pieces)
  pub is : bytes ≡ flat_map piece_bytes pieces

-- the bytes are of no pieces
abbrev pub NoPieces : List ℕ → Type 0
NoPieces bytes = (pieces : List Piece) → ArePieces bytes pieces → ⊥

-- they are of some
pub record HasPieces (bytes : List ℕ) : Type 0 where
  pub pieces : List Piece
  pub are : ArePieces bytes pieces

-- and this is what they have at a key
pub record Picks (bytes key : List ℕ) (found : Option (List ℕ)) : Type 0 where
  pub pieces : List Piece
  pub are : ArePieces bytes pieces
  pub found_is : found ≡ find key_cmp key pieces

-- no row for no bytes, and for bytes the row that they spell
abbrev pub IsRowOf : Option (List ℕ) → Option RowCells → Type 0
IsRowOf None None = Unit {0}
IsRowOf None (Some row) = ⊥
IsRowOf (Some bytes) None = ⊥
IsRowOf (Some bytes) (Some row) = IsHeldRow row × (bytes ≡ bytes_of_row row)

-- whatever pieces these bytes are of, the row is that of what they have at a key
pub record IsPicked (bytes key : List ℕ) (row : Option RowCells) : Type 0 where
  pub found : Option (List ℕ)
  pub picks : Picks bytes key found
  pub row_is : IsRowOf found row
