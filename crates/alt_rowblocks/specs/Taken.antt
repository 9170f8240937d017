-- What is taken of the bytes of a block, whatever they are: a row that is looked for, and what a walk has in hand and gives.
use Rattle.std.specs.Prelude.{◌≡◌, ℕ, Bool, true, false, List, [], ◌∷◌, ◌++◌, drop, Option, Some, None}
use Rattle.std.specs.List.{AllByRecursion, flat_map}
use Rattle.alt_fields.specs.Field.{field}
use Rattle.alt_cells.specs.declared.row.RowCells.{RowCells}
use Rattle.alt_rowblocks.specs.Cut.{IsPassed}
use Rattle.alt_rowblocks.specs.Format.{Entry, row_entry_bytes, IsHeldEntry}
use Rattle.alt_rowblocks.specs.Holding.{IsInHand, StandAt}
use Rattle.alt_rowblocks.specs.Picking.{Piece, piece_bytes, IsShortPiece, IsPicked}
use Rattle.alt_rowblocks.specs.declared.hand.Hand.{Hand}

-- the bytes are one field to their end, and what the row is is picked of all that it holds
pub record IsFoundIn (bytes key : List ℕ) (row : Option RowCells) : Type 0 where
  pub rows : List ℕ
  pub is : bytes ≡ field rows
  pub picked : IsPicked rows key row

-- nothing is left, or a piece stands next that isn't passed
pub data PassesNoMore (to : Option (List ℕ)) (rest : List ℕ) : Type 0 where
  at_end : rest ≡ [] → PassesNoMore to rest
  stays : (p : Piece) (behind : List ℕ) → IsShortPiece p → rest ≡ piece_bytes p ++ behind
      → (IsPassed to p.0 → ⊥) → PassesNoMore to rest

-- Of the bytes of rows at the end of these, the pieces that a walk passes stand at these places, and what it doesn't from this place on.
pub record IsPassedBy (bytes all : List ℕ) (to : Option (List ℕ)) (places : List ℕ) (at : ℕ)
    : Type 0 where
  pub pieces : List Piece
  pub rest : List ℕ
  pub short : AllByRecursion IsShortPiece pieces
  pub is : all ≡ flat_map piece_bytes pieces ++ rest
  pub passed : AllByRecursion (λ p. IsPassed to p.0) pieces
  pub ahead : PassesNoMore to rest
  pub before : StandAt piece_bytes bytes places pieces
  pub behind : drop at bytes ≡ rest

-- upwards from no key a walk passes none
abbrev pub IsBegunAt : List ℕ → List ℕ → List ℕ → ℕ → Option (List ℕ) → Bool → Type 0
IsBegunAt bytes all places at None true = (places ≡ []) × (drop at bytes ≡ all)
IsBegunAt bytes all places at None false = IsPassedBy bytes all None places at
IsBegunAt bytes all places at (Some key) forward = IsPassedBy bytes all (Some key) places at

-- the bytes are one field to their end, and a walk begins in what it holds
pub record IsBegunIn (bytes places : List ℕ) (at : ℕ) (from : Option (List ℕ)) (forward : Bool)
    : Type 0 where
  pub rows : List ℕ
  pub is : bytes ≡ field rows
  pub begun : IsBegunAt bytes rows places at from forward

-- the same of what is in hand
abbrev pub IsBegun : Hand → Option (List ℕ) → Bool → Type 0
IsBegun hand from forward = IsBegunIn hand.bytes.items hand.before.items hand.at from forward

-- The row stands at the front of what is in hand: upwards at the place, which lies behind it then; downwards at the last of the places
-- before, which is gone then.
abbrev pub IsTakenAt : Hand → Bool → Entry → Hand → Type 0
IsTakenAt hand true row after =
    drop hand.at hand.bytes.items ≡ row_entry_bytes row ++ drop after.at hand.bytes.items
IsTakenAt hand false row after = (place : ℕ)
    × (hand.before.items ≡ after.before.items ++ place ∷ [])
    × StandAt row_entry_bytes hand.bytes.items (place ∷ []) (row ∷ [])

-- The row was taken of what is in hand: its lengths fit, and the bytes stay.
pub record IsTaken (hand : Hand) (forward : Bool) (row : Entry) (after : Hand) : Type 0 where
  pub held : IsHeldEntry row
  pub bytes : after.bytes.items ≡ hand.bytes.items
  pub at : IsTakenAt hand forward row after

-- What is in hand gives its next row, and None where nothing is left of it.
abbrev pub HandGives : Hand → Bool → Option Entry → Hand → Type 0
HandGives hand forward None after = (after ≡ hand) × IsInHand hand forward []
HandGives hand forward (Some row) after = IsTaken hand forward row after
