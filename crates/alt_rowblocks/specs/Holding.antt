-- A block in hand, of which no row is decoded yet.
use Rattle.std.specs.Prelude.{◌≡◌, ℕ, Bool, true, false, List, [], ◌∷◌, ◌++◌, drop, reverse, Option}
use Rattle.std.specs.List.{AllByRecursion}
use Rattle.alt_fields.specs.declared.bytes.BytesFault.{BytesFault}
use Rattle.alt_fields.specs.declared.bytes.BytesFault.TheVariants.{Bad, NoMemory}
use Rattle.alt_rowblocks.specs.Cut.{IsCutAtKey}
use Rattle.alt_rowblocks.specs.Format.{Entry, row_entry_bytes, rows_bytes, IsHeldEntry}
use Rattle.alt_rowblocks.specs.declared.hand.Hand.{Hand}

-- from each of these places on stand the bytes of one of these, in their order
abbrev pub StandAt : {K : Type 0} → (K → List ℕ) → List ℕ → List ℕ → List K → Type 0
StandAt spell bytes [] [] = Unit {0}
StandAt spell bytes [] (k ∷ ks) = ⊥
StandAt spell bytes (p ∷ ps) [] = ⊥
StandAt spell bytes (p ∷ ps) (k ∷ ks) =
    ((behind : List ℕ) × (drop p bytes ≡ spell k ++ behind)) × StandAt spell bytes ps ks

-- The rows of a block are cut in its bytes where a walk begins: those before stand at these places, and the others from this place on.
pub record IsCutIn (bytes places : List ℕ) (at : ℕ) (from : Option (List ℕ)) (forward : Bool)
    (rows : List Entry) : Type 0 where
  pub front : List Entry
  pub back : List Entry
  pub is : rows ≡ front ++ back
  pub cut : IsCutAtKey from forward front back
  pub before : StandAt row_entry_bytes bytes places front
  pub behind : drop at bytes ≡ rows_bytes back

-- rows that fit their bytes stand at these places
abbrev pub AreRowsAt : List ℕ → List ℕ → List Entry → Type 0
AreRowsAt bytes places rows =
    AllByRecursion IsHeldEntry rows × StandAt row_entry_bytes bytes places rows

-- in a direction these rows are in hand: upwards they stand behind the place, and downwards before it
abbrev pub IsInHand : Hand → Bool → List Entry → Type 0
IsInHand hand true rows =
    AllByRecursion IsHeldEntry rows × (drop hand.at hand.bytes.items ≡ rows_bytes rows)
IsInHand hand false rows = AreRowsAt hand.bytes.items hand.before.items (reverse rows)

-- the block in hand, cut so
abbrev pub IsCutBlock : Hand → Option (List ℕ) → Bool → List Entry → Type 0
IsCutBlock hand from forward rows =
    IsCutIn hand.bytes.items hand.before.items hand.at from forward rows

-- bytes that are no row's
abbrev pub IsUnread : BytesFault → Type 0
IsUnread (Bad at) = Unit {0}
IsUnread NoMemory = ⊥
