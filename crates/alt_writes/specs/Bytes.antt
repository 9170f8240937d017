-- The bytes of a write, and of a group of writes (docs/formats/log-entries.md).
use Rattle.std.specs.Prelude.{◌<◌, ◌-◌, ◌^◌, ℕ, List, [], ◌∷◌, ◌++◌, Bool, true, false, length}
use Rattle.std.specs.Prelude.{Option, Some, None}
use Rattle.std.specs.Int.{w32, w64, to_be_bytes}
use Rattle.alt_cells.specs.declared.batch.RowChange.{RowChange}
use Rattle.alt_fields.specs.Field.{field}
use Rattle.alt_fields.specs.Bytes.{IsShort}
use Rattle.alt_writes.specs.Writes.{Write}

-- whether a change clears its row
abbrev pub clear_byte : Bool → ℕ
clear_byte false = 0
clear_byte true = 1

-- what a change gives a column, if it gives it a value
abbrev pub value_bytes : Option (List ℕ) → List ℕ
value_bytes None = 0 ∷ []
value_bytes (Some value) = 1 ∷ field value

-- the columns that a change names, with what it gives them
abbrev pub columns_bytes : List (List ℕ × Option (List ℕ)) → List ℕ
columns_bytes [] = []
columns_bytes (e ∷ es) = (field e.0 ++ value_bytes e.1) ++ columns_bytes es

-- a change: its family, its key, whether it clears the row, and its columns
unfoldable pub change_bytes : RowChange → List ℕ
change_bytes c =
    to_be_bytes w32 c.family
    ++ (field c.key ++ (clear_byte c.clear ∷ (to_be_bytes w64 (length c.cells)
    ++ columns_bytes c.cells)))

-- changes, one behind another
abbrev pub changes_bytes : List RowChange → List ℕ
changes_bytes [] = []
changes_bytes (c ∷ cs) = change_bytes c ++ changes_bytes cs

-- a write: its number, and its changes behind their count
unfoldable pub write_bytes : Write → List ℕ
write_bytes w =
    to_be_bytes w64 w.number ++ (to_be_bytes w64 (length w.changes) ++ changes_bytes w.changes)

-- writes, one behind another
abbrev pub writes_bytes : List Write → List ℕ
writes_bytes [] = []
writes_bytes (w ∷ ws) = write_bytes w ++ writes_bytes ws

-- a group of writes: how many there are, and each of them
unfoldable pub group_bytes : List Write → List ℕ
group_bytes ws = to_be_bytes w64 (length ws) ++ writes_bytes ws

-- ---- what the bytes can tell

-- a value that is given is short enough for its length
abbrev pub IsShortValue : Option (List ℕ) → Type 0
IsShortValue None = Unit {0}
IsShortValue (Some value) = IsShort value

-- and so are names and values
abbrev pub AreShortCells : List (List ℕ × Option (List ℕ)) → Type 0
AreShortCells [] = Unit {0}
AreShortCells (e ∷ es) = IsShort e.0 × IsShortValue e.1 × AreShortCells es

-- numbers, lengths and counts fit their bytes
pub record IsHeldChange (c : RowChange) : Type 0 where
  pub family : c.family < 2 ^ 32
  pub key : IsShort c.key
  pub count : IsShort c.cells
  pub cells : AreShortCells c.cells

-- so of several changes
abbrev pub AreHeldChanges : List RowChange → Type 0
AreHeldChanges [] = Unit {0}
AreHeldChanges (c ∷ cs) = IsHeldChange c × AreHeldChanges cs

-- a number that a write may have, and changes that its bytes can tell
pub record IsHeldWrite (w : Write) : Type 0 where
  pub number : w.number < 2 ^ 62 - 1
  pub count : IsShort w.changes
  pub changes : AreHeldChanges w.changes

-- so of several writes
abbrev pub AllHeld : List Write → Type 0
AllHeld [] = Unit {0}
AllHeld (w ∷ ws) = IsHeldWrite w × AllHeld ws

-- a group has a write, and its bytes can tell how many it has and each of them
pub record IsHeldGroup (ws : List Write) : Type 0 where
  pub some : 0 < length ws
  pub count : IsShort ws
  pub writes : AllHeld ws
