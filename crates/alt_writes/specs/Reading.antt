-- Bytes that don't begin with what is to be read.
use Rattle.std.specs.Prelude.{◌≡◌, ◌<◌, ◌≤◌, ◌^◌, ℕ, List, ◌∷◌, ◌++◌, Bool, Option, length, map}
use Rattle.std.specs.Int.{w32, w64, to_be_bytes}
use Rattle.alt_cells.specs.declared.batch.RowChange.{RowChange}
use Rattle.alt_fields.specs.Bytes.{IsShort}
use Rattle.alt_fields.specs.Field.{field}
use Rattle.alt_writes.specs.Bytes.{clear_byte, value_bytes, columns_bytes, change_bytes, changes_bytes, write_bytes, writes_bytes, group_bytes, IsShortValue, AreShortCells, IsHeldChange, AreHeldChanges, IsHeldWrite, AllHeld, IsHeldGroup}
use Rattle.alt_writes.specs.Writes.{Write, AreRising}
use Rattle.alt_writes.specs.declared.read.LoggedWrite.{LoggedWrite}
use Rattle.alt_writes.specs.declared.read.Stop.{Stop}
use Rattle.alt_writes.specs.declared.read.Stop.TheVariants.{Bad, NoMemory}

-- the write that was read
abbrev pub write_of : LoggedWrite → Write
write_of read = record { number = read.number; changes = read.changes.items }

-- and those that were
abbrev pub writes_of : List LoggedWrite → List Write
writes_of reads = map write_of reads

-- where the bytes are bad this holds of them
abbrev pub IsNone : Type 0 → Stop → Type 0
IsNone P Bad = P
IsNone P NoMemory = Unit {0}

-- no number of eight bytes
abbrev pub NoNumber : List ℕ → Type 0
NoNumber bytes = (n : ℕ) (behind : List ℕ) → n < 2 ^ 64 → bytes ≡ to_be_bytes w64 n ++ behind → ⊥

-- no number of four
abbrev pub NoFamilyNumber : List ℕ → Type 0
NoFamilyNumber bytes = (n : ℕ) (behind : List ℕ) → n < 2 ^ 32 → bytes ≡ to_be_bytes w32 n ++ behind → ⊥

-- no field
abbrev pub NoField : List ℕ → Type 0
NoField bytes = (s behind : List ℕ) → IsShort s → bytes ≡ field s ++ behind → ⊥

-- no byte that is 0 or 1
abbrev pub NoFlag : List ℕ → Type 0
NoFlag bytes = (b : Bool) (behind : List ℕ) → bytes ≡ clear_byte b ∷ behind → ⊥

-- nothing that a column may be given
abbrev pub NoColumnValue : List ℕ → Type 0
NoColumnValue bytes = (v : Option (List ℕ)) (behind : List ℕ) → IsShortValue v
    → bytes ≡ value_bytes v ++ behind → ⊥

-- not so many columns
abbrev pub NoColumns : ℕ → List ℕ → Type 0
NoColumns count bytes = (es : List (List ℕ × Option (List ℕ))) (behind : List ℕ) → AreShortCells es
    → length es ≡ count → bytes ≡ columns_bytes es ++ behind → ⊥

-- no change
abbrev pub NoChange : List ℕ → Type 0
NoChange bytes = (c : RowChange) (behind : List ℕ) → IsHeldChange c
    → bytes ≡ change_bytes c ++ behind → ⊥

-- not so many changes
abbrev pub NoChanges : ℕ → List ℕ → Type 0
NoChanges count bytes = (cs : List RowChange) (behind : List ℕ) → AreHeldChanges cs
    → length cs ≡ count → bytes ≡ changes_bytes cs ++ behind → ⊥

-- no write with this number or a later one
abbrev pub NoWrite : ℕ → List ℕ → Type 0
NoWrite number bytes = (w : Write) (behind : List ℕ) → IsHeldWrite w → number ≤ w.number
    → bytes ≡ write_bytes w ++ behind → ⊥

-- not so many writes whose numbers rise from this one on
abbrev pub NoWrites : ℕ → ℕ → List ℕ → Type 0
NoWrites number count bytes = (ws : List Write) (behind : List ℕ) → AllHeld ws
    → AreRising number ws → length ws ≡ count → bytes ≡ writes_bytes ws ++ behind → ⊥

-- the bytes are no write with this number or a later one
abbrev pub IsNoWrite : ℕ → List ℕ → Type 0
IsNoWrite number entry =
    (w : Write) → IsHeldWrite w → number ≤ w.number → entry ≡ write_bytes w → ⊥

-- and no group of writes whose numbers rise from this one on
abbrev pub IsNoGroup : ℕ → List ℕ → Type 0
IsNoGroup number entry =
    (ws : List Write) → IsHeldGroup ws → AreRising number ws → entry ≡ group_bytes ws → ⊥
