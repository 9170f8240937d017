-- What a fault tells. Each enum of faults says beside itself which of these its variants are, as `told_by_engine` does, and contracts speak of
-- that: so a further variant is one line there.
use Rattle.std.specs.Prelude.{ℕ, List}

-- What is wrong with the files of a store: the bytes of a file at a place, a file that ends with one digest where its bytes have another, or
-- the row of a family at a key.
pub data Damage : Type 0 where
  bad_bytes : ℕ → ℕ → Damage
  bad_digest : ℕ → List ℕ → List ℕ → Damage
  bad_row : ℕ → List ℕ → Damage

-- The device failed, or memory was refused; a number is wanted that is never given out; or the files are damaged.
pub data Fault : Type 0 where
  failed : Fault
  no_memory : Fault
  spent : ℕ → Fault
  damaged : Damage → Fault

-- ---- what is told

-- The first holds of the number that is told, or the second of the damage; of a failure of the device and of want of memory nothing is asked.
abbrev pub Tells : (ℕ → Type 0) → (Damage → Type 0) → Fault → Type 0
Tells Spends Spoils failed = Unit {0}
Tells Spends Spoils no_memory = Unit {0}
Tells Spends Spoils (spent number) = Spends number
Tells Spends Spoils (damaged damage) = Spoils damage

-- No number and no damage is told: the device failed, or memory was refused.
abbrev pub IsOutside : Fault → Type 0
IsOutside = Tells (λ number. ⊥) (λ damage. ⊥)

-- No number is told.
abbrev pub IsUnspent : Fault → Type 0
IsUnspent = Tells (λ number. ⊥) (λ damage. Unit {0})

-- No damage is told.
abbrev pub IsUndamaged : Fault → Type 0
IsUndamaged = Tells (λ number. Unit {0}) (λ damage. ⊥)

-- No damage is told, and of a number that is told this holds.
abbrev pub OnlySpent : (ℕ → Type 0) → Fault → Type 0
OnlySpent Spends = Tells Spends (λ damage. ⊥)

-- No number is told, and of damage that is told this holds.
abbrev pub OnlyDamaged : (Damage → Type 0) → Fault → Type 0
OnlyDamaged = Tells (λ number. ⊥)

-- Memory was refused, and nothing else is told.
abbrev pub IsMemoryRefused : Fault → Type 0
IsMemoryRefused failed = ⊥
IsMemoryRefused no_memory = Unit {0}
IsMemoryRefused (spent number) = ⊥
IsMemoryRefused (damaged damage) = ⊥

-- The first holds where the device failed, the second where memory was refused; of all else nothing is asked.
abbrev pub Outside : Type 0 → Type 0 → Fault → Type 0
Outside Failed Wanting failed = Failed
Outside Failed Wanting no_memory = Wanting
Outside Failed Wanting (spent number) = Unit {0}
Outside Failed Wanting (damaged damage) = Unit {0}

-- ---- damage

-- It is a wrong row, of whose family and key this holds.
abbrev pub RowWhere : (ℕ → List ℕ → Type 0) → Damage → Type 0
RowWhere IsWrong (bad_bytes file place) = ⊥
RowWhere IsWrong (bad_digest file kept found) = ⊥
RowWhere IsWrong (bad_row family key) = IsWrong family key

-- It is of files, and the first holds of bytes at a place, the second of two digests.
abbrev pub FileWhere : (ℕ → ℕ → Type 0) → (ℕ → List ℕ → List ℕ → Type 0) → Damage → Type 0
FileWhere IsBad Differ (bad_bytes file place) = IsBad file place
FileWhere IsBad Differ (bad_digest file kept found) = Differ file kept found
FileWhere IsBad Differ (bad_row family key) = ⊥

-- No number is told, and damage only where it is a wrong row of which this holds.
abbrev pub OnlyRow : (ℕ → List ℕ → Type 0) → Fault → Type 0
OnlyRow IsWrong = OnlyDamaged (RowWhere IsWrong)

-- ---- passed on

-- The fault of a call, as one that tells no numbers: where none can be spent, one that is spent is want of memory.
abbrev pub without_numbers : Fault → Fault
without_numbers failed = failed
without_numbers no_memory = no_memory
without_numbers (spent number) = no_memory
without_numbers (damaged damage) = damaged damage
