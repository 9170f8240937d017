-- Writes: each has its number and its row changes.
use Rattle.std.specs.Prelude.{◌≤◌, ◌+◌, ℕ, List, [], ◌∷◌}
use Rattle.alt_cells.specs.declared.batch.RowChange.{RowChange}

-- a write: its number and its row changes
pub record Write : Type 0 where
  pub number : ℕ
  pub changes : List RowChange

-- the numbers of writes rise, the first one being this or a later one
abbrev pub AreRising : ℕ → List Write → Type 0
AreRising number [] = Unit {0}
AreRising number (w ∷ ws) = (number ≤ w.number) × AreRising (w.number + 1) ws

-- the number from which on the next write may be numbered, by that of the last one
abbrev pub past : ℕ → List Write → ℕ
past number [] = number
past number (w ∷ ws) = past (w.number + 1) ws

-- batches of changes as writes, numbered in order from this number on
abbrev pub numbered : ℕ → List (List RowChange) → List Write
numbered number [] = []
numbered number (b ∷ bs) = record { number = number; changes = b } ∷ numbered (number + 1) bs
