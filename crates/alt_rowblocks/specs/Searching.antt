-- Where a key may be.
use Rattle.std.specs.Prelude.{◌≡◌, ℕ, ◌+◌, ◌<◌, ◌≤◌, true, false, List, [], length, get_or, Option, Some, None}
use Rattle.std.specs.declared.cmp.Ordering.TheVariants.{Less}
use Rattle.std.specs.Ordering.{is_gt}
use Rattle.alt_cells.specs.Keys.{key_cmp}
use Rattle.alt_rowblocks.specs.Format.{Mark}

-- the first key of a block
abbrev pub key_at : List Mark → ℕ → List ℕ
key_at marks i = (get_or marks i (0, [])).1

-- the block before this one begins at or below the key, and this one above it
pub record EndsAt (marks : List Mark) (key : List ℕ) (n : ℕ) : Type 0 where
  pub within : n ≤ length marks
  pub low : (k : ℕ) → n ≡ k + 1 → is_gt (key_cmp (key_at marks k) key) ≡ false
  pub high : n < length marks → is_gt (key_cmp (key_at marks n) key) ≡ true

-- there is a last key, and it is below this one
abbrev pub EndsBelow : Option (List ℕ) → List ℕ → Type 0
EndsBelow None key = ⊥
EndsBelow (Some last) key = key_cmp last key ≡ Less
