-- The first key of a family that shows a row. Private contracts alone cite these words.
use Rattle.std.specs.Prelude.{◌≡◌, ◌≢◌, List, ℕ, Option, Some, None}
use Rattle.std.specs.declared.cmp.Ordering.TheVariants.{Less}
use Rattle.alt_cells.specs.Changes.{Columns}
use Rattle.alt_cells.specs.Keys.{key_cmp}

-- A row is shown at the key, and none before it.
pub record IsFirstKey (rows : List ℕ → Option Columns) (key : List ℕ) : Type 0 where
  pub shows : rows key ≢ None
  pub first : (q : List ℕ) → key_cmp q key ≡ Less → rows q ≡ None

-- That key, or none where no row is shown.
abbrev pub FindsKey : (List ℕ → Option Columns) → Option (List ℕ) → Type 0
FindsKey rows None = (q : List ℕ) → rows q ≡ None
FindsKey rows (Some key) = IsFirstKey rows key
