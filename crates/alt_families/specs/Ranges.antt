-- What a family shows in a range, and how a walk comes to it. Private contracts alone cite these words.
use Rattle.std.specs.Prelude.{◌≡◌, ℕ, Bool, true, false, not, T, List, [], ◌∷◌, ◌++◌, Option, Some, None, take}
use Rattle.std.specs.BTreeMap.Range.{entries_between, range_contains}
use Rattle.std.specs.FinMap.{entries}
use Rattle.std.specs.FinMap.Entries.{is_sorted}
use Rattle.std.specs.List.{AllByRecursion}
use Rattle.std.specs.Ordering.{is_le}
use Rattle.std.specs.declared.ops.Bound.TheVariants.{Included}
use Rattle.alt_cells.specs.Changes.{Columns}
use Rattle.alt_cells.specs.Keys.{key_cmp}
use Rattle.alt_cells.specs.Shown.{row_shown}
use Rattle.alt_cells.specs.Walks.{RowMap, RowList, first_bound, last_bound, turned, walk_cmp}
use Rattle.alt_layout.specs.Layout.{end_bound, shown_of}
use Rattle.alt_families.specs.declared.rows.Step.{Step}
use Rattle.alt_families.specs.declared.rows.Step.TheVariants.{Gave, Passed, Ended}

-- A walk over a range begins at its front where it goes forward, and at its end where it goes back.
abbrev pub start_of : Bool → List ℕ → Option (List ℕ) → Option (List ℕ)
start_of true from to = Some from
start_of false from to = to

-- The key lies behind the range, in the direction of the walk.
abbrev pub is_out : Bool → List ℕ → Option (List ℕ) → List ℕ → Bool
is_out true from None key = false
is_out true from (Some to) key = is_le (key_cmp to key)
is_out false from to key = not (is_le (key_cmp from key))

-- What these rows show in the range, in their order.
abbrev pub shown_in : List ℕ → Option (List ℕ) → RowList → List (List ℕ × Columns)
shown_in from to es = shown_of row_shown (entries_between key_cmp (Included from) (end_bound to) es)

-- What the rows of a family show in the range, in the direction of the walk.
abbrev pub shown_between : RowMap → List ℕ → Option (List ℕ) → Bool → List (List ℕ × Columns)
shown_between rows from to forward = shown_of row_shown
    (turned forward (entries_between key_cmp (Included from) (end_bound to) (entries rows)))

-- The walk may come to the key from where it begins.
abbrev pub walk_reaches : Bool → List ℕ → Option (List ℕ) → List ℕ → Bool
walk_reaches forward from to = range_contains key_cmp (first_bound forward (start_of forward from to))
    (last_bound forward (start_of forward from to))

-- The rows may be left of a walk over the range: they are in its order, and it may come to each.
pub record AreAhead (forward : Bool) (from : List ℕ) (to : Option (List ℕ))
    (rest : RowList) : Type 0 where
  pub sorted : T (is_sorted (walk_cmp forward) rest)
  pub reached : AllByRecursion (λ e. walk_reaches forward from to e.0 ≡ true) rest

-- The walk has rows left that show this in the range.
pub record Ahead (Left : RowList → Type 0) (forward : Bool) (from : List ℕ) (to : Option (List ℕ))
    (shows : List (List ℕ × Columns)) : Type 0 where
  pub rest : RowList
  pub left : Left rest
  pub are : AreAhead forward from to rest
  pub shown : shows ≡ shown_in from to rest

-- A step gives the first of what is ahead, or passes a row that shows nothing, or ends where nothing is ahead.
abbrev pub GivesStep : (List (List ℕ × Columns) → Type 0) → List (List ℕ × Columns)
    → List (List ℕ × Columns) → List (List ℕ × Columns) → Step → Type 0
GivesStep After shows old new Gave = (e : List ℕ × Columns) × (more : List (List ℕ × Columns))
    × (shows ≡ e ∷ more) × (new ≡ old ++ e ∷ []) × After more
GivesStep After shows old new Passed = (new ≡ old) × After shows
GivesStep After shows old new Ended = (new ≡ old) × (shows ≡ [])

-- Of what is ahead so many rows are wanted: what was given, with what is wanted then of what is ahead then, are those; or all of them were given.
abbrev pub GivesSome : (ℕ → List (List ℕ × Columns) → Type 0) → List (List ℕ × Columns)
    → List (List ℕ × Columns) → List (List ℕ × Columns) → ℕ → Option ℕ → Type 0
GivesSome After shows old new left None = new ≡ old ++ take left shows
GivesSome After shows old new left (Some after) = (more : List (List ℕ × Columns))
    × (new ++ take after more ≡ old ++ take left shows) × After after more
