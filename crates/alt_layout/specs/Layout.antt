-- The rows of all families, as cells and as they are shown.
use Rattle.std.specs.Prelude.{◌≡◌, ◌≢◌, ◌<◌, ◌≤◌, ◌==◌, ℕ, List, [], ◌∷◌, Bool, if◌then◌else◌, Option, Some, None, option_and_then, option_map}
use Rattle.std.specs.BTreeMap.Range.{entries_between}
use Rattle.std.specs.FinMap.{FinMap, empty, entries, from_sorted, get}
use Rattle.std.specs.List.{filter_map}
use Rattle.std.specs.Ordering.{eq_by_cmp}
use Rattle.std.specs.declared.cmp.Ordering.TheVariants.{Less}
use Rattle.std.specs.declared.ops.Bound.{Bound}
use Rattle.std.specs.declared.ops.Bound.TheVariants.{Included, Excluded, Unbounded}
use Rattle.alt_cells.specs.declared.batch.RowChange.{RowChange}
use Rattle.alt_cells.specs.declared.row.RowCells.{RowCells}
use Rattle.alt_cells.specs.Changes.{Columns, written, IsRowBelow}
use Rattle.alt_cells.specs.Keys.{key_cmp}
use Rattle.alt_cells.specs.Shown.{row_shown}
use Rattle.alt_cells.specs.Walks.{turned}

-- the rows of a family by their keys
abbrev pub RowMap : Type 0
RowMap = FinMap key_cmp RowCells

-- the rows of each family, and the number of the next write
pub record Layout : Type 0 where
  pub rows : ℕ → RowMap
  pub next_number : ℕ

-- no rows, and the first number
abbrev pub no_rows : Layout
no_rows = record { rows = λ _. empty; next_number = 1 }

-- ---- in cells

-- each cell and each row tombstone is of a write before the next number
abbrev pub IsPast : Layout → Type 0
IsPast l = (family : ℕ) (key : List ℕ) (row : RowCells) → get (l.rows family) key ≡ Some row
    → IsRowBelow l.next_number row

-- ---- as they are shown

-- the columns that a row shows, if it is shown
abbrev pub shown : Layout → ℕ → List ℕ → Option Columns
shown l family key = option_and_then row_shown (get (l.rows family) key)

-- the first change of the row of that family and key
abbrev pub change_of : ℕ → List ℕ → List RowChange → Option RowChange
change_of family key [] = None
change_of family key (c ∷ cs) =
    if c.family == family then (if eq_by_cmp key_cmp key c.key then Some c else change_of family key
    cs) else change_of family key cs

-- what a row shows after a write, by what it showed
abbrev pub shown_by : Option RowChange → Option Columns → Option Columns
shown_by None before = before
shown_by (Some c) before = written c before

-- ---- the rows shown, in order

-- an entry whose row shows something, with what it shows
abbrev pub entry_by : {X : Type 0} → (X → Option Columns) → List ℕ × X → Option (List ℕ × Columns)
entry_by f e = option_map (λ columns. (e.0, columns)) (f e.1)

-- those of entries
abbrev pub shown_of : {X : Type 0} → (X → Option Columns) → List (List ℕ × X)
    → List (List ℕ × Columns)
shown_of f es = filter_map (entry_by f) es

-- the rows that a family shows, by key
unfoldable pub shown_rows : Layout → ℕ → FinMap key_cmp Columns
shown_rows l family = from_sorted (shown_of row_shown (entries (l.rows family)))

-- where a range of keys ends: below this key, or nowhere
abbrev pub end_bound : Option (List ℕ) → Bound (List ℕ)
end_bound None = Unbounded
end_bound (Some to) = Excluded to

-- The rows that a family shows in a range of keys: from its first key on, or from its end down.
abbrev pub rows_between : Layout → ℕ → List ℕ → Option (List ℕ) → Bool → List (List ℕ × Columns)
rows_between l family from to forward = turned forward
    (entries_between key_cmp (Included from) (end_bound to) (entries (shown_rows l family)))

-- The first key of the least family from one on that shows a row.
pub record IsFirstShown (rows : ℕ → List ℕ → Option Columns) (family : ℕ)
    (found : ℕ × List ℕ) : Type 0 where
  pub later : family ≤ found.0
  pub shows : rows found.0 found.1 ≢ None
  pub first : (key : List ℕ) → key_cmp key found.1 ≡ Less → rows found.0 key ≡ None
  pub before : (f : ℕ) (key : List ℕ) → family ≤ f → f < found.0 → rows f key ≡ None

-- that row, or none where no family from that one on shows a row
abbrev pub FindsFirst : (ℕ → List ℕ → Option Columns) → ℕ → Option (ℕ × List ℕ) → Type 0
FindsFirst rows family None = (f : ℕ) (key : List ℕ) → family ≤ f → rows f key ≡ None
FindsFirst rows family (Some found) = IsFirstShown rows family found

-- so of the rows that a layout shows
abbrev pub ShowsFirst : Layout → ℕ → Option (ℕ × List ℕ) → Type 0
ShowsFirst l family found = FindsFirst (shown l) family found
