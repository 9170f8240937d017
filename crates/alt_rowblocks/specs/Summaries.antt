-- What a row file in hand keeps of its rows: their greatest timestamp, whether they have a tombstone, and the last key.
use Rattle.std.specs.Prelude.{ℕ, ◌||◌, Bool, List, [], ◌∷◌, Option, Some, None, is_none, is_some, max}
use Rattle.std.specs.FinMap.{entries}
use Rattle.std.specs.List.{fold, list_any}
use Rattle.alt_cells.specs.declared.row.RowCells.{RowCells}
use Rattle.alt_rowblocks.specs.Format.{Entry}
use Rattle.alt_rowblocks.specs.declared.summary.Summary.{Summary}

-- the timestamp of a row tombstone, 0 where there is none
abbrev pub tombstone_timestamp : Option ℕ → ℕ
tombstone_timestamp None = 0
tombstone_timestamp (Some at) = at

-- the greatest timestamp of a row
abbrev pub row_latest : RowCells → ℕ
row_latest row = fold (λ n e. max n e.1.at) (tombstone_timestamp row.gone) (entries row.cells)

-- the greatest timestamp of rows, 0 where they have none
abbrev pub latest_of : List Entry → ℕ
latest_of rows = fold (λ n e. max n (row_latest e.1)) 0 rows

-- A row has a tombstone: its own, or one of a cell. Only its own hides cells.
abbrev pub has_tombstone : RowCells → Bool
has_tombstone row = is_some row.gone || list_any (λ e. is_none e.1.value) (entries row.cells)

-- one of the rows has a tombstone
abbrev pub any_tombstone : List Entry → Bool
any_tombstone rows = list_any (λ e. has_tombstone e.1) rows

-- the key of the last row
abbrev pub last_key : {X : Type 0} → List (List ℕ × X) → Option (List ℕ)
last_key [] = None
last_key (e ∷ []) = Some e.0
last_key (e ∷ f ∷ es) = last_key (f ∷ es)

-- these, and the last key
abbrev pub summary_of : List Entry → Summary
summary_of rows =
    record { latest = latest_of rows; tombstone = any_tombstone rows; last = last_key rows }

-- the last key of rows in two parts: that of the second part, if it has one
abbrev pub joined_last_key : Option (List ℕ) → Option (List ℕ) → Option (List ℕ)
joined_last_key before None = before
joined_last_key before (Some last) = Some last

-- the summary of rows in two parts
abbrev pub joined_summary : Summary → Summary → Summary
joined_summary a b =
    record {
      latest = max a.latest b.latest;
      tombstone = a.tombstone || b.tombstone;
      last = joined_last_key a.last b.last;
    }
