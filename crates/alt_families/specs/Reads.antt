-- How many reads a walk over a range may cost: two for each file, and one for each version of a row in files that it passes.
use Rattle.std.specs.Prelude.{ℕ, zero, suc, ◌+◌, ◌*◌, ◌&&◌, Bool, true, false, List, [], ◌∷◌, length, filter, Option}
use Rattle.std.specs.BTreeMap.Range.{range_contains}
use Rattle.std.specs.FinMap.{entries}
use Rattle.std.specs.Ordering.{is_le}
use Rattle.std.specs.declared.ops.Bound.TheVariants.{Included}
use Rattle.alt_cells.specs.Changes.{Columns}
use Rattle.alt_cells.specs.Keys.{key_cmp}
use Rattle.alt_cells.specs.Walks.{RowMap, RowList, walk_cmp}
use Rattle.alt_layout.specs.Layout.{end_bound}

-- A walk that wants so many rows of these goes up to the last one that it gives, or to the end where there are fewer.
abbrev pub is_reached : Bool → ℕ → List (List ℕ × Columns) → List ℕ → Bool
is_reached forward zero shows key = false
is_reached forward (suc n) [] key = true
is_reached forward (suc zero) (e ∷ es) key = is_le (walk_cmp forward key e.0)
is_reached forward (suc (suc n)) (e ∷ es) key = is_reached forward (suc n) es key

-- Whether such a walk over a range passes the rows of a key.
abbrev pub is_passed : Bool → List ℕ → Option (List ℕ) → ℕ → List (List ℕ × Columns) → List ℕ
    → Bool
is_passed forward from to most shows key =
    range_contains key_cmp (Included from) (end_bound to) key && is_reached forward most shows key

-- The entries with such keys.
abbrev pub passed_of : (List ℕ → Bool) → RowList → RowList
passed_of p es = filter (λ e. p e.0) es

-- How many versions of rows with such keys the files of these rows have, tombstones among them.
abbrev pub versions_of : (List ℕ → Bool) → List RowMap → ℕ
versions_of p [] = 0
versions_of p (m ∷ ms) = length (passed_of p (entries m)) + versions_of p ms

-- The most reads of a walk over a range that wants so many of the rows that these files show.
abbrev pub most_reads : Bool → List ℕ → Option (List ℕ) → ℕ → List (List ℕ × Columns)
    → List RowMap → ℕ
most_reads forward from to most shows maps =
    versions_of (is_passed forward from to most shows) maps + 2 * length maps
