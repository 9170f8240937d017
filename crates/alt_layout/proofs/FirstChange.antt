-- What rows show after a write of which the first change of a row alone counts.
use Rattle.std.proofs.Common.{◌≡◌, ◌≤◌, ◌+◌, ℕ, Bool, true, false, cond, List, [], ◌∷◌, Option, Some, None, refl, sym, ap, ◌∙◌}
use Rattle.std.specs.Prelude.{if◌then◌else◌, ◌==◌, option_and_then, option_map}
use Rattle.std.specs.Ordering.{eq_by_cmp}
use Rattle.std.specs.FinMap.{empty, insert, get, get-insert, get-empty}
use Rattle.alt_cells.specs.declared.batch.RowChange.{RowChange}
use Rattle.alt_cells.specs.declared.row.RowCells.{RowCells}
use Rattle.alt_cells.specs.Changes.{row_of_change, written, IsRowBelow}
use Rattle.alt_cells.specs.Joined.{either, joined_map}
use Rattle.alt_cells.specs.Keys.{key_cmp}
use Rattle.alt_cells.specs.Rows.{join_row}
use Rattle.alt_cells.specs.Shown.{row_shown}
use Rattle.alt_cells.proofs.AfterLaws.{bare_below, bare_shown}
use Rattle.alt_cells.proofs.CellLaws.{key_total}
use Rattle.alt_cells.proofs.RowLaws.{get-joined_map, join_row-empty}
use Rattle.alt_cells.proofs.ChangeLaws.{row_shown-written}
use Rattle.alt_writes.specs.Writes.{Write}
use Rattle.alt_layout.specs.Layout.{Layout, RowMap, IsPast, change_of, shown, shown_by}
use Rattle.alt_layout.proofs.PastLaws.{row_later}

-- the changes of a family, as rows
abbrev pub changes_in : ℕ → ℕ → List RowChange → RowMap
changes_in number family [] = empty
changes_in number family (c ∷ cs) =
    if c.family == family then insert (changes_in number family cs) c.key
    (row_of_change number c) else changes_in number family cs

-- the rows with a write joined to them
abbrev pub with_write : Layout → Write → Layout
with_write l w = record {
  rows = λ family. joined_map join_row (l.rows family)
      (changes_in w.number family w.changes);
  next_number = w.number + 1;
}

-- What each row shows after a write of the next number or a later one. No cell and no timestamp counts.
abbrev pub ShowsWrite : Layout → Write → Type 0
ShowsWrite l w = (family : ℕ) (key : List ℕ) → shown (with_write l w) family key
    ≡ shown_by (change_of family key w.changes) (shown l family key)

-- the row of a key among the changes of a family
get-changes_in : (number family : ℕ) (key : List ℕ) (cs : List RowChange)
    → get (changes_in number family cs) key ≡ option_map (row_of_change number)
    (change_of family key cs)
get-changes_in number family key [] = get-empty key_cmp key
get-changes_in number family key (c ∷ cs) = in_family (c.family == family)
    (get-changes_in number family key cs)
  where
    here : (b : Bool) → get (changes_in number family cs) key
        ≡ option_map (row_of_change number) (change_of family key cs)
        → cond b (Some (row_of_change number c)) (get (changes_in number family cs) key)
        ≡ option_map (row_of_change number) (cond b (Some c) (change_of family key cs))
    here true rest = refl
    here false rest = rest

    in_family : (b : Bool) → get (changes_in number family cs) key
        ≡ option_map (row_of_change number) (change_of family key cs)
        → get (cond b (insert (changes_in number family cs) c.key (row_of_change number c))
        (changes_in number family cs)) key
        ≡ option_map (row_of_change number) (cond b
        (cond (eq_by_cmp key_cmp key c.key) (Some c) (change_of family key cs))
        (change_of family key cs))
    in_family true rest = get-insert key_total (changes_in number family cs) c.key
        (row_of_change number c) key ∙ here (eq_by_cmp key_cmp key c.key) rest
    in_family false rest = rest

get-with_write : (l : Layout) (w : Write) (family : ℕ) (key : List ℕ)
    → get ((with_write l w).rows family) key ≡ either join_row (get (l.rows family) key)
    (option_map (row_of_change w.number) (change_of family key w.changes))
get-with_write l w family key = get-joined_map key_cmp key_total join_row (l.rows family)
    (changes_in w.number family w.changes) key
    ∙ ap (either join_row (get (l.rows family) key)) (get-changes_in w.number family key w.changes)

-- a row without cells
abbrev bare : RowCells
bare = record { gone = None; cells = empty }

-- one row, of which there is a change or not
one_row : (number : ℕ) (o : Option RowCells) (c : Option RowChange)
    → ((row : RowCells) → o ≡ Some row → IsRowBelow number row)
    → option_and_then row_shown (either join_row o (option_map (row_of_change number) c))
    ≡ shown_by c (option_and_then row_shown o)
one_row number None None below = refl
one_row number (Some row) None below = refl
one_row number None (Some c) below = ap row_shown (sym (join_row-empty (row_of_change number c)))
    ∙ row_shown-written number bare c (bare_below number) ∙ ap (written c) bare_shown
one_row number (Some row) (Some c) below = row_shown-written number row c (below row refl)

-- A write of the next number or a later one changes what is shown as its changes say.
pub shows_write : (l : Layout) (w : Write) → IsPast l → l.next_number ≤ w.number → ShowsWrite l w
shows_write l w past later family key = ap (option_and_then row_shown)
    (get-with_write l w family key)
    ∙ one_row w.number (get (l.rows family) key) (change_of family key w.changes)
    (λ row e. row_later l.next_number w.number row later (past family key row e))
