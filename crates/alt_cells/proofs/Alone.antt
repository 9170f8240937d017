-- What a change shows where there is nothing else, where its names rise.
use Rattle.std.proofs.Common.{◌≡◌, ◌++◌, T, List, [], ◌∷◌, length, map, Bool, true, false, Option, Some, None, option_map, refl, sym, ap, subst, ◌∙◌}
use Rattle.std.specs.Prelude.{◌==◌, ℕ, if◌then◌else◌, option_and_then, unwrap_or}
use Rattle.std.specs.FinMap.{empty, from_sorted, get, get-empty, entries-from_sorted, get-from_sorted, len-entries, same_map}
use Rattle.std.specs.FinMap.Entries.{find, is_sorted}
use Rattle.alt_cells.specs.declared.batch.RowChange.{RowChange}
use Rattle.alt_cells.specs.Changes.{Columns, GivenColumns, as_shown, cell_at, given_to, row_of_change, value_given, values_given, with_columns}
use Rattle.alt_cells.specs.Keys.{key_cmp}
use Rattle.alt_cells.specs.Shown.{entries_shown, row_shown, value_shown}
use Rattle.alt_cells.proofs.AfterLaws.{made_shown}
use Rattle.alt_cells.proofs.CellLaws.{key_total, key_exact}
use Rattle.alt_cells.proofs.GivenLaws.{find-map, get-with_columns, given_to-rising, sorted-map}
use Rattle.alt_cells.proofs.OfChange.{entry_given}
use Rattle.alt_cells.proofs.ShownLaws.{find-entries_shown, is_sorted-entries_shown}

-- the values that are given are those that cells of them show
values_given-shown : (es : GivenColumns) → values_given es ≡ entries_shown None (map (entry_given 0) es)
values_given-shown [] = refl
values_given-shown (e ∷ es) = ap (λ r. value_given e ++ r) (values_given-shown es)

-- so they rise with the names
pub sorted-values_given : (es : GivenColumns) → T (is_sorted key_cmp es)
    → T (is_sorted key_cmp (values_given es))
sorted-values_given es h =
    subst (λ vs. T (is_sorted key_cmp vs)) (sym (values_given-shown es))
    (is_sorted-entries_shown None (map (entry_given 0) es) (sorted-map (cell_at 0) es h))

-- what a cell of a value shows is the value
given_or : (o : Option (Option (List ℕ)))
    → option_and_then (value_shown None) (option_map (cell_at 0) o) ≡ unwrap_or o None
given_or None = refl
given_or (Some v) = refl

-- what is left of no columns, whether the change clears or not
abbrev beneath : Bool → Columns
beneath clear = if clear then empty else empty

nothing_at : (clear : Bool) (q : List ℕ) → get (beneath clear) q ≡ None
nothing_at true q = get-empty key_cmp q
nothing_at false q = get-empty key_cmp q

-- columns that rise are a row that is shown, unless there are none
pub rising_shown : (es : List (List ℕ × List ℕ)) (n : ℕ) (none : Bool) → T (is_sorted key_cmp es)
    → n ≡ length es → (n == 0) ≡ none
    → as_shown (from_sorted es) ≡ (if none then None else Some (from_sorted es))
rising_shown es n none h counted is =
    ap (λ b. if b then None else Some (from_sorted {R = key_cmp} es))
    (ap (λ m. m == 0)
    (len-entries (from_sorted {R = key_cmp} es) ∙ ap length (entries-from_sorted key_cmp es h)
    ∙ sym counted) ∙ is)

-- the values that are given are what the change makes of a row without columns
values_given-columns : (c : RowChange) → T (is_sorted key_cmp c.cells)
    → from_sorted (values_given c.cells)
    ≡ with_columns c.cells (beneath c.clear)
values_given-columns c h =
    same_map key_total key_exact (from_sorted (values_given c.cells))
    (with_columns c.cells (beneath c.clear)) (λ q.
    get-from_sorted key_cmp (values_given c.cells) q (sorted-values_given c.cells h)
    ∙ ap (find key_cmp q) (values_given-shown c.cells)
    ∙ find-entries_shown None (map (entry_given 0) c.cells) q (sorted-map (cell_at 0) c.cells h)
    ∙ ap (option_and_then (value_shown None)) (find-map (cell_at 0) q c.cells)
    ∙ given_or (find key_cmp q c.cells)
    ∙ ap (λ o. unwrap_or o None) (sym (given_to-rising q c.cells h))
    ∙ ap (unwrap_or (given_to q c.cells)) (sym (nothing_at c.clear q))
    ∙ sym (get-with_columns c.cells (beneath c.clear) q))

-- so they are what its cells show by themselves
pub values_given-alone : (c : RowChange) → T (is_sorted key_cmp c.cells)
    → as_shown (from_sorted (values_given c.cells)) ≡ row_shown (row_of_change 1 c)
values_given-alone c h = ap as_shown (values_given-columns c h) ∙ sym (made_shown 1 c)
