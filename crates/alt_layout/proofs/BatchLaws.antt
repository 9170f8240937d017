-- Where no row stands twice in a write its changes are rows of their own, so that each row shows after it what its one change makes of it.
use Rattle.std.proofs.Common.{◌≡◌, ◌≤◌, ◌+◌, ◌==◌, ℕ, Bool, true, false, cond, T, List, [], ◌∷◌, Option, Some, None, refl, sym, ap, subst, ◌∙◌, eqb-true}
use Rattle.std.proofs.lemmas.Bool.{false≢true}
use Rattle.std.proofs.lemmas.Map.Text.{is_eq-slice_cmp}
use Rattle.std.proofs.lemmas.Slice.Eq.{bytes_eq-Decides}
use Rattle.std.specs.Prelude.{if◌then◌else◌, not, ◌&&◌, ◌||◌}
use Rattle.std.specs.FinMap.{get, get-empty, get-from_sorted, get-insert, insert, same_map}
use Rattle.std.specs.Ordering.{eq_by_cmp}
use Rattle.std.specs.Str.{bytes_eq}
use Rattle.alt_base.proofs.Bools.{first_holds, not_holds_false, second_holds}
use Rattle.alt_cells.specs.declared.batch.RowChange.{RowChange}
use Rattle.alt_cells.specs.declared.row.RowCells.{RowCells}
use Rattle.alt_cells.specs.Batches.{has_row, is_distinct}
use Rattle.alt_cells.specs.Changes.{row_of_change}
use Rattle.alt_cells.specs.Joined.{either, joined_map}
use Rattle.alt_cells.specs.Keys.{key_cmp}
use Rattle.alt_cells.specs.Rows.{join_row}
use Rattle.alt_cells.proofs.CellLaws.{key_exact, key_total}
use Rattle.alt_cells.proofs.RowLaws.{get-joined_map}
use Rattle.alt_layout.specs.Layout.{Layout, RowMap, IsPast, change_of, shown, shown_by}
use Rattle.alt_writes.specs.Writes.{Write}
use Rattle.alt_layout.proofs.FirstChange.{shows_write, changes_in as inserted_in, with_write as with_inserted}
use Rattle.alt_layout.specs.Writes.{changes_in, one_row, with_write}

-- ---- tests

-- keys whose bytes differ aren't equal in their order
other_key : (k d : List ℕ) → bytes_eq d k ≡ false → eq_by_cmp key_cmp k d ≡ false
other_key k d differ = by (bytes_eq k d) refl
  where
    by : (b : Bool) → bytes_eq k d ≡ b → eq_by_cmp key_cmp k d ≡ false
    by true e = absurd (false≢true (sym differ
        ∙ (bytes_eq-Decides d k).1 (sym ((bytes_eq-Decides k d).0 e))))
    by false e = is_eq-slice_cmp k d ∙ e

-- ---- changes as rows

-- a row of which there is no change isn't among those inserted
not_there : (number family : ℕ) (key : List ℕ) (cs : List RowChange)
    → has_row cs family key ≡ false → get (inserted_in number family cs) key ≡ None
not_there number family key [] none = get-empty key_cmp key
not_there number family key (d ∷ ds) none =
    by (d.family == family) (bytes_eq d.key key) refl none (not_there number family key ds)
  where
    by : (f b : Bool) → bytes_eq d.key key ≡ b → ((f && b) || has_row ds family key) ≡ false
        → (has_row ds family key ≡ false → get (inserted_in number family ds) key ≡ None)
        → get (if f then insert (inserted_in number family ds) d.key (row_of_change number d)
        else inserted_in number family ds) key ≡ None
    by true true told none rest = absurd (false≢true (sym none))
    by true false told none rest =
        get-insert key_total (inserted_in number family ds) d.key (row_of_change number d) key
        ∙ ap (λ t. cond t (Some (row_of_change number d)) (get (inserted_in number family ds) key))
        (other_key key d.key told) ∙ rest none
    by false b told none rest = rest none

-- a row joined to a map that has none of its key is inserted there
joined_new : (key : List ℕ) (row : RowCells) (m : RowMap) → get m key ≡ None
    → joined_map join_row (one_row key row) m ≡ insert m key row
joined_new key row m none = same_map key_total key_exact _ _ (λ q.
    get-joined_map key_cmp key_total join_row (one_row key row) m q
    ∙ ap (λ o. either join_row o (get m q)) (get-from_sorted key_cmp ((key, row) ∷ []) q tt)
    ∙ by q (eq_by_cmp key_cmp q key) refl
    ∙ sym (get-insert key_total m key row q))
  where
    tied : (q : List ℕ) → eq_by_cmp key_cmp q key ≡ true → get m q ≡ None
    tied q e = ap (get m) ((bytes_eq-Decides q key).0 (sym (is_eq-slice_cmp q key) ∙ e)) ∙ none

    by : (q : List ℕ) (b : Bool) → eq_by_cmp key_cmp q key ≡ b
        → either join_row (cond b (Some row) None) (get m q) ≡ cond b (Some row) (get m q)
    by q true e = ap (either join_row (Some row)) (tied q e)
    by q false e = left (get m q)
      where
        left : (o : Option RowCells) → either join_row None o ≡ o
        left None = refl
        left (Some r) = refl

-- so changes joined are changes inserted
same_changes : (number family : ℕ) (cs : List RowChange) → T (is_distinct cs)
    → changes_in number family cs ≡ inserted_in number family cs
same_changes number family [] distinct = refl
same_changes number family (c ∷ cs) distinct =
    by (c.family == family) refl
    (same_changes number family cs
    (second_holds (not (has_row cs c.family c.key)) (is_distinct cs) distinct))
  where
    absent : c.family ≡ family → get (inserted_in number family cs) c.key ≡ None
    absent same = not_there number family c.key cs (subst (λ f. has_row cs f c.key ≡ false) same
        (not_holds_false (has_row cs c.family c.key)
        (first_holds (not (has_row cs c.family c.key)) (is_distinct cs) distinct)))

    by : (b : Bool) → (c.family == family) ≡ b
        → changes_in number family cs ≡ inserted_in number family cs
        → (if b then joined_map join_row (one_row c.key (row_of_change number c))
        (changes_in number family cs) else changes_in number family cs)
        ≡ (if b then insert (inserted_in number family cs) c.key (row_of_change number c)
        else inserted_in number family cs)
    by true e rest =
        ap (joined_map join_row (one_row c.key (row_of_change number c))) rest
        ∙ joined_new c.key (row_of_change number c) (inserted_in number family cs)
        (absent (eqb-true c.family family e))
    by false e rest = rest

-- ---- the rows shown

pub shows_batch : (l : Layout) (w : Write) → T (is_distinct w.changes) → IsPast l
    → l.next_number ≤ w.number → (family : ℕ) (key : List ℕ)
    → shown (with_write l w) family key
    ≡ shown_by (change_of family key w.changes) (shown l family key)
shows_batch l w distinct past later family key =
    (λ i. shown (same i) family key) ∙ shows_write l w past later family key
  where
    same : with_write l w ≡ with_inserted l w
    same = λ i. record {
      rows = λ f. joined_map join_row (l.rows f) (same_changes w.number f w.changes distinct i);
      next_number = w.number + 1;
    }
