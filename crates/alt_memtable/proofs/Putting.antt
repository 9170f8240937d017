-- A row put into a map of rows is joined to it.
use Rattle.std.proofs.Common.{◌≡◌, ℕ, true, false, cond, T, List, [], ◌∷◌, map, Option, Some, None, refl, sym, ap, ◌∙◌}
use Rattle.std.specs.declared.cmp.Ordering.{Ordering}
use Rattle.std.specs.declared.cmp.Ordering.TheVariants.{Less, Equal, Greater}
use Rattle.std.specs.Ordering.{is_eq, eq_by_cmp}
use Rattle.std.specs.Map.{lookup}
use Rattle.std.specs.BTreeMap.{insert_entry, is_at}
use Rattle.std.specs.List.Sorted.{IsStrictlySortedBy}
use Rattle.std.specs.FinMap.{from_sorted, get, get-from_sorted, same_map}
use Rattle.std.specs.FinMap.Entries.{find, find-put, put, is_sorted, by_order, is_sorted-put}
use Rattle.alt_cells.specs.declared.row.RowCells.{RowCells}
use Rattle.alt_cells.specs.Keys.{key_cmp}
use Rattle.alt_cells.specs.Joined.{either, joined_map}
use Rattle.alt_cells.specs.Rows.{join_row}
use Rattle.alt_cells.specs.Walks.{RowList}
use Rattle.alt_cells.proofs.CellLaws.{key_total, key_exact}
use Rattle.alt_cells.proofs.RowLaws.{get-joined_map}
use Rattle.alt_memtable.proofs.Ordered.{is_sorted_keys}
use Rattle.alt_memtable.specs.Rows.{joined_with}

-- an entry put in its place, in the words of a tree
insert_put : (es : RowList) (k : List ℕ) (v : RowCells)
    → insert_entry key_cmp es k v ≡ put key_cmp k v es
insert_put [] k v = refl
insert_put (e ∷ es) k v = ap (λ l. by_order (key_cmp k e.0) ((k, v) ∷ e ∷ es) ((e.0, v) ∷ es)
    (e ∷ l)) (insert_put es k v)

-- what is found, in the words of a tree
pub find_lookup : (es : RowList) (k : List ℕ) → find key_cmp k es ≡ lookup (is_at (key_cmp k)) es
find_lookup [] k = refl
find_lookup (e ∷ es) k = ap (cond (eq_by_cmp key_cmp k e.0) (Some e.1)) (find_lookup es k)

-- a row that stands after a put, in the words of rows that are joined
joined_either : (old : Option RowCells) (row : RowCells)
    → Some (joined_with old row) ≡ either join_row old (Some row)
joined_either None row = refl
joined_either (Some old) row = refl

-- the row that is put is the joined one
pub put_joined : (es : RowList) (key : List ℕ) (row : RowCells)
    → IsStrictlySortedBy key_cmp (map (λ e. e.0) es)
    → from_sorted {R = key_cmp} (insert_entry key_cmp es key
    (joined_with (lookup (is_at (key_cmp key)) es) row))
    ≡ joined_map join_row (from_sorted es) (from_sorted ((key, row) ∷ []))
put_joined es key row ordered =
    let sorted = is_sorted_keys key_cmp es ordered in
    let new = joined_with (lookup (is_at (key_cmp key)) es) row in
    same_map key_total key_exact _ _ (λ q.
    ap (λ l. get (from_sorted {R = key_cmp} l) q) (insert_put es key new)
    ∙ get-from_sorted key_cmp (put key_cmp key new es) q
    (is_sorted-put key_cmp key_total key new es sorted)
    ∙ find-put key_cmp key_total q key new es
    ∙ at q sorted
    ∙ sym (get-joined_map key_cmp key_total join_row (from_sorted es)
    (from_sorted ((key, row) ∷ [])) q
    ∙ (λ i. either join_row (get-from_sorted key_cmp es q sorted i)
    (get-from_sorted key_cmp ((key, row) ∷ []) q tt i))))
  where
    none_right : (a : Option RowCells) → a ≡ either join_row a None
    none_right None = refl
    none_right (Some a) = refl

    equal : (o : Ordering) → is_eq o ≡ true → o ≡ Equal
    equal Less p = cc
    equal Equal p = refl
    equal Greater p = cc

    at : (q : List ℕ) → T (is_sorted key_cmp es)
        → cond (eq_by_cmp key_cmp q key)
        (Some (joined_with (lookup (is_at (key_cmp key)) es) row)) (find key_cmp q es)
        ≡ either join_row (find key_cmp q es) (cond (eq_by_cmp key_cmp q key) (Some row) None)
    at q sorted = elim (eq_by_cmp key_cmp q key) as
        (λ b. eq_by_cmp key_cmp q key ≡ b → cond b
        (Some (joined_with (lookup (is_at (key_cmp key)) es) row)) (find key_cmp q es)
        ≡ either join_row (find key_cmp q es) (cond b (Some row) None)) [
          | true ↦ λ p. joined_either (lookup (is_at (key_cmp key)) es) row
              ∙ ap (λ a. either join_row a (Some row))
              (sym (find_lookup es key) ∙ ap (λ (k : List ℕ). find key_cmp k es)
              (sym (key_exact q key (equal (key_cmp q key) p))))
          | false ↦ λ p. none_right (find key_cmp q es)
        ] refl
