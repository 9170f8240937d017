-- A row shows one item, and can be shown.
use Rattle.std.proofs.Common.{subst, ◌≡◌, ℕ, Bool, true, false, cond, T, List, [], ◌∷◌, ◌++◌, map, Option, Some, None, refl, sym, ap, ◌∙◌}
use Rattle.std.proofs.lemmas.Bool.{eqb-true}
use Rattle.std.specs.Prelude.{◌==◌, if◌then◌else◌, option_map, unwrap_or}
use Rattle.std.specs.Ordering.{eq_by_cmp}
use Rattle.std.specs.FinMap.{get, len, get-empty, get-from_entries, empty_of_len}
use Rattle.std.specs.FinMap.Entries.{find, same_entries}
use Rattle.alt_base.proofs.Bools.{first_holds, second_holds}
use Rattle.alt_base.proofs.Orderings.{is_eq-holds}
use Rattle.alt_cells.specs.Changes.{Columns, CanShow}
use Rattle.alt_cells.specs.Keys.{key_cmp}
use Rattle.alt_cells.proofs.CellLaws.{key_total, key_exact}
use Rattle.alt_cells.proofs.ChangeLaws.{none_shown}
use Rattle.alt_cells.proofs.Entries.{find_below}
use Rattle.alt_cellbytes.proofs.Apart.{cell_bytes-apart}
use Rattle.alt_cellbytes.proofs.WholeValues.{whole_has}
use Rattle.alt_views.specs.ItemRows.{column_of, item_columns}
use Rattle.alt_value.specs.CellBytes.{cell_bytes}
use Rattle.alt_value.specs.Tree.{fields_of, Tree, Pair}
use Rattle.alt_value.specs.Values.{IsWhole, IsWholeItem, AreFields, sets_full, fields_full}

-- a row with a column can be shown
pub can_show : (m : Columns) (q v : List ℕ) → get m q ≡ Some v → CanShow (Some m)
can_show m q v there = by_length (len m == 0) refl
  where
    by_length : (b : Bool) → (len m == 0) ≡ b → (if b then None else Some m) ≡ Some m
    by_length true none = let no : None ≡ Some v = sym (get-empty key_cmp q)
        ∙ ap (λ n. get n q) (sym (empty_of_len m (eqb-true (len m) 0 none))) ∙ there in cc no
    by_length false some = refl

-- the cell of an attribute
find-columns : (q : List ℕ) (item : List Pair) → find key_cmp q (map column_of item)
    ≡ option_map cell_bytes (find key_cmp q item)
find-columns q [] = refl
find-columns q (p ∷ ps) = elim (eq_by_cmp key_cmp q p.0) as (λ b.
    cond b (Some (cell_bytes p.1)) (find key_cmp q (map column_of ps))
    ≡ option_map cell_bytes (cond b (Some p.1) (find key_cmp q ps))) [
      | true ↦ refl
      | false ↦ find-columns q ps
    ]

-- what stands at a column
pub get-item_columns : (item : List Pair) (q : List ℕ) → get (item_columns item) q
    ≡ cond (eq_by_cmp key_cmp q []) (Some []) (option_map cell_bytes (find key_cmp q item))
get-item_columns item q = get-from_entries key_total (([], []) ∷ map column_of item) q
    ∙ ap (cond (eq_by_cmp key_cmp q []) (Some [])) (find-columns q item)

-- the row of an item can be shown
pub item_can_show : (item : List Pair) → CanShow (Some (item_columns item))
item_can_show item = can_show (item_columns item) [] [] (get-item_columns item [])

-- and so can that of none
pub items_can_show : (new : Option (List Pair)) → CanShow (option_map item_columns new)
items_can_show None = none_shown
items_can_show (Some item) = item_can_show item

-- values of the same cell bytes are the same
same_value : (o p : Option Tree) → ((t : Tree) → o ≡ Some t → IsWhole t)
    → ((t : Tree) → p ≡ Some t → IsWhole t)
    → option_map cell_bytes o ≡ option_map cell_bytes p → o ≡ p
same_value None None h k e = refl
same_value None (Some u) h k e = let no : None ≡ Some (cell_bytes u) = e in cc no
same_value (Some t) None h k e = let no : Some (cell_bytes t) ≡ None = e in cc no
same_value (Some t) (Some u) h k e =
    let same : cell_bytes t ≡ cell_bytes u = ap (λ o. unwrap_or o []) e in
    ap (λ x. Some x) (cell_bytes-apart t u [] [] (whole_has t (h t refl)) (whole_has u (k u refl))
    (ap (λ (s : List ℕ). s ++ []) same)).0

-- each value of an item is one, in which no set is empty
pub value_of : (q : List ℕ) (t : Tree) (item : List Pair) → AreFields (fields_of item)
    → T (fields_full (fields_of item)) → find key_cmp q item ≡ Some t → IsWhole t
value_of q t [] fields full at = let none : None ≡ Some t = at in cc none
value_of q t (p ∷ ps) fields full at =
    by_name (λ at. value_of q t ps fields.2 (second_holds (sets_full p.1) _ full) at)
    (eq_by_cmp key_cmp q p.0) at
  where
    by_name : (find key_cmp q ps ≡ Some t → IsWhole t) → (b : Bool)
        → cond b (Some p.1) (find key_cmp q ps) ≡ Some t → IsWhole t
    by_name behind true at = subst IsWhole (ap (λ o. unwrap_or o t) at)
        (fields.1, first_holds (sets_full p.1) (fields_full (fields_of ps)) full)
    by_name behind false at = behind at

-- No two items have the same row.
pub item_columns-one : (a b : List Pair) → IsWholeItem a → IsWholeItem b
    → item_columns a ≡ item_columns b → a ≡ b
item_columns-one a b is_a is_b same = same_entries key_cmp key_total key_exact a b
    is_a.0.names.0 is_b.0.names.0 (λ q. by_name q (eq_by_cmp key_cmp q []) refl)
  where
    none : (item : List Pair) (q : List ℕ) → IsWholeItem item → q ≡ []
        → find key_cmp q item ≡ None
    none item q is e = ap (λ q. find key_cmp q item) e
        ∙ find_below key_cmp key_total [] item is.0.names.1

    holds : (b : Bool) → b ≡ true → T b
    holds true h = tt
    holds false h = absurd (cc h)

    by_name : (q : List ℕ) (is_marker : Bool) → eq_by_cmp key_cmp q [] ≡ is_marker
        → find key_cmp q a ≡ find key_cmp q b
    by_name q true e =
        let nothing : q ≡ [] = key_exact q [] (is_eq-holds _ (holds _ e)) in
        none a q is_a nothing ∙ sym (none b q is_b nothing)
    by_name q false e = same_value _ _
        (λ t at. value_of q t a is_a.0.fields is_a.1 at)
        (λ t at. value_of q t b is_b.0.fields is_b.1 at)
        (sym (get-item_columns a q
        ∙ ap (λ t. cond t (Some []) (option_map cell_bytes (find key_cmp q a))) e)
        ∙ ap (λ m. get m q) same
        ∙ get-item_columns b q
        ∙ ap (λ t. cond t (Some []) (option_map cell_bytes (find key_cmp q b))) e)
