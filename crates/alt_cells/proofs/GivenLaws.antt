-- What is given to a column: the cell that it makes, and the value that it leaves.
use Rattle.std.proofs.Common.{◌≡◌, ℕ, Bool, true, false, cond, T, List, [], ◌∷◌, map, Option, Some, None, refl, sym, ap, subst, ◌∙◌}
use Rattle.std.specs.Prelude.{◌++◌, option_map, unwrap_or, is_none, not}
use Rattle.std.specs.Option.{option_map_or}
use Rattle.std.specs.Str.{bytes_eq}
use Rattle.std.specs.Cmp.{nat_cmp_total, tied_itself}
use Rattle.std.specs.Cmp.Lexicographic.{bytes_decides}
use Rattle.std.specs.declared.cmp.Ordering.{Ordering}
use Rattle.std.specs.declared.cmp.Ordering.TheVariants.{Less, Equal, Greater}
use Rattle.std.specs.Ordering.{eq_by_cmp, ordering_then}
use Rattle.std.specs.FinMap.{get, get-from_sorted, get-insert, get-remove, get-empty, get-entries, entries, entries_sorted, empty}
use Rattle.std.specs.FinMap.Entries.{find, find-where_key, is_sorted, is_sorted-where_key, where_key, by_order, below_all}
use Rattle.alt_base.proofs.Bools.{both_hold, first_holds, second_holds}
use Rattle.alt_base.proofs.Orderings.{is_eq-holds}
use Rattle.alt_cells.specs.Keys.{key_cmp}
use Rattle.alt_cells.specs.Cells.{cell_cmp, value_cmp, greater}
use Rattle.alt_cells.specs.Joined.{either}
use Rattle.alt_cells.specs.Changes.{Columns, GivenColumns, cell_at, one_cell, cells_given, tied, given_to, with_column, with_columns, differs, is_changed, with_value, changed_cells, gone_cells}
use Rattle.alt_cells.proofs.Entries.{below_tied, find_below}
use Rattle.alt_cells.proofs.CellLaws.{key_total, key_exact}
use Rattle.alt_cells.proofs.RowLaws.{get-joined_map}
use Rattle.alt_cells.proofs.SameKeys.{one_key}

-- the winner of two cells of one write is of that write, and has the value that wins
greater_tied : (number : ℕ) (v w : Option (List ℕ))
    → greater cell_cmp (cell_at number v) (cell_at number w)
    ≡ cell_at number (greater value_cmp v w)
greater_tied number v w =
    ap (λ r. by_order (ordering_then r (value_cmp v w)) (cell_at number w) (cell_at number v)
    (cell_at number v))
    (tied_itself nat_cmp_total number)
    ∙ chosen (value_cmp v w)
  where
    chosen : (r : Ordering)
        → by_order r (cell_at number w) (cell_at number v) (cell_at number v)
        ≡ cell_at number (by_order r w v v)
    chosen Less = refl
    chosen Equal = refl
    chosen Greater = refl

-- the cell of a column in a change
pub get-cells_given : (number : ℕ) (cells : GivenColumns) (q : List ℕ)
    → get (cells_given number cells) q ≡ option_map (cell_at number) (given_to q cells)
get-cells_given number [] q = get-empty key_cmp q
get-cells_given number (e ∷ es) q =
    get-joined_map key_cmp key_total (greater cell_cmp) (one_cell number e)
    (cells_given number es) q
    ∙ (λ i. either (greater cell_cmp)
    (get-from_sorted key_cmp ((e.0, cell_at number e.1) ∷ []) q tt i)
    (get-cells_given number es q i))
    ∙ at_name (eq_by_cmp key_cmp q e.0) (given_to q es)
  where
    at_name : (b : Bool) (o : Option (Option (List ℕ)))
        → either (greater cell_cmp) (cond b (Some (cell_at number e.1)) None)
        (option_map (cell_at number) o)
        ≡ option_map (cell_at number) (cond b (Some (tied e.1 o)) o)
    at_name true None = refl
    at_name true (Some w) = ap (λ c. Some c) (greater_tied number e.1 w)
    at_name false None = refl
    at_name false (Some w) = refl

-- the value of a column after one is set, or removed
get-with_column : (name : List ℕ) (v : Option (List ℕ)) (m : Columns) (q : List ℕ)
    → get (with_column name v m) q ≡ cond (eq_by_cmp key_cmp q name) v (get m q)
get-with_column name None m q = get-remove key_total m name q
get-with_column name (Some v) m q = get-insert key_total m name v q

-- the value of a column after all that is given
pub get-with_columns : (cells : GivenColumns) (m : Columns) (q : List ℕ)
    → get (with_columns cells m) q ≡ unwrap_or (given_to q cells) (get m q)
get-with_columns [] m q = refl
get-with_columns (e ∷ es) m q =
    get-with_column e.0 (tied e.1 (given_to e.0 es)) (with_columns es m) q
    ∙ at_name (eq_by_cmp key_cmp q e.0) refl (get-with_columns es m q)
  where
    at_name : (b : Bool) → eq_by_cmp key_cmp q e.0 ≡ b
        → get (with_columns es m) q ≡ unwrap_or (given_to q es) (get m q)
        → cond b (tied e.1 (given_to e.0 es)) (get (with_columns es m) q)
        ≡ unwrap_or (cond b (Some (tied e.1 (given_to q es))) (given_to q es)) (get m q)
    at_name true t behind = ap (λ k. tied e.1 (given_to k es)) (sym (one_key q e.0 t))
    at_name false t behind = behind

-- of names that rise each stands once
pub given_to-rising : (q : List ℕ) (es : GivenColumns) → T (is_sorted key_cmp es)
    → given_to q es ≡ find key_cmp q es
given_to-rising q [] h = refl
given_to-rising q (e ∷ es) h =
    at_name (eq_by_cmp key_cmp q e.0) refl (given_to-rising q es (second_holds _ _ h))
  where
    at_name : (b : Bool) → eq_by_cmp key_cmp q e.0 ≡ b → given_to q es ≡ find key_cmp q es
        → cond b (Some (tied e.1 (given_to q es))) (given_to q es)
        ≡ cond b (Some e.1) (find key_cmp q es)
    at_name true t behind =
        let ties = is_eq-holds (key_cmp q e.0) (subst T (sym t) tt) in
        let none =
        find_below key_cmp key_total q es
        (below_tied key_cmp key_total q e.0 es ties (first_holds _ _ h)) in
        ap (λ o. Some (tied e.1 o)) (behind ∙ none)
    at_name false t behind = behind

-- a name below all names is below them with other values
below-map : {A B : Type 0} (g : A → B) (name : List ℕ) (es : List (List ℕ × A))
    → T (below_all key_cmp name es) → T (below_all key_cmp name (map (λ e. (e.0, g e.1)) es))
below-map g name [] h = tt
below-map g name (e ∷ es) h =
    both_hold _ _ (first_holds _ _ h) (below-map g name es (second_holds _ _ h))

-- names that rise do so with other values
pub sorted-map : {A B : Type 0} (g : A → B) (es : List (List ℕ × A))
    → T (is_sorted key_cmp es) → T (is_sorted key_cmp (map (λ e. (e.0, g e.1)) es))
sorted-map g [] h = tt
sorted-map g (e ∷ es) h =
    both_hold _ _ (below-map g e.0 es (first_holds _ _ h)) (sorted-map g es (second_holds _ _ h))

-- the value of a name, where each value is changed alike
pub find-map : {A B : Type 0} (g : A → B) (q : List ℕ) (es : List (List ℕ × A))
    → find key_cmp q (map (λ e. (e.0, g e.1)) es) ≡ option_map g (find key_cmp q es)
find-map g q [] = refl
find-map g q (e ∷ es) = at_name (eq_by_cmp key_cmp q e.0) (find-map g q es)
  where
    at_name : (b : Bool)
        → find key_cmp q (map (λ e. (e.0, g e.1)) es) ≡ option_map g (find key_cmp q es)
        → cond b (Some (g e.1)) (find key_cmp q (map (λ e. (e.0, g e.1)) es))
        ≡ option_map g (cond b (Some e.1) (find key_cmp q es))
    at_name true behind = refl
    at_name false behind = behind

-- so of rising names each is given its own
given_to-map : (g : List ℕ → Option (List ℕ)) (q : List ℕ) (es : List (List ℕ × List ℕ))
    → T (is_sorted key_cmp es)
    → given_to q (map (λ e. (e.0, g e.1)) es) ≡ option_map g (find key_cmp q es)
given_to-map g q es h = given_to-rising q (map (λ e. (e.0, g e.1)) es) (sorted-map g es h)
    ∙ find-map g q es

-- the same of those that pass a test
given_by_key : (p : List ℕ → Bool) (g : List ℕ → Option (List ℕ)) (m : Columns) (q : List ℕ)
    → given_to q (map (λ e. (e.0, g e.1)) (where_key key_cmp p (entries m)))
    ≡ option_map g (cond (p q) (get m q) None)
given_by_key p g m q =
    given_to-map g q (where_key key_cmp p (entries m))
    (is_sorted-where_key key_cmp p (entries m) (entries_sorted m))
    ∙ ap (option_map g)
    (find-where_key key_cmp p q (λ x e. ap p (sym (key_exact q x e))) (entries m)
    ∙ ap (λ o. cond (p q) o None) (sym (get-entries m q)))

-- what the first of two lists gives to a column to which the second gives nothing
given_first : (q : List ℕ) (es fs : GivenColumns) → given_to q fs ≡ None
    → given_to q (es ++ fs) ≡ given_to q es
given_first q [] fs h = h
given_first q (e ∷ es) fs h =
    ap (λ o. cond (eq_by_cmp key_cmp q e.0) (Some (tied e.1 o)) o) (given_first q es fs h)

-- what the second of two lists gives to a column to which the first gives nothing
given_second : (q : List ℕ) (es fs : GivenColumns) → given_to q es ≡ None
    → given_to q (es ++ fs) ≡ given_to q fs
given_second q [] fs h = refl
given_second q (e ∷ es) fs h = at_name (eq_by_cmp key_cmp q e.0) h (given_second q es fs)
  where
    at_name : (b : Bool) → cond b (Some (tied e.1 (given_to q es))) (given_to q es) ≡ None
        → (given_to q es ≡ None → given_to q (es ++ fs) ≡ given_to q fs)
        → cond b (Some (tied e.1 (given_to q (es ++ fs)))) (given_to q (es ++ fs)) ≡ given_to q fs
    at_name true n behind = absurd (let f : ⊥ = cc in f)
    at_name false n behind = behind n

-- a column that changed shows the new value, and one that didn't the old, which is the same
new_value : (o : Option (List ℕ)) (v : List ℕ)
    → unwrap_or (option_map (λ v. Some v) (cond (differs o v) (Some v) None)) o ≡ Some v
new_value None v = refl
new_value (Some u) v = by_test (bytes_eq u v) refl
  where
    by_test : (b : Bool) → bytes_eq u v ≡ b
        → unwrap_or (option_map (λ v. Some v) (cond (not b) (Some v) None)) (Some u) ≡ Some v
    by_test true e = ap (λ x. Some x) ((bytes_decides u v).0 e)
    by_test false e = refl

-- what a column shows, by what it showed and is to show
turned : (q : List ℕ) (es fs : GivenColumns) (o n : Option (List ℕ))
    → given_to q es ≡ option_map (λ v. Some v) (cond (option_map_or (differs o) n false) n None)
    → given_to q fs ≡ option_map (λ v. None) (cond (is_none n) o None)
    → unwrap_or (given_to q (es ++ fs)) o ≡ n
turned q es fs None None a b = ap (λ g. unwrap_or g None) (given_second q es fs a ∙ b)
turned q es fs (Some u) None a b = ap (λ g. unwrap_or g (Some u)) (given_second q es fs a ∙ b)
turned q es fs o (Some v) a b = ap (λ g. unwrap_or g o) (given_first q es fs b ∙ a) ∙ new_value o v

-- the columns of a row that changes
pub columns_between : (old new : Columns) (q : List ℕ)
    → get (with_columns (changed_cells old new ++ gone_cells old new) old) q ≡ get new q
columns_between old new q =
    get-with_columns (changed_cells old new ++ gone_cells old new) old q
    ∙ turned q (changed_cells old new) (gone_cells old new) (get old q) (get new q)
    (given_by_key (is_changed old new) (λ v. Some v) new q)
    (given_by_key (λ q. is_none (get new q)) (λ v. None) old q)

-- all columns of a row that is made
pub columns_made : (new : Columns) (q : List ℕ)
    → get (with_columns (map with_value (entries new)) empty) q ≡ get new q
columns_made new q =
    get-with_columns (map with_value (entries new)) empty q
    ∙ (λ i. unwrap_or (given_to-map (λ v. Some v) q (entries new) (entries_sorted new) i)
    (get-empty key_cmp q i))
    ∙ ap (λ o. unwrap_or (option_map (λ v. Some v) o) None) (sym (get-entries new q))
    ∙ as_it_is (get new q)
  where
    as_it_is : (o : Option (List ℕ)) → unwrap_or (option_map (λ v. Some v) o) None ≡ o
    as_it_is None = refl
    as_it_is (Some v) = refl
