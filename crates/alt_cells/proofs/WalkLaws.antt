-- What a walk gives after it sought a place: it is in order, and of joined rows it is the joined.
use Rattle.std.proofs.Common.{◌≡◌, ℕ, Bool, true, false, cond, T, List, [], ◌∷◌, ◌++◌, Option, Some, None, refl, sym, ap, subst, ◌∙◌, reverse}
use Rattle.std.specs.declared.cmp.Ordering.{Ordering}
use Rattle.std.specs.declared.cmp.Ordering.TheVariants.{Equal}
use Rattle.std.specs.Ordering.{is_lt, flip_args}
use Rattle.std.specs.Cmp.{IsTotalOrder, back_total, eq_by_cmp_equiv}
use Rattle.std.specs.BTreeMap.Range.{entries_between, range_contains}
use Rattle.std.specs.FinMap.{entries, entries_sorted, get, get-entries, empty, get-empty, IsAntisymmetric}
use Rattle.std.specs.FinMap.Entries.{find, is_sorted, below_all, is_sorted-where_key, find-where_key, find-append, same_entries}
use Rattle.std.proofs.lemmas.Grind.{reverse_onto}
use Rattle.alt_base.proofs.Bools.{both_hold, first_holds, second_holds}
use Rattle.alt_cells.specs.declared.row.RowCells.{RowCells}
use Rattle.alt_cells.specs.Keys.{key_cmp}
use Rattle.alt_cells.specs.Joined.{either, joined_entries, joined_map}
use Rattle.alt_cells.specs.Rows.{join_row}
use Rattle.alt_cells.specs.Walks.{RowMap, walk_cmp, first_bound, last_bound, rows_from}
use Rattle.alt_cells.proofs.Entries.{find_below, is_sorted-joined, find-joined}
use Rattle.alt_cells.proofs.CellLaws.{key_total, key_exact}
use Rattle.alt_cells.proofs.RowLaws.{get-joined_map}

-- the order of a walk is total, and only equal keys tie
pub walk_total : (forward : Bool) → IsTotalOrder (walk_cmp forward)
walk_total true = key_total
walk_total false = back_total key_total

-- keys that tie in either direction are the same key
pub walk_exact : (forward : Bool) → IsAntisymmetric (walk_cmp forward)
walk_exact true = key_exact
walk_exact false = λ x y e. sym (key_exact y x e)

module _ {K X : Type 0} (R : K → K → Ordering) (o : IsTotalOrder R) where
  -- the keys before an entry are above it the other way round
  sorted_push : (es : List (K × X)) (e : K × X) → T (is_sorted (flip_args R) es)
      → T (below_all R e.0 es) → T (is_sorted (flip_args R) (es ++ e ∷ []))
  sorted_push [] e g h = tt
  sorted_push (x ∷ es) e g h =
      both_hold _ _ (below_push x es (first_holds _ _ g) (first_holds _ _ h))
      (sorted_push es e (second_holds _ _ g) (second_holds _ _ h))
    where
      below_push : (x : K × X) (es : List (K × X)) → T (below_all (flip_args R) x.0 es)
          → T (is_lt (R e.0 x.0)) → T (below_all (flip_args R) x.0 (es ++ e ∷ []))
      below_push x [] g h = both_hold _ _ h tt
      below_push x (y ∷ es) g h =
          both_hold _ _ (first_holds _ _ g) (below_push x es (second_holds _ _ g) h)

  -- keys below two lists, and below a list turned round
  below-append : (k : K) (es fs : List (K × X)) → T (below_all R k es) → T (below_all R k fs)
      → T (below_all R k (es ++ fs))
  below-append k [] fs g h = h
  below-append k (e ∷ es) fs g h =
      both_hold _ _ (first_holds _ _ g) (below-append k es fs (second_holds _ _ g) h)

  below-reverse : (k : K) (es : List (K × X)) → T (below_all R k es)
      → T (below_all R k (reverse es))
  below-reverse k [] h = tt
  below-reverse k (e ∷ es) h = subst (λ l. T (below_all R k l)) (sym (reverse_onto es e []))
      (below-append k (reverse es) (e ∷ []) (below-reverse k es (second_holds _ _ h))
      (both_hold (is_lt (R k e.0)) true (first_holds (is_lt (R k e.0)) (below_all R k es) h) tt))

  -- a list turned round is in order, and has what it had
  is_sorted-reverse : (es : List (K × X)) → T (is_sorted R es)
      → T (is_sorted (flip_args R) (reverse es))
  is_sorted-reverse [] h = tt
  is_sorted-reverse (e ∷ es) h = subst (λ l. T (is_sorted (flip_args R) l))
      (sym (reverse_onto es e []))
      (sorted_push (reverse es) e (is_sorted-reverse es (second_holds _ _ h))
      (below-reverse e.0 es (first_holds _ _ h)))

  find-reverse : (q : K) (es : List (K × X)) → T (is_sorted R es)
      → find (flip_args R) q (reverse es) ≡ find R q es
  find-reverse q [] h = refl
  find-reverse q (e ∷ es) h =
      ap (find (flip_args R) q) (reverse_onto es e [])
      ∙ find-append (flip_args R) (back_total o) (reverse es) e.0 e.1 q
      (find-reverse e.0 es (second_holds _ _ h) ∙ find_below R o e.0 es (first_holds _ _ h))
      ∙ (λ i. cond ((eq_by_cmp_equiv o).symm e.0 q i) (Some e.1)
      (find-reverse q es (second_holds _ _ h) i))

-- the keys that a walk reaches from a place
abbrev in_reach : Bool → Option (List ℕ) → List ℕ → Bool
in_reach forward from = range_contains key_cmp (first_bound forward from) (last_bound forward from)

-- keys that tie are both reached
reach_alike : (forward : Bool) (from : Option (List ℕ)) (q x : List ℕ) → key_cmp q x ≡ Equal
    → in_reach forward from x ≡ in_reach forward from q
reach_alike forward from q x e = ap (in_reach forward from) (sym (key_exact q x e))

-- it is in order
pub is_sorted-rows_from : (rows : RowMap) (from : Option (List ℕ)) (forward : Bool)
    → T (is_sorted (walk_cmp forward) (rows_from rows from forward))
is_sorted-rows_from rows from true = is_sorted-where_key key_cmp (in_reach true from) (entries rows)
    (entries_sorted rows)
is_sorted-rows_from rows from false = is_sorted-reverse key_cmp key_total
    (entries_between key_cmp (first_bound false from) (last_bound false from) (entries rows))
    (is_sorted-where_key key_cmp (in_reach false from) (entries rows) (entries_sorted rows))

-- and has the rows that are reached
pub find-rows_from : (rows : RowMap) (from : Option (List ℕ)) (forward : Bool) (q : List ℕ)
    → find (walk_cmp forward) q (rows_from rows from forward)
    ≡ cond (in_reach forward from q) (get rows q) None
find-rows_from rows from true q = find-where_key key_cmp (in_reach true from) q
    (reach_alike true from q) (entries rows) ∙ ap (λ x. cond (in_reach true from q) x None)
    (sym (get-entries rows q))
find-rows_from rows from false q =
    find-reverse key_cmp key_total q (entries_between key_cmp (first_bound false from)
    (last_bound false from) (entries rows))
    (is_sorted-where_key key_cmp (in_reach false from) (entries rows) (entries_sorted rows))
    ∙ find-where_key key_cmp (in_reach false from) q (reach_alike false from q) (entries rows)
    ∙ ap (λ x. cond (in_reach false from q) x None) (sym (get-entries rows q))

-- two rows joined, where they are reached
either_cond : {X : Type 0} (f : X → X → X) (b : Bool) (x y : Option X)
    → cond b (either f x y) None ≡ either f (cond b x None) (cond b y None)
either_cond f true x y = refl
either_cond f false x y = refl

-- of joined rows it is the joined
pub rows_from-joined : (m n : RowMap) (from : Option (List ℕ)) (forward : Bool)
    → rows_from (joined_map join_row m n) from forward
    ≡ joined_entries (walk_cmp forward) join_row (rows_from m from forward) (rows_from n from forward)
rows_from-joined m n from forward =
    let R = walk_cmp forward in
    let o = walk_total forward in
    let left = is_sorted-rows_from m from forward in
    let right = is_sorted-rows_from n from forward in
    same_entries R o (walk_exact forward) (rows_from (joined_map join_row m n) from forward)
    (joined_entries R join_row (rows_from m from forward) (rows_from n from forward))
    (is_sorted-rows_from (joined_map join_row m n) from forward)
    (is_sorted-joined R o join_row (rows_from m from forward)
    (rows_from n from forward) left right)
    (λ q. find-rows_from (joined_map join_row m n) from forward q
    ∙ ap (λ x. cond (in_reach forward from q) x None)
    (get-joined_map key_cmp key_total join_row m n q)
    ∙ either_cond join_row (in_reach forward from q) (get m q) (get n q)
    ∙ sym (find-joined R o join_row q (rows_from m from forward)
    (rows_from n from forward) left right
    ∙ (λ i. either join_row (find-rows_from m from forward q i)
    (find-rows_from n from forward q i))))

-- of no rows it is nothing
pub rows_from-empty : (from : Option (List ℕ)) (forward : Bool) → rows_from empty from forward ≡ []
rows_from-empty from forward = same_entries (walk_cmp forward) (walk_total forward)
    (walk_exact forward) (rows_from empty from forward) []
    (is_sorted-rows_from empty from forward) tt
    (λ q. find-rows_from empty from forward q
    ∙ ap (λ x. cond (in_reach forward from q) x None) (get-empty key_cmp q)
    ∙ none (in_reach forward from q))
  where
    none : (b : Bool) → cond {A = Option RowCells} b None None ≡ None
    none true = refl
    none false = refl
