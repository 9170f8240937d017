-- The columns of an item's row, in order, and the item that is read from them.
use Rattle.std.proofs.Common.{◌≡◌, ◌<◌, ◌≤◌, ◌+◌, refl, sym, ap, subst, ◌∙◌, ℕ, zero, suc, T, List, [], ◌∷◌, ◌++◌, map, length, get_or, take, drop, Some, None, slice_get, add-one, arith}
use Rattle.std.proofs.Math.Seq.{take-suc}
use Rattle.std.proofs.lemmas.List.{map-append, map-id, take-append-drop}
use Rattle.std.specs.Ordering.{is_lt}
use Rattle.std.specs.List.{remove}
use Rattle.std.specs.Prelude.{◌&&◌}
use Rattle.std.specs.FinMap.{entries, entries_sorted, entries-from_sorted, from_entries, from_sorted, get-from_entries, get-from_sorted, same_entries_map, same_map}
use Rattle.std.specs.FinMap.Entries.{below_all, is_sorted}
use Rattle.alt_base.proofs.Bools.{both_hold, first_holds, second_holds}
use Rattle.alt_base.proofs.Lists.{cons_rest}
use Rattle.alt_cells.specs.Changes.{Columns}
use Rattle.alt_cells.specs.Keys.{key_cmp}
use Rattle.alt_cells.proofs.CellLaws.{key_total, key_exact}
use Rattle.alt_cellbytes.proofs.Rising.{item_front, with_pair-last}
use Rattle.alt_machine.specs.Valid.{deepest}
use Rattle.alt_views.specs.ItemRows.{column_of, item_columns, IsAttribute, IsReadItem}
use Rattle.alt_value.specs.Item.{IsItem, with_pair}
use Rattle.alt_value.specs.Members.{text_order}
use Rattle.alt_value.specs.Size.{depth, fields_depth}
use Rattle.alt_value.specs.Tree.{Pair, fields_of}
use Rattle.alt_value.specs.Values.{AreFields, sets_full, fields_full}

-- ---- columns in order

below-columns : (q : List ℕ) (ps : List Pair) → below_all key_cmp q (map column_of ps)
    ≡ below_all text_order q ps
below-columns q [] = refl
below-columns q (p ∷ ps) = ap (λ b. is_lt (text_order q p.0) && b) (below-columns q ps)

sorted-columns : (ps : List Pair) → is_sorted key_cmp (map column_of ps) ≡ is_sorted text_order ps
sorted-columns [] = refl
sorted-columns (p ∷ ps) = λ i. below-columns p.0 ps i && sorted-columns ps i

-- behind the marker stand the columns of an item, which rise
pub columns_rise : (ps : List Pair) → IsItem ps
    → T (is_sorted key_cmp (([], []) ∷ map column_of ps))
columns_rise ps is = both_hold _ _ (subst T (sym (below-columns [] ps)) is.1)
    (subst T (sym (sorted-columns ps)) is.0)

-- and what rises so is an item
pub rise_item : (ps : List Pair) → T (is_sorted key_cmp (([], []) ∷ map column_of ps)) → IsItem ps
rise_item ps h = (
  subst T (sorted-columns ps) (second_holds (below_all key_cmp [] (map column_of ps)) _ h),
  subst T (below-columns [] ps) (first_holds _ (is_sorted key_cmp (map column_of ps)) h),
)

-- the entries of a map that was made of entries in order
entries-from_entries : (es : List (List ℕ × List ℕ)) → T (is_sorted key_cmp es)
    → entries (from_entries {R = key_cmp} es) ≡ es
entries-from_entries es h = ap entries (same_map key_total key_exact
    (from_entries {R = key_cmp} es) (from_sorted es)
    (λ q. get-from_entries key_total es q ∙ sym (get-from_sorted key_cmp es q h)))
    ∙ entries-from_sorted key_cmp es h

-- the entries of an item's row
pub entries-item_columns : (ps : List Pair) → IsItem ps
    → entries (item_columns ps) ≡ ([], []) ∷ map column_of ps
entries-item_columns ps is = entries-from_entries (([], []) ∷ map column_of ps) (columns_rise ps is)

-- a row with these entries is that of the item
pub row_is : (row : Columns) (ps : List Pair) → IsItem ps
    → entries row ≡ ([], []) ∷ map column_of ps → row ≡ item_columns ps
row_is row ps is same = same_entries_map row (item_columns ps)
    (same ∙ sym (entries-item_columns ps is))

-- ---- fronts

-- a key below all entries is below those of a front
below_front : (q : List ℕ) (xs ys : List (List ℕ × List ℕ)) → T (below_all key_cmp q (xs ++ ys))
    → T (below_all key_cmp q xs)
below_front q [] ys h = tt
below_front q (x ∷ xs) ys h = both_hold _ _ (first_holds _ (below_all key_cmp q (xs ++ ys)) h)
    (below_front q xs ys (second_holds (is_lt (key_cmp q x.0)) _ h))

-- the front of entries in order is in order
pub sorted_front : (xs ys : List (List ℕ × List ℕ)) → T (is_sorted key_cmp (xs ++ ys))
    → T (is_sorted key_cmp xs)
sorted_front [] ys h = tt
sorted_front (x ∷ xs) ys h = both_hold _ _
    (below_front x.0 xs ys (first_holds _ (is_sorted key_cmp (xs ++ ys)) h))
    (sorted_front xs ys (second_holds (below_all key_cmp x.0 (xs ++ ys)) _ h))

-- and so are the first of them, so many
pub sorted_first : (k : ℕ) (es : List (List ℕ × List ℕ))
    → T (is_sorted key_cmp (([], []) ∷ es)) → T (is_sorted key_cmp (([], []) ∷ take k es))
sorted_first k es h = sorted_front (([], []) ∷ take k es) (drop k es)
    (subst (λ x. T (is_sorted key_cmp (([], []) ∷ x))) (sym (take-append-drop k es)) h)

-- ---- one column more is read

-- the columns of pairs with one more are theirs and its own
map-snoc : (ps : List Pair) (p : Pair) → map column_of (ps ++ p ∷ [])
    ≡ map column_of ps ++ column_of p ∷ []
map-snoc ps p = map-append column_of ps (p ∷ [])

-- the first columns, and one more, as those of pairs
first_more : (ps : List Pair) (p : Pair) (es : List (List ℕ × List ℕ)) (k : ℕ)
    (e : List ℕ × List ℕ) → k < length es → e ≡ get_or es k e
    → map column_of ps ≡ take k es → e ≡ column_of p
    → map column_of (ps ++ p ∷ []) ≡ take (k + 1) es
first_more ps p es k e within at so_far is =
    map-snoc ps p ∙ (λ i. so_far i ++ sym is i ∷ [])
    ∙ (λ i. take k es ++ at i ∷ [])
    ∙ sym (take-suc es k e within) ∙ ap (λ n. take n es) (sym (add-one k))

-- a pair that is put at a name above all others is the last one
pub put_more : (ps new : List Pair) (p : Pair) (es : List (List ℕ × List ℕ)) (k : ℕ)
    (e : List ℕ × List ℕ) → T (is_sorted key_cmp (([], []) ∷ es)) → k < length es
    → e ≡ get_or es k e → map column_of ps ≡ take k es → e ≡ column_of p
    → new ≡ with_pair p.0 p.1 ps
    → (new ≡ ps ++ p ∷ []) × (map column_of new ≡ take (k + 1) es)
put_more ps new p es k e sorted within at so_far is put =
    let more : map column_of (ps ++ p ∷ []) ≡ take (k + 1) es =
    first_more ps p es k e within at so_far is in
    let item : IsItem (ps ++ p ∷ []) = rise_item (ps ++ p ∷ [])
    (subst (λ x. T (is_sorted key_cmp (([], []) ∷ x))) (sym more)
    (sorted_first (k + 1) es sorted)) in
    let last : new ≡ ps ++ p ∷ [] = put ∙ with_pair-last ps p.0 p.1 p.1 item in
    (last, ap (map column_of) last ∙ more)

-- the same where the columns so far are those that a walk has given
pub put_next : (ps new : List Pair) (p : Pair) (es given : List (List ℕ × List ℕ))
    (e : List ℕ × List ℕ) → T (is_sorted key_cmp (([], []) ∷ es))
    → map (λ x. x) given ≡ take (length given) es → length given < length es
    → e ≡ get_or es (length given) e → map column_of ps ≡ given → e ≡ column_of p
    → new ≡ with_pair p.0 p.1 ps
    → (new ≡ ps ++ p ∷ []) × (map column_of new ≡ given ++ e ∷ [])
put_next ps new p es given e sorted front within at so_far is put =
    let k = length given in
    let first : given ≡ take k es = sym (map-id given) ∙ front in
    let more = put_more ps new p es k e sorted within at (so_far ∙ first) is put in (
      more.0,
      more.1 ∙ ap (λ n. take n es) (add-one k) ∙ take-suc es k e within
          ∙ (λ i. sym first i ++ sym at i ∷ []),
    )

-- no set in it is empty, where none is in what was there and in what came
pub full_more : (ps : List Pair) (p : Pair) → T (fields_full (fields_of ps)) → T (sets_full p.1)
    → T (fields_full (fields_of (ps ++ p ∷ [])))
full_more [] p h new = both_hold _ _ new tt
full_more (q ∷ ps) p h new = both_hold _ _ (first_holds _ (fields_full (fields_of ps)) h)
    (full_more ps p (second_holds (sets_full q.1) _ h) new)

-- nor is anything too deep
pub depth_more : (ps : List Pair) (p : Pair) (n : ℕ) → fields_depth (fields_of ps) ≤ n
    → depth p.1 ≤ n → fields_depth (fields_of (ps ++ p ∷ [])) ≤ n
depth_more [] p n h new = omega arith
depth_more (q ∷ ps) p n h new =
    let rest = depth_more ps p n (omega (arith, h)) new in omega (arith, h, rest)

-- ---- the attributes of an item

-- each attribute of such an item is one
pub attribute_at : (ps : List Pair) → AreFields (fields_of ps) → T (fields_full (fields_of ps))
    → T (below_all text_order [] ps)
    → fields_depth (fields_of ps) ≤ deepest → (k : ℕ) (e : List ℕ × List ℕ)
    → k < length (map column_of ps) → e ≡ get_or (map column_of ps) k e
    → (p : Pair) × IsAttribute p × (e ≡ column_of p)
attribute_at [] fields full below deep k e within at = absurd (omega arith)
attribute_at (p ∷ ps) fields full below deep zero e within at = (
  p,
  record {
    named = named p.0 (first_holds _ (below_all text_order [] ps) below);
    name = fields.0;
    value = (fields.1, first_holds _ (fields_full (fields_of ps)) full);
    depth = omega (arith, deep);
  },
  at,
)
  where
    named : (name : List ℕ) → T (is_lt (text_order [] name)) → 0 < length name
    named [] h = absurd h
    named (b ∷ name) h = omega arith
attribute_at (p ∷ ps) fields full below deep (suc k) e within at =
    attribute_at ps fields.2 (second_holds (sets_full p.1) _ full)
    (second_holds (is_lt (text_order [] p.0)) _ below) (omega (arith, deep)) k e
    (omega (arith, within)) at

-- each column of an item that was read is an attribute
pub read_attribute : (ps : List Pair) → IsReadItem ps → (es : List (List ℕ × List ℕ))
    → es ≡ map column_of ps → (k : ℕ) (e : List ℕ × List ℕ) → k < length es → e ≡ get_or es k e
    → (p : Pair) × IsAttribute p × (e ≡ column_of p)
read_attribute ps is es same k e within at =
    attribute_at ps is.whole.0.fields is.whole.1 is.whole.0.names.1 is.depth k e
    (subst (λ xs. k < length xs) same within)
    (subst (λ xs. e ≡ get_or xs k e) same at)

-- ---- one attribute more is written

-- the first pairs, and the one at the next place
take_snoc : (ps : List Pair) (k : ℕ) (p : Pair) → Some p ≡ slice_get ps k
    → take (suc k) ps ≡ take k ps ++ p ∷ []
take_snoc [] k p at = absurd (let no : Some p ≡ None = at in let f : ⊥ = cc in f)
take_snoc (q ∷ ps) zero p at =
    let same : p ≡ q = (let f : p ≡ q = cc in f) in ap (λ r. r ∷ []) (sym same)
take_snoc (q ∷ ps) (suc k) p at = ap (λ rs. q ∷ rs) (take_snoc ps k p at)

-- the columns of the attributes so far, and one more
pub one_attribute : (ps : List Pair) (k : ℕ) (p : Pair) (es : List (List ℕ × List ℕ))
    → es ≡ ([], []) ∷ map column_of (take k ps) → Some p ≡ slice_get ps k
    → es ++ column_of p ∷ [] ≡ ([], []) ∷ map column_of (take (k + 1) ps)
one_attribute ps k p es so_far at = ap (λ x. x ++ column_of p ∷ []) so_far
    ∙ ap (λ x. ([], []) ∷ x) (sym (map-snoc (take k ps) p)
    ∙ ap (map column_of) (sym (take_snoc ps k p at))
    ∙ ap (λ n. map column_of (take n ps)) (sym (add-one k)))

-- the first attributes of an item have columns in order
pub columns_first : (ps : List Pair) (k : ℕ) → IsItem ps
    → T (is_sorted key_cmp (([], []) ∷ map column_of (take k ps)))
columns_first ps k is = columns_rise (take k ps)
    (item_front (take k ps) (drop k ps) (subst IsItem (sym (take-append-drop k ps)) is))

-- so many attributes are all
pub take_all : (ps : List Pair) (k : ℕ) → length ps ≤ k → take k ps ≡ ps
take_all [] zero h = refl
take_all [] (suc k) h = refl
take_all (p ∷ ps) zero h = absurd (omega arith)
take_all (p ∷ ps) (suc k) h = ap (λ qs. p ∷ qs) (take_all ps k (omega arith))

-- ---- the row that is read

-- the columns behind the marker of a row that is an item's
pub behind_is : (row : Columns) (es rest : List (List ℕ × List ℕ)) (ps : List Pair) → IsItem ps
    → es ≡ entries row → es ≡ ([], []) ∷ rest → row ≡ item_columns ps → rest ≡ map column_of ps
behind_is row es rest ps is at marked same = cons_rest _ _ rest (map column_of ps)
    (sym marked ∙ at ∙ ap entries same ∙ entries-item_columns ps is)

-- there is a marker
pub marked_is : (row : Columns) (es : List (List ℕ × List ℕ)) (ps : List Pair) → IsItem ps
    → es ≡ entries row → row ≡ item_columns ps → es ≡ ([], []) ∷ map column_of ps
marked_is row es ps is at same = at ∙ ap entries same ∙ entries-item_columns ps is

-- the columns behind it rise
pub behind_rises : (row : Columns) (es rest : List (List ℕ × List ℕ)) → es ≡ entries row
    → es ≡ ([], []) ∷ rest → T (is_sorted key_cmp (([], []) ∷ rest))
behind_rises row es rest at marked = subst (λ x. T (is_sorted key_cmp x)) (sym at ∙ marked)
    (entries_sorted row)

-- what is left when the first is taken out stands behind it
pub without_first : (es left rest : List (List ℕ × List ℕ)) → es ≡ ([], []) ∷ rest
    → left ≡ remove es 0 → es ≡ ([], []) ∷ left
without_first es left rest marked is =
    marked ∙ ap (λ x. ([], []) ∷ x) (sym (is ∙ ap (λ x. remove x 0) marked))

-- what was read of them is the row's item
pub read_is : (row : Columns) (es rest : List (List ℕ × List ℕ)) (ps : List Pair) → IsReadItem ps
    → es ≡ entries row → es ≡ ([], []) ∷ rest → rest ≡ map column_of ps → row ≡ item_columns ps
read_is row es rest ps is at marked same = row_is row ps is.whole.0.names
    (sym at ∙ marked ∙ ap (λ x. ([], []) ∷ x) same)
