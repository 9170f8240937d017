-- The rows in hand, and those behind the one that is taken of them.
use Rattle.std.proofs.Common.{◌≡◌, ⊎_elim, refl, sym, ap, subst, ◌∙◌, ℕ, suc, Bool, true, false, cond, T, List, [], ◌∷◌, ◌++◌, Option, Some, None, take, drop, Less, Greater, slice_get, length, ◌<◌, arith, reverse}
use Rattle.std.proofs.lemmas.Bool.{false≢true}
use Rattle.std.proofs.lemmas.List.{reverse-append, reverse-reverse, take-append-drop}
use Rattle.std.specs.Prelude.{◌&&◌, ◌↔◌, IsSome, IfSome}
use Rattle.std.specs.Option.{option_to_list}
use Rattle.std.specs.Ordering.{is_le, ordering_reverse}
use Rattle.std.specs.FinMap.{entries, entries_sorted}
use Rattle.std.specs.FinMap.Entries.{is_sorted, below_all}
use Rattle.alt_base.proofs.Bools.{first_holds, second_holds}
use Rattle.alt_base.proofs.Lists.{length-zero}
use Rattle.alt_base.proofs.Orderings.{is_lt-holds}
use Rattle.alt_cells.specs.Changes.{Columns}
use Rattle.alt_cells.specs.Keys.{key_cmp}
use Rattle.alt_cells.proofs.CellLaws.{key_total}
use Rattle.alt_layout.specs.Layout.{Layout, shown_rows, rows_between}
use Rattle.alt_opening.specs.Scans.{IsAhead, IsBelow, IsNextRow}
use Rattle.alt_opening.proofs.NextRow.{passing, from_on, from_passes, passes_from, next_row_is, below_after, below_append, self_append}

-- ---- what is shown behind the first row

-- a key below another isn't from it on
below_from : (from k : List ℕ) → IsBelow k from → from_on from k ≡ false
below_from from k low = ap (λ r. is_le r && true)
    (key_total.antisymm from k ∙ ap ordering_reverse low)

-- a key above another isn't below the one behind it
above_after : (key k : List ℕ) → IsBelow key k → IsBelow k (key ++ 0 ∷ []) → ⊥
above_after key k high low = ⊎_elim
    (λ (below : IsBelow k key). let e : Greater ≡ Less =
    sym (key_total.antisymm key k ∙ ap ordering_reverse below) ∙ high in let f : ⊥ = cc in f)
    (λ (same : k ≡ key). itself (subst (λ q. IsBelow key q) same high))
    (below_after k key low)
  where
    itself : IsBelow key key → ⊥
    itself high = let e : Greater ≡ Less =
        sym (key_total.antisymm key key ∙ ap ordering_reverse high) ∙ high in let f : ⊥ = cc in f

module _ {X : Type 0} where
  -- above a key that is from another on each key is from that one on, and from behind the key on
  all_pass : (from key : List ℕ) → from_on from key ≡ true → (es : List (List ℕ × X))
      → T (below_all key_cmp key es)
      → passing (from_on (key ++ 0 ∷ [])) es ≡ passing (from_on from) es
  all_pass from key on [] above = refl
  all_pass from key on (e ∷ es) above =
      let high : IsBelow key e.0 =
      is_lt-holds (key_cmp key e.0) (first_holds _ (below_all key_cmp key es) above) in
      let rest = all_pass from key on es (second_holds _ (below_all key_cmp key es) above) in
      let behind : from_on (key ++ 0 ∷ []) e.0 ≡ true =
      passes_from (key ++ 0 ∷ []) e.0 (above_after key e.0 high) in
      let there : from_on from e.0 ≡ true = passes_from from e.0
      (λ low. from_passes from key on (key_total.trans key e.0 from high low)) in
      ap (λ b. cond b (e ∷ passing (from_on (key ++ 0 ∷ [])) es)
      (passing (from_on (key ++ 0 ∷ [])) es)) behind
      ∙ ap (λ zs. e ∷ zs) rest
      ∙ sym (ap (λ b. cond b (e ∷ passing (from_on from) es) (passing (from_on from) es)) there)

  -- the first that passes is above what all are above
  first_above : (p : List ℕ → Bool) (key : List ℕ) (es : List (List ℕ × X)) (x : List ℕ × X)
      (more : List (List ℕ × X)) → T (below_all key_cmp key es) → passing p es ≡ x ∷ more
      → IsBelow key x.0
  first_above p key [] x more above e = absurd (let f : ⊥ = cc in f)
  first_above p key (y ∷ ys) x more above e =
      by (λ f. first_above p key ys x more (second_holds _ (below_all key_cmp key ys) above) f)
      (p y.0) refl e
    where
      by : (passing p ys ≡ x ∷ more → IsBelow key x.0) → (b : Bool) → p y.0 ≡ b
          → cond b (y ∷ passing p ys) (passing p ys) ≡ x ∷ more → IsBelow key x.0
      by rest true is e = subst (λ (z : List ℕ × X). IsBelow key z.0)
          (let same : y ≡ x = cc in same)
          (is_lt-holds (key_cmp key y.0) (first_holds _ (below_all key_cmp key ys) above))
      by rest false is e = rest e

  behind_first : (from : List ℕ) (es : List (List ℕ × X)) (x : List ℕ × X)
      (more : List (List ℕ × X)) → T (is_sorted key_cmp es)
      → passing (from_on from) es ≡ x ∷ more → passing (from_on (x.0 ++ 0 ∷ [])) es ≡ more
  behind_first from [] x more sorted e = absurd (let f : ⊥ = cc in f)
  behind_first from (y ∷ ys) x more sorted e =
      by (λ f. behind_first from ys x more (second_holds (below_all key_cmp y.0 ys) _ sorted) f)
      (from_on from y.0) refl e
    where
      above : T (below_all key_cmp y.0 ys)
      above = first_holds _ (is_sorted key_cmp ys) sorted

      at_first : (z : List ℕ × X) → y ≡ z → from_on from y.0 ≡ true
          → passing (from_on (z.0 ++ 0 ∷ [])) (y ∷ ys) ≡ passing (from_on from) ys
      at_first z same on = subst (λ (z : List ℕ × X).
          passing (from_on (z.0 ++ 0 ∷ [])) (y ∷ ys) ≡ passing (from_on from) ys) same
          (ap (λ b. cond b (y ∷ passing (from_on (y.0 ++ 0 ∷ [])) ys)
          (passing (from_on (y.0 ++ 0 ∷ [])) ys))
          (below_from (y.0 ++ 0 ∷ []) y.0 (self_append y.0))
          ∙ all_pass from y.0 on ys above)

      by : (passing (from_on from) ys ≡ x ∷ more → passing (from_on (x.0 ++ 0 ∷ [])) ys ≡ more)
          → (b : Bool) → from_on from y.0 ≡ b
          → cond b (y ∷ passing (from_on from) ys) (passing (from_on from) ys) ≡ x ∷ more
          → passing (from_on (x.0 ++ 0 ∷ [])) (y ∷ ys) ≡ more
      by rest true is e =
          let same : y ≡ x = cc in
          let others : passing (from_on from) ys ≡ more = cc in
          at_first x same is ∙ others
      by rest false is e =
          ap (λ b. cond b (y ∷ passing (from_on (x.0 ++ 0 ∷ [])) ys)
          (passing (from_on (x.0 ++ 0 ∷ [])) ys))
          (below_from (x.0 ++ 0 ∷ []) y.0
          (below_append y.0 x.0 (first_above (from_on from) y.0 ys x more above e)))
          ∙ rest e

-- Behind the key of the first row a family shows the others.
rows_behind : (l : Layout) (family : ℕ) (from : List ℕ) (x : List ℕ × Columns)
    (more : List (List ℕ × Columns)) → rows_between l family from None true ≡ x ∷ more
    → rows_between l family (x.0 ++ 0 ∷ []) None true ≡ more
rows_behind l family from x more e = behind_first from (entries (shown_rows l family)) x more
    (entries_sorted (shown_rows l family)) e

-- ---- rows in hand

-- no rows are
pub none_ahead : (l : Layout) (family : ℕ) (from : List ℕ) (rows : List (List ℕ × Columns))
    → rows ≡ [] → IsAhead l family from rows
none_ahead l family from rows none = record {
  rest = rows_between l family from None true;
  first = ap (λ rs. reverse rs ++ rows_between l family from None true) (sym none);
}

-- A page that was empty holds what was asked for.
pub page_is : (l : Layout) (family : ℕ) (asked from : List ℕ) (n : ℕ)
    (old page : List (List ℕ × Columns)) → length old ≡ 0
    → page ≡ old ++ take n (rows_between l family asked None true) → asked ≡ from
    → page ≡ take n (rows_between l family from None true)
page_is l family asked from n old page none came same = came
    ∙ ap (λ rs. rs ++ take n (rows_between l family asked None true)) (length-zero old none)
    ∙ ap (λ k. take n (rows_between l family k None true)) same

-- the first ones, turned
pub some_ahead : (l : Layout) (family : ℕ) (from : List ℕ) (n : ℕ)
    (page rows : List (List ℕ × Columns)) → page ≡ take n (rows_between l family from None true)
    → rows ≡ reverse page → IsAhead l family from rows
some_ahead l family from n page rows are turned =
    let all = rows_between l family from None true in
    record {
      rest = drop n all;
      first = sym (take-append-drop n all)
          ∙ ap (λ rs. rs ++ drop n all)
          (sym are ∙ sym (reverse-reverse page) ∙ ap reverse (sym turned));
    }

-- where none came, there are none
pub none_came : {X : Type 0} (n : ℕ) (all page rows : List X) → page ≡ take (suc n) all
    → rows ≡ reverse page → rows ≡ [] → all ≡ []
none_came n [] page rows are turned none = refl
none_came n (x ∷ xs) page rows are turned none = absurd (
    let no : x ∷ take n xs ≡ [] =
    sym are ∙ sym (reverse-reverse page) ∙ ap reverse (sym turned ∙ none) in
    let f : ⊥ = cc in f)

-- the last of the rows in hand, if there is one
module _ (l : Layout) (family : ℕ) (from : List ℕ) (rows ys : List (List ℕ × Columns))
    (ahead : IsAhead l family from rows) where
  shown_then : (x : List ℕ × Columns) → rows ≡ ys ++ x ∷ []
      → rows_between l family from None true ≡ x ∷ (reverse ys ++ ahead.rest)
  shown_then x items = ahead.first
      ∙ ap (λ rs. reverse rs ++ ahead.rest) items
      ∙ ap (λ rs. rs ++ ahead.rest) (reverse-append ys (x ∷ []))

  pub taken_next : (o : Option (List ℕ × Columns)) (n : ℕ)
      → (rows ≡ [] → rows_between l family from None true ≡ [])
      → rows ≡ ys ++ option_to_list o → IsSome o ↔ (0 < n) → n ≡ length rows
      → IsNextRow l family from o
  taken_next (Some x) n none items some long = next_row_is l family from (Some x)
      (sym (ap (λ rs. slice_get rs 0) (shown_then x items)))
  taken_next None n none items some long = next_row_is l family from None
      (sym (ap (λ rs. slice_get rs 0) (none (by rows refl))))
    where
      by : (rs : List (List ℕ × Columns)) → rows ≡ rs → rows ≡ []
      by [] are = are
      by (r ∷ rs) are = absurd (false≢true (some.1 (omega (arith, ap length are, long))))

  pub taken_ahead : (o : Option (List ℕ × Columns)) → rows ≡ ys ++ option_to_list o
      → IfSome o (λ e. IsAhead l family (e.0 ++ 0 ∷ []) ys)
  taken_ahead None items = tt
  taken_ahead (Some x) items = record {
    rest = ahead.rest;
    first = rows_behind l family from x (reverse ys ++ ahead.rest) (shown_then x items);
  }

-- they are the first from the key behind a row that was given
pub ahead_then : (l : Layout) (family : ℕ) (o : Option (List ℕ × Columns)) (x : List ℕ × Columns)
    (rows : List (List ℕ × Columns)) → o ≡ Some x
    → IfSome o (λ e. IsAhead l family (e.0 ++ 0 ∷ []) rows) → (after : List ℕ)
    → after ≡ x.0 ++ 0 ∷ [] → IsAhead l family after rows
ahead_then l family o x rows given ahead after is =
    subst (λ k. IsAhead l family k rows) (sym is)
    (subst (λ o. IfSome o (λ e. IsAhead l family (e.0 ++ 0 ∷ []) rows)) given ahead)
