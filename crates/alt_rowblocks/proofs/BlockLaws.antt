-- Rows behind rows, and the rows of one block.
use Rattle.std.proofs.Common.{◌≡◌, refl, sym, ap, subst, ◌∙◌, ℕ, ◌-◌, ◌<◌, ◌≤◌, ◌^◌, List, [], ◌∷◌, ◌++◌, length, Option, Some, None, T, arith, length-append, true, false, Bool}
use Rattle.std.specs.Prelude.{IsTrue, slice_get}
use Rattle.std.specs.declared.cmp.Ordering.{Ordering}
use Rattle.std.specs.declared.cmp.Ordering.TheVariants.{Less, Equal, Greater}
use Rattle.std.specs.Ordering.{is_lt}
use Rattle.std.specs.FinMap.Entries.{is_sorted, below_all}
use native.Mathlib.Numerals.{unary_clauses}
use Rattle.alt_base.proofs.Bools.{both_hold, first_holds as first, second_holds}
use Rattle.alt_base.proofs.Orderings.{less-holds, is_lt-holds}
use Rattle.alt_cells.specs.Keys.{key_cmp}
use Rattle.alt_cells.proofs.CellLaws.{key_total}
use Rattle.alt_cells.proofs.Entries.{below_less}
use Rattle.alt_rowblocks.specs.Format.{Entry, rows_bytes, first_key, IsBlock, IsHeldBlock}
use Rattle.alt_filter.specs.declared.filter.Filter.{Filter}
use Rattle.alt_rowblocks.specs.Decoding.{AreRows, StandBefore}
use Rattle.alt_rowblocks.specs.Filtering.{FilterHoldsRows}
use Rattle.alt_rowblocks.specs.Blocks.{IsAbove, IsNextBlock, IsReadBlock}
use Rattle.alt_rowblocks.specs.Summaries.{last_key, summary_of}
use Rattle.alt_rowblocks.specs.declared.summary.Summary.{Summary}
use Rattle.alt_rowblocks.proofs.OneFile.{one_block}

-- a test for less tells whether an order is Less
pub less_tested : (b : Bool) (r : Ordering) → b ≡ is_lt r → (IsTrue b → r ≡ Less)
    × (r ≡ Less → IsTrue b)
less_tested b Less e = ((λ t. refl), (λ l. e))
less_tested b Equal e =
    ((λ t. absurd (let f : true ≡ false = sym t ∙ e in cc f)), (λ l. absurd (cc l)))
less_tested b Greater e =
    ((λ t. absurd (let f : true ≡ false = sym t ∙ e in cc f)), (λ l. absurd (cc l)))

-- ---- rows behind rows

-- the last key of rows behind others is that of those behind
pub last_key-append : {X : Type 0} (xs : List (List ℕ × X)) (y : List ℕ × X)
    (ys : List (List ℕ × X))
    → last_key (xs ++ y ∷ ys) ≡ last_key (y ∷ ys)
last_key-append [] y ys = refl
last_key-append (x ∷ []) y ys = refl
last_key-append (x ∷ z ∷ xs) y ys = last_key-append (z ∷ xs) y ys

-- the last of the rows has the last key
pub last_at : (rows : List Entry) (l : Entry) → Some l ≡ slice_get rows (length rows - 1)
    → Some l.0 ≡ last_key rows
last_at [] l e = absurd (let f : ⊥ = cc in f)
last_at (x ∷ rows) l e = at_end x rows l (simp unary_clauses at e)
  where
    at_end : (x : Entry) (rows : List Entry) (l : Entry)
        → Some l ≡ slice_get (x ∷ rows) (length rows) → Some l.0 ≡ last_key (x ∷ rows)
    at_end x [] l e = let f : l ≡ x = cc in ap (λ (y : Entry). Some y.0) f
    at_end x (z ∷ rows) l e = at_end z rows l e

-- the first of the rows has the first key
pub first_at : (rows : List Entry) (f : Entry) → Some f ≡ slice_get rows 0 → f.0 ≡ first_key rows
first_at [] f e = absurd (let g : ⊥ = cc in g)
first_at (x ∷ rows) f e = let g : f ≡ x = cc in ap (λ (y : Entry). y.0) g

-- rows whose first key is above the last one go on rising
pub sorted_join : {X : Type 0} (xs : List (List ℕ × X)) (y : List ℕ × X)
    (ys : List (List ℕ × X)) → T (is_sorted key_cmp xs)
    → T (is_sorted key_cmp (y ∷ ys)) → IsAbove (last_key xs) y.0
    → T (is_sorted key_cmp (xs ++ y ∷ ys))
sorted_join [] y ys h k above = k
sorted_join (x ∷ []) y ys h k above =
    both_hold (below_all key_cmp x.0 (y ∷ ys)) (is_sorted key_cmp (y ∷ ys))
    (both_hold (is_lt (key_cmp x.0 y.0)) (below_all key_cmp x.0 ys)
    (less-holds (key_cmp x.0 y.0) above)
    (below_less key_cmp key_total x.0 y.0 ys above (first _ _ k))) k
sorted_join (x ∷ z ∷ xs) y ys h k above =
    let rest = sorted_join (z ∷ xs) y ys (second_holds _ _ h) k above in
    let next : key_cmp x.0 z.0 ≡ Less = is_lt-holds _ (first _ _ (first _ _ h)) in
    both_hold (below_all key_cmp x.0 (z ∷ (xs ++ y ∷ ys))) (is_sorted key_cmp (z ∷ (xs ++ y ∷ ys)))
    (both_hold (is_lt (key_cmp x.0 z.0)) (below_all key_cmp x.0 (xs ++ y ∷ ys))
    (less-holds (key_cmp x.0 z.0) next)
    (below_less key_cmp key_total x.0 z.0 (xs ++ y ∷ ys) next (first _ _ rest))) rest

-- and what goes on rising is above the last one
pub above_join : {X : Type 0} (xs : List (List ℕ × X)) (y : List ℕ × X)
    (ys : List (List ℕ × X))
    → T (is_sorted key_cmp (xs ++ y ∷ ys)) → IsAbove (last_key xs) y.0
above_join [] y ys h = tt
above_join (x ∷ []) y ys h = is_lt-holds _ (first _ _ (first _ _ h))
above_join (x ∷ z ∷ xs) y ys h = above_join (z ∷ xs) y ys (second_holds _ _ h)

-- the rows behind others rise, where all do
pub sorted_back : (xs ys : List Entry) → T (is_sorted key_cmp (xs ++ ys)) → T (is_sorted key_cmp ys)
sorted_back [] ys h = h
sorted_back (x ∷ xs) ys h = sorted_back xs ys (second_holds _ _ h)

-- ---- a block

-- rows of which there are some have a last one
pub split_last : (x : Entry) (rows : List Entry) → (front : List Entry) × (last : Entry)
    × (x ∷ rows ≡ front ++ last ∷ [])
split_last x [] = ([], x, refl)
split_last x (y ∷ rows) = let s = split_last y rows in
    (x ∷ s.0, s.1, ap (λ (l : List Entry). x ∷ l) s.2)

-- rows that were read of a block's bytes, all of them, are the next block
pub block_read : (rows : List Entry) (bytes : List ℕ) (before : ℕ) (f l : Entry)
    (after : Option (List ℕ)) (is_last : Bool) (one two : List ℕ) (count : ℕ) (summary : Summary)
    (filter : Filter)
    → AreRows rows
    → bytes ≡ rows_bytes rows → StandBefore before rows
    → before < 4096 → (is_last ≡ false → 4096 ≤ length bytes) → length bytes < 2 ^ 64
    → Some f ≡ slice_get rows 0 → Some l ≡ slice_get rows (length rows - 1) → IsAbove after f.0
    → one ≡ f.0 → two ≡ l.0 → count ≡ length rows → summary ≡ summary_of rows
    → FilterHoldsRows filter rows → (b : List Entry)
    × IsNextBlock after is_last bytes b × IsReadBlock one two count summary filter b
block_read [] bytes before f l after is_last one two count summary filter are is place short full
    small fst
    lst above p q n told holds = absurd (let g : ⊥ = cc in g)
block_read (x ∷ rows)
    bytes before f l after is_last one two count summary filter are is place short full small fst
    lst above
    p q n told holds =
    let s = split_last x rows in
    let key : f.0 ≡ x.0 = first_at (x ∷ rows) f fst in (
      x ∷ rows,
      record {
        block = record {
          rows = s.0;
          last = s.1;
          is = s.2;
          short =
              omega (arith, short, place s.0 s.1 s.2);
        };
        full = λ not_last. omega (arith, full not_last, ap length is);
        held = (are.0, omega (arith, small, ap length is));
        rising = are.1;
        above = subst (IsAbove after) key above;
        is = is;
      },
      record {
        first_is = p ∙ key;
        last_is = ap (λ (k : List ℕ). Some k) q
            ∙ last_at (x ∷ rows) l lst;
        rows_is = n;
        summary_is = told;
        filter_is = holds;
      },
    )

-- rows that were read are the only ones
pub same_rows : (rows b : List Entry) (bytes : List ℕ) → AreRows rows → bytes ≡ rows_bytes rows
    → IsHeldBlock b → bytes ≡ rows_bytes b → rows ≡ b
same_rows rows b bytes are is held there = one_block rows b are.0 held.0 (sym is ∙ there)

-- where there is no first row there is none
pub no_first : (rows : List Entry) → None ≡ slice_get rows 0 → rows ≡ []
no_first [] e = refl
no_first (x ∷ rows) e = absurd (let f : ⊥ = cc in f)

-- a block has a row
pub no_block : (b : List Entry) → IsBlock b → b ≡ [] → ⊥
no_block b is none =
    omega (arith, ap length (sym none ∙ is.is), length-append is.rows (is.last ∷ []))
