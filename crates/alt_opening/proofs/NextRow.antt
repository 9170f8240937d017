-- The first row that a family shows from a key on, and the keys behind it.
use Rattle.std.proofs.Common.{◌≡◌, ◌⊎◌, inl, inr, refl, sym, ap, subst, ◌∙◌, ℕ, zero, suc, Bool, true, false, cond, T, List, [], ◌∷◌, ◌++◌, Option, Some, None, Less, Equal, Greater, slice_get, ⊎_elim, arith}
use Rattle.std.proofs.lemmas.Bool.{false≢true}
use Rattle.std.specs.Prelude.{◌&&◌}
use Rattle.std.specs.BTreeMap.Range.{range_contains}
use Rattle.std.specs.List.{filter}
use Rattle.std.specs.declared.cmp.Ordering.{Ordering}
use Rattle.std.specs.declared.ops.Bound.TheVariants.{Included, Unbounded}
use Rattle.std.specs.Ordering.{nat_cmp, eq_by_cmp, is_eq, is_le, ordering_reverse, ordering_then}
use Rattle.std.specs.Cmp.{tied_itself, nat_cmp_is}
use Rattle.std.proofs.lemmas.Cmp.{nat_cmp_total}
use Rattle.std.proofs.lemmas.Option.{same_Some}
use Rattle.std.specs.FinMap.{nat_cmp-IsAntisymmetric, entries, entries_sorted, get-entries}
use Rattle.std.specs.FinMap.Entries.{find, is_sorted, below_all}
use Rattle.alt_base.proofs.Bools.{first_holds, second_holds}
use Rattle.alt_cells.specs.Changes.{Columns}
use Rattle.alt_cells.specs.Keys.{key_cmp}
use Rattle.alt_cells.proofs.CellLaws.{key_total}
use Rattle.alt_cells.proofs.Entries.{below_less, find_below}
use Rattle.alt_cells.proofs.SameKeys.{key_itself, one_key}
use Rattle.alt_layout.specs.Layout.{Layout, shown_rows, rows_between}
use Rattle.alt_layout.proofs.ShownLaws.{get-shown_rows}
use Rattle.alt_opening.specs.Scans.{IsBelow, IsNextRow}

-- the first entry whose key passes a test
module _ {X : Type 0} (p : List ℕ → Bool) where
  abbrev pub passing : List (List ℕ × X) → List (List ℕ × X)
  passing es = filter (λ e. p e.0) es

  -- none passes
  none_first : (es : List (List ℕ × X)) → slice_get (passing es) 0 ≡ None
      → (k : List ℕ) → p k ≡ true → find key_cmp k es ≡ None
  none_first [] e k passes = refl
  none_first (x ∷ xs) e k passes = by (λ f. none_first xs f k passes) (p x.0) refl e
    where
      by : (slice_get (passing xs) 0 ≡ None → find key_cmp k xs ≡ None) → (b : Bool) → p x.0 ≡ b
          → slice_get (cond b (x ∷ passing xs) (passing xs)) 0 ≡ None
          → find key_cmp k (x ∷ xs) ≡ None
      by rest true is e = absurd (let no : Some x ≡ None = e in cc no)
      by rest false is e = key (eq_by_cmp key_cmp k x.0) refl
        where
          key : (b : Bool) → eq_by_cmp key_cmp k x.0 ≡ b
              → cond b (Some x.1) (find key_cmp k xs) ≡ None
          key true same = absurd (false≢true
              (sym is ∙ ap p (sym (one_key k x.0 same)) ∙ passes))
          key false other = rest e

  -- what comes of one
  record IsFirst (es : List (List ℕ × X)) (x : List ℕ × X) : Type 0 where
    there : find key_cmp x.0 es ≡ Some x.1
    passes : p x.0 ≡ true
    before : (k : List ℕ) → p k ≡ true → IsBelow k x.0 → find key_cmp k es ≡ None

  some_first : (es : List (List ℕ × X)) (x : List ℕ × X) → T (is_sorted key_cmp es)
      → slice_get (passing es) 0 ≡ Some x → IsFirst es x
  some_first [] x sorted e = absurd (let no : None ≡ Some x = e in cc no)
  some_first (y ∷ ys) x sorted e =
      by (λ f. some_first ys x (second_holds (below_all key_cmp y.0 ys) _ sorted) f) (p y.0) refl e
    where
      below : T (below_all key_cmp y.0 ys)
      below = first_holds _ (is_sorted key_cmp ys) sorted

      by : (slice_get (passing ys) 0 ≡ Some x → IsFirst ys x) → (b : Bool) → p y.0 ≡ b
          → slice_get (cond b (y ∷ passing ys) (passing ys)) 0 ≡ Some x → IsFirst (y ∷ ys) x
      by behind true is e = subst (IsFirst (y ∷ ys)) (same_Some y x e) (record {
        there = ap (λ b. cond b (Some y.1) (find key_cmp y.0 ys)) (key_itself y.0);
        passes = is;
        before = λ k passes low. ap (λ b. cond b (Some y.1) (find key_cmp k ys)) (ap is_eq low)
            ∙ find_below key_cmp key_total k ys
            (below_less key_cmp key_total k y.0 ys low below);
      })
      by behind false is e =
          let rest : IsFirst ys x = behind e in
          record {
            there = other x.0 rest.passes ∙ rest.there;
            passes = rest.passes;
            before = λ k passes low. other k passes ∙ rest.before k passes low;
          }
        where
          other : (k : List ℕ) → p k ≡ true → find key_cmp k (y ∷ ys) ≡ find key_cmp k ys
          other k passes = key (eq_by_cmp key_cmp k y.0) refl
            where
              key : (b : Bool) → eq_by_cmp key_cmp k y.0 ≡ b
                  → cond b (Some y.1) (find key_cmp k ys) ≡ find key_cmp k ys
              key true same = absurd (false≢true
                  (sym is ∙ ap p (sym (one_key k y.0 same)) ∙ passes))
              key false differs = refl

-- ---- from a key on

abbrev pub from_on : List ℕ → List ℕ → Bool
from_on from k = range_contains key_cmp (Included from) Unbounded k

-- a key that isn't below another is from it on
pub passes_from : (from k : List ℕ) → (IsBelow k from → ⊥) → from_on from k ≡ true
passes_from from k above = by (key_cmp k from) refl
  where
    by : (o : Ordering) → key_cmp k from ≡ o → (is_le (key_cmp from k) && true) ≡ true
    by Less e = absurd (above e)
    by Equal e = ap (λ r. is_le r && true)
        (key_total.antisymm from k ∙ ap ordering_reverse e)
    by Greater e = ap (λ r. is_le r && true)
        (key_total.antisymm from k ∙ ap ordering_reverse e)

pub from_passes : (from k : List ℕ) → from_on from k ≡ true → IsBelow k from → ⊥
from_passes from k passes low = false≢true (sym (ap (λ r. is_le r && true)
    (key_total.antisymm from k ∙ ap ordering_reverse low)) ∙ passes)

-- The first of the rows from a key on is the next one.
pub next_row_is : (l : Layout) (family : ℕ) (from : List ℕ) (o : Option (List ℕ × Columns))
    → o ≡ slice_get (rows_between l family from None true) 0 → IsNextRow l family from o
next_row_is l family from None e = λ k above. sym (get-shown_rows l family k)
    ∙ get-entries (shown_rows l family) k
    ∙ none_first (from_on from) (entries (shown_rows l family)) (sym e) k
    (passes_from from k above)
next_row_is l family from (Some x) e =
    let is = some_first (from_on from) (entries (shown_rows l family)) x
    (entries_sorted (shown_rows l family)) (sym e) in
    record {
      shows = sym (get-shown_rows l family x.0) ∙ get-entries (shown_rows l family) x.0 ∙ is.there;
      later = from_passes from x.0 is.passes;
      between = λ k above low. sym (get-shown_rows l family k)
          ∙ get-entries (shown_rows l family) k
          ∙ is.before k (passes_from from k above) low;
    }

-- ---- the key behind one

-- of two lists the first numbers that differ decide
heads : (x c : ℕ) (o : Ordering) → nat_cmp x c ≡ o → (xs cs : List ℕ)
    → key_cmp (x ∷ xs) (c ∷ cs) ≡ ordering_then o (key_cmp xs cs)
heads x c o e xs cs = ap (λ o. ordering_then o (key_cmp xs cs)) e

-- no number is below 0
none_low : (x : ℕ) → nat_cmp x 0 ≡ Less → ⊥
none_low zero low = let e : Equal ≡ Less = nat_cmp_is 0 0 Equal refl ∙ low in let f : ⊥ = cc in f
none_low (suc n) low =
    let e : Greater ≡ Less = nat_cmp_is (suc n) 0 Greater (omega arith) ∙ low in
    let f : ⊥ = cc in f

-- a key is below the one behind another where it is that one, or below it
pub below_after : (k key : List ℕ) → IsBelow k (key ++ 0 ∷ []) → IsBelow k key ⊎ (k ≡ key)
below_after [] [] low = inr refl
below_after [] (c ∷ cs) low = inl refl
below_after (x ∷ xs) [] low = absurd (by (nat_cmp x 0) refl xs
    (sym (heads x 0 (nat_cmp x 0) refl xs []) ∙ low))
  where
    by : (o : Ordering) → nat_cmp x 0 ≡ o → (ys : List ℕ)
        → ordering_then o (key_cmp ys []) ≡ Less → ⊥
    by Less e ys f = none_low x e
    by Equal e [] f = let g : ⊥ = cc in g
    by Equal e (y ∷ ys) f = let g : ⊥ = cc in g
    by Greater e ys f = let g : ⊥ = cc in g
below_after (x ∷ xs) (c ∷ cs) low = by (λ below. below_after xs cs below) (nat_cmp x c) refl
    (sym (heads x c (nat_cmp x c) refl xs (cs ++ 0 ∷ [])) ∙ low)
  where
    by : (IsBelow xs (cs ++ 0 ∷ []) → IsBelow xs cs ⊎ (xs ≡ cs)) → (o : Ordering)
        → nat_cmp x c ≡ o → ordering_then o (key_cmp xs (cs ++ 0 ∷ [])) ≡ Less
        → IsBelow (x ∷ xs) (c ∷ cs) ⊎ (x ∷ xs ≡ c ∷ cs)
    by rest Less e f = inl (heads x c Less e xs cs)
    by rest Equal e f = ⊎_elim
        (λ (below : IsBelow xs cs). inl (heads x c Equal e xs cs ∙ below))
        (λ (same : xs ≡ cs). inr (λ i. nat_cmp-IsAntisymmetric x c e i ∷ same i))
        (rest f)
    by rest Greater e f = absurd (let g : ⊥ = cc in g)

-- a key below another is below that with a 0 behind it
pub below_append : (k key : List ℕ) → IsBelow k key → IsBelow k (key ++ 0 ∷ [])
below_append [] [] low = absurd (let g : ⊥ = cc in g)
below_append [] (c ∷ cs) low = refl
below_append (x ∷ xs) [] low = absurd (let g : ⊥ = cc in g)
below_append (x ∷ xs) (c ∷ cs) low = by (λ below. below_append xs cs below) (nat_cmp x c) refl
    (sym (heads x c (nat_cmp x c) refl xs cs) ∙ low)
  where
    by : (IsBelow xs cs → IsBelow xs (cs ++ 0 ∷ [])) → (o : Ordering) → nat_cmp x c ≡ o
        → ordering_then o (key_cmp xs cs) ≡ Less → IsBelow (x ∷ xs) (c ∷ (cs ++ 0 ∷ []))
    by rest Less e f = heads x c Less e xs (cs ++ 0 ∷ [])
    by rest Equal e f = heads x c Equal e xs (cs ++ 0 ∷ []) ∙ rest f
    by rest Greater e f = absurd (let g : ⊥ = cc in g)

pub self_append : (key : List ℕ) → IsBelow key (key ++ 0 ∷ [])
self_append [] = refl
self_append (c ∷ cs) = heads c c Equal (tied_itself nat_cmp_total c) cs (cs ++ 0 ∷ [])
    ∙ self_append cs

-- a key up to another is below that with a 0 behind it
pub after_below : (k key : List ℕ) → IsBelow k key ⊎ (k ≡ key) → IsBelow k (key ++ 0 ∷ [])
after_below k key (inl low) = below_append k key low
after_below k key (inr same) = subst (λ q. IsBelow q (key ++ 0 ∷ [])) (sym same) (self_append key)
