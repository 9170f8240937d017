-- Behind a write that hides the lowest of the rows that are left over, so many of them, the others are left over, and no more.
use Rattle.std.proofs.Common.{◌≡◌, ◌<◌, ◌≤◌, ◌+◌, ◌^◌, refl, sym, ap, ◌∙◌, ℕ, zero, suc, Bool, true, false, cond, List, [], ◌∷◌, ◌++◌, map, take, drop, Option, Some, None, All, arith}
use Rattle.std.proofs.lemmas.Bool.{eqb-true}
use Rattle.std.proofs.lemmas.Bool.Decides.{nat_tests}
use Rattle.std.proofs.lemmas.List.Elements.{All-cons, All-filter, All-head, All-nil, All-tail, All-take, All-weaker}
use Rattle.std.specs.List.{list_any, range_with_len}
use Rattle.std.specs.Ordering.{eq_by_cmp}
use Rattle.std.specs.Prelude.{◌==◌, ◌&&◌, ◌||◌, filter, if◌then◌else◌, is_some, not}
use Rattle.alt_cells.specs.Keys.{key_cmp}
use Rattle.alt_cells.specs.declared.batch.RowChange.{RowChange}
use Rattle.alt_cells.specs.Changes.{Columns, change_between}
use Rattle.alt_cells.proofs.ChangeLaws.{none_shown}
use Rattle.alt_cells.proofs.SameKeys.{key_itself}
use Rattle.alt_changes.specs.ChangeRows.{row_key}
use Rattle.alt_changes.specs.TrimRows.{hidden, trimmed_changes, trimmed_row}
use Rattle.alt_layout.specs.Layout.{Layout, change_of, shown, shown_by}
use Rattle.alt_writes.specs.Writes.{Write}
use Rattle.alt_layout.specs.Writes.{with_write}
use Rattle.alt_rowchanges.specs.Leftovers.{leftovers}
use Rattle.alt_rowchanges.proofs.ChangeLaws.{ShowsWrite}
use Rattle.alt_rowchanges.proofs.StreamTrims.{change_first}
use Rattle.alt_opening.proofs.StreamKeys.{keys_differ}

-- a number is one of these
abbrev pub is_in : List ℕ → ℕ → Bool
is_in hs n = list_any (λ h. n == h) hs

-- ---- filters

-- two tests that agree on all of a list keep the same of it
filter-alike : (p q : ℕ → Bool) (xs : List ℕ) → All (λ x. p x ≡ q x) xs → filter p xs ≡ filter q xs
filter-alike p q [] all = refl
filter-alike p q (x ∷ xs) all =
    ap (λ b. cond b (x ∷ filter p xs) (filter p xs)) (All-head (λ x. p x ≡ q x) x xs all)
    ∙ ap (λ ys. cond (q x) (x ∷ ys) ys) (filter-alike p q xs (All-tail (λ x. p x ≡ q x) x xs all))

-- each of so many numbers from one on is at least that
from_least : (a n : ℕ) → All (λ (x : ℕ). a ≤ x) (range_with_len a n)
from_least a zero = All-nil (λ (x : ℕ). a ≤ x)
from_least a (suc n) = All-cons (λ (x : ℕ). a ≤ x) a (range_with_len (a + 1) n) (omega arith)
    (All-weaker (λ (x : ℕ). a + 1 ≤ x) (λ (x : ℕ). a ≤ x) (λ x le. omega (arith, le))
    (range_with_len (a + 1) n) (from_least (a + 1) n))

-- a test that passes but for the first so many that pass
abbrev pub skips : ℕ → (ℕ → Bool) → List ℕ → ℕ → Bool
skips k p xs n = p n && not (is_in (take k (filter p xs)) n)

-- Of so many numbers from one on those that pass it are the others.
pub filter-skips : (k a n : ℕ) (p : ℕ → Bool)
    → filter (skips k p (range_with_len a n)) (range_with_len a n)
    ≡ drop k (filter p (range_with_len a n))
filter-skips zero a zero p = refl
filter-skips (suc k) a zero p = refl
filter-skips k a (suc n) p = by k (p a) refl (filter-skips k (a + 1) n p) (λ j. filter-skips j (a + 1) n p)
  where
    rest : List ℕ
    rest = range_with_len (a + 1) n

    and_true : (b : Bool) → (b && not false) ≡ b
    and_true true = refl
    and_true false = refl

    -- a number that is none of the list's may stand in front of those that are left out
    apart : (hs : List ℕ)
        → filter (λ x. p x && not ((x == a) || is_in hs x)) rest ≡ filter (λ x. p x && not (is_in hs x)) rest
    apart hs = filter-alike (λ x. p x && not ((x == a) || is_in hs x))
        (λ x. p x && not (is_in hs x)) rest
        (All-weaker (λ (x : ℕ). a + 1 ≤ x)
        (λ x. (p x && not ((x == a) || is_in hs x)) ≡ (p x && not (is_in hs x)))
        (λ x above. ap (λ b. p x && not (b || is_in hs x)) (differs x above)) rest
        (from_least (a + 1) n))
      where
        differs : (x : ℕ) → a + 1 ≤ x → (x == a) ≡ false
        differs x above = grind (arith, nat_tests)

    by : (k : ℕ) (b : Bool) → p a ≡ b
        → filter (skips k p rest) rest ≡ drop k (filter p rest)
        → ((j : ℕ) → filter (skips j p rest) rest ≡ drop j (filter p rest))
        → filter (λ x. p x && not (is_in (take k (cond b (a ∷ filter p rest) (filter p rest))) x)) (a ∷ rest)
        ≡ drop k (cond b (a ∷ filter p rest) (filter p rest))
    by k false e here less = ap (λ b. cond (b && not (is_in (take k (filter p rest)) a))
        (a ∷ filter (skips k p rest) rest) (filter (skips k p rest) rest)) e ∙ here
    by zero true e here less = ap (λ b. cond (b && not false)
        (a ∷ filter (λ x. p x && not false) rest) (filter (λ x. p x && not false) rest)) e
        ∙ ap (λ ys. a ∷ ys) (filter-alike (λ x. p x && not false) p rest
        (All-weaker (λ (x : ℕ). a + 1 ≤ x) (λ x. (p x && not false) ≡ p x)
        (λ x above. and_true (p x)) rest (from_least (a + 1) n)))
    by (suc k) true e here less =
        ap (λ b. cond (p a && not (b || is_in (take k (filter p rest)) a))
        (a ∷ filter (λ x. p x && not ((x == a) || is_in (take k (filter p rest)) x)) rest)
        (filter (λ x. p x && not ((x == a) || is_in (take k (filter p rest)) x)) rest)) (own a)
        ∙ none (p a)
        ∙ apart (take k (filter p rest)) ∙ less k
      where
        own : (m : ℕ) → (m == m) ≡ true
        own m = grind (arith, nat_tests)

        none : (b : Bool) → cond (b && false)
            (a ∷ filter (λ x. p x && not ((x == a) || is_in (take k (filter p rest)) x)) rest)
            (filter (λ x. p x && not ((x == a) || is_in (take k (filter p rest)) x)) rest)
            ≡ filter (λ x. p x && not ((x == a) || is_in (take k (filter p rest)) x)) rest
        none true = refl
        none false = refl

-- each of so many numbers from one on is below that and so many
from_most : (a n : ℕ) → All (λ (x : ℕ). x < a + n) (range_with_len a n)
from_most a zero = All-nil (λ (x : ℕ). x < a + 0)
from_most a (suc n) = All-cons (λ (x : ℕ). x < a + suc n) a (range_with_len (a + 1) n) (omega arith)
    (All-weaker (λ (x : ℕ). x < a + 1 + n) (λ (x : ℕ). x < a + suc n) (λ x le. omega (arith, le))
    (range_with_len (a + 1) n) (from_most (a + 1) n))

-- ---- what is hidden

-- numbers fit in 8 bytes
abbrev pub AreSmall : List ℕ → Type 0
AreSmall ns = All (λ (n : ℕ). n < 2 ^ 64) ns

-- keys of numbers tie as the numbers do
key_test : (m n : ℕ) → m < 2 ^ 64 → n < 2 ^ 64
    → eq_by_cmp key_cmp (row_key m) (row_key n) ≡ (m == n)
key_test m n small_m small_n = by (m == n) refl
  where
    by : (b : Bool) → (m == n) ≡ b → eq_by_cmp key_cmp (row_key m) (row_key n) ≡ b
    by true e = ap (λ k. eq_by_cmp key_cmp (row_key m) (row_key k)) (sym (eqb-true m n e))
        ∙ key_itself (row_key m)
    by false e = keys_differ m n small_m small_n (λ same. let f : (m == n) ≡ true = one m n same in
        let g : ⊥ = cc (e, f) in g)
      where
        one : (m n : ℕ) → m ≡ n → (m == n) ≡ true
        one m n same = grind (arith, nat_tests)

-- the change of a row among those that are hidden
hidden_of : (family n : ℕ) (hs : List ℕ) → n < 2 ^ 64 → AreSmall hs
    → change_of family (row_key n) (map (hidden family) hs)
    ≡ cond (is_in hs n) (Some (hidden family n)) None
hidden_of family n [] small all = refl
hidden_of family n (h ∷ hs) small all =
    change_first (hidden family h) (row_key n) (map (hidden family) hs)
    ∙ ap (λ b. if b then Some (hidden family h) else change_of family (row_key n) (map (hidden family) hs))
    (key_test n h small (All-head (λ (n : ℕ). n < 2 ^ 64) h hs all))
    ∙ by (hidden_of family n hs small (All-tail (λ (n : ℕ). n < 2 ^ 64) h hs all)) (n == h) refl
  where
    by : change_of family (row_key n) (map (hidden family) hs)
        ≡ cond (is_in hs n) (Some (hidden family n)) None → (b : Bool) → (n == h) ≡ b
        → (if b then Some (hidden family h) else change_of family (row_key n) (map (hidden family) hs))
        ≡ cond (b || is_in hs n) (Some (hidden family n)) None
    by rest true e = ap (λ k. Some (hidden family k)) (sym (eqb-true n h e))
    by rest false e = rest

-- a row that is hidden shows nothing, and another what it showed
shows_hidden : (family n : ℕ) (b : Bool) (o : Option Columns)
    → is_some (shown_by (cond b (Some (hidden family n)) None) o) ≡ (is_some o && not b)
shows_hidden family n true None = ap is_some none_shown
shows_hidden family n true (Some row) = ap is_some none_shown
shows_hidden family n false None = refl
shows_hidden family n false (Some row) = refl

-- ---- after a write

module _ (family number before after k : ℕ) (change : RowChange) (l : Layout) (w : Write)
    (law : ShowsWrite l w) (is_family : change.family ≡ family) (is_key : change.key ≡ row_key number)
    (above : after < number) (small : number < 2 ^ 64)
    (changes : (key : List ℕ) → change_of family key w.changes
    ≡ change_of family key (change ∷ (trimmed_changes family before after
    ++ map (hidden family) (take k (leftovers l family after))))) where
  -- the rows that are left over before, and those of them that go
  abbrev was : ℕ → Bool
  was n = is_some (shown l family (row_key n))

  abbrev gone : List ℕ
  gone = take k (leftovers l family after)

  gone_small : AreSmall gone
  gone_small = All-take (λ (n : ℕ). n < 2 ^ 64) k (leftovers l family after)
      (All-filter was (λ (n : ℕ). n < 2 ^ 64) (range_with_len 1 after)
      (All-weaker (λ (n : ℕ). n < 1 + after) (λ (n : ℕ). n < 2 ^ 64)
      (λ n le. omega (arith, le, above, small)) (range_with_len 1 after) (from_most 1 after)))

  -- whether a row is left over then
  is_left : (n : ℕ) → 1 ≤ n → n < 1 + after
      → is_some (shown (with_write l w) family (row_key n)) ≡ skips k was (range_with_len 1 after) n
  is_left n low high =
      let fits : n < 2 ^ 64 = omega (arith, high, above, small) in
      ap is_some (law family (row_key n))
      ∙ ap (λ c. is_some (shown_by c (shown l family (row_key n))))
      (changes (row_key n)
      ∙ ap (λ f. change_of f (row_key n) (change ∷ (trimmed_changes family before after
      ++ map (hidden family) gone))) (sym is_family)
      ∙ change_first change (row_key n) (trimmed_changes family before after ++ map (hidden family) gone)
      ∙ ap (λ b. if b then Some change else change_of change.family (row_key n)
      (trimmed_changes family before after ++ map (hidden family) gone))
      (ap (eq_by_cmp key_cmp (row_key n)) is_key
      ∙ keys_differ n number fits small (λ same. let e : n ≡ number = same in
      omega (arith, e, high, above)))
      ∙ ap (λ f. change_of f (row_key n) (trimmed_changes family before after
      ++ map (hidden family) gone)) is_family
      ∙ behind_zero (before == after) fits
      ∙ hidden_of family n gone fits gone_small)
      ∙ shows_hidden family n (is_in gone n) (shown l family (row_key n))
    where
      behind_zero : (b : Bool) → n < 2 ^ 64
          → change_of family (row_key n) ((if b then [] else change_between family (row_key 0)
          (trimmed_row before) (trimmed_row after) ∷ []) ++ map (hidden family) gone)
          ≡ change_of family (row_key n) (map (hidden family) gone)
      behind_zero true fits = refl
      behind_zero false fits =
          change_first (change_between family (row_key 0) (trimmed_row before) (trimmed_row after))
          (row_key n) (map (hidden family) gone)
          ∙ ap (λ b. if b then Some (change_between family (row_key 0) (trimmed_row before)
          (trimmed_row after)) else change_of family (row_key n) (map (hidden family) gone))
          (keys_differ n 0 fits (omega arith) (λ same. let e : n ≡ 0 = same in omega (arith, e, low)))

  -- What is left over then is what was before without the first of it, so many; so it counts the newly trimmed ones in.
  pub leftovers_after : leftovers (with_write l w) family after ≡ drop k (leftovers l family after)
  leftovers_after =
      filter-alike (λ n. is_some (shown (with_write l w) family (row_key n)))
      (skips k was (range_with_len 1 after)) (range_with_len 1 after)
      (λ j x within. is_left _ (from_least 1 after j x within) (from_most 1 after j x within))
      ∙ filter-skips k 1 after was
