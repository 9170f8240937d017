-- A walk over a range: what it has ahead, what it gives and where it ends.
use Rattle.std.proofs.Common.{◌≡◌, ℕ, Bool, true, false, T, List, [], ◌∷◌, ◌++◌, Option, Some, None, refl, sym, ap, subst, ◌∙◌, reverse, filter, append-nil}
use Rattle.std.proofs.lemmas.Grind.{reverse_onto}
use Rattle.std.proofs.lemmas.Bool.{false≢true}
use Rattle.std.specs.Prelude.{not, IsTrue, if◌then◌else◌, ◌&&◌}
use Rattle.std.specs.BTreeMap.Comparable.{le_lt_trans}
use Rattle.std.specs.BTreeMap.Range.{entries_between, range_contains}
use Rattle.std.specs.FinMap.{empty, entries, entries_sorted, entries-from_sorted}
use Rattle.alt_cells.proofs.RowLaws.{from_sorted-nil}
use Rattle.std.specs.FinMap.Entries.{below_all}
use Rattle.std.specs.List.{AllByRecursion}
use Rattle.std.specs.Ordering.{is_le}
use Rattle.std.specs.declared.cmp.Ordering.TheVariants.{Less}
use Rattle.std.specs.declared.ops.Bound.TheVariants.{Included}
use Rattle.alt_base.proofs.Bools.{first_holds, second_holds}
use Rattle.alt_base.proofs.Orderings.{is_lt-holds}
use Rattle.alt_cells.specs.Keys.{key_cmp}
use Rattle.alt_cells.specs.Walks.{RowMap, RowList, last_bound, rows_from, turned, walk_cmp}
use Rattle.alt_cells.proofs.CellLaws.{key_total}
use Rattle.alt_cells.proofs.WalkLaws.{is_sorted-rows_from}
use Rattle.alt_cells.specs.Shown.{row_shown}
use Rattle.alt_layout.specs.Layout.{Layout, end_bound, rows_between, shown_of, shown_rows}
use Rattle.alt_layout.proofs.ShownLaws.{is_sorted-shown, shown-filter, shown-turned}
use Rattle.alt_cells.specs.declared.row.RowCells.{RowCells}
use Rattle.alt_families.specs.Ranges.{Ahead, AreAhead, is_out, walk_reaches, shown_between, start_of}

-- ---- lists of entries by their keys

-- a test behind a weaker one
filter_twice : (p q : List ℕ → Bool) (es : RowList) → ((k : List ℕ) → p k ≡ true → q k ≡ true)
    → filter (λ e. p e.0) (filter (λ e. q e.0) es) ≡ filter (λ e. p e.0) es
filter_twice p q [] weaker = refl
filter_twice p q (e ∷ es) weaker = by (q e.0) refl (p e.0) refl (filter_twice p q es weaker)
  where
    by : (b : Bool) → q e.0 ≡ b → (a : Bool) → p e.0 ≡ a
        → filter (λ e. p e.0) (filter (λ e. q e.0) es) ≡ filter (λ e. p e.0) es
        → filter (λ e. p e.0) (if b then e ∷ filter (λ e. q e.0) es else filter (λ e. q e.0) es)
        ≡ (if a then e ∷ filter (λ e. p e.0) es else filter (λ e. p e.0) es)
    by true is a holds rest = (λ i. if holds i then e ∷ rest i else rest i)
    by false is false holds rest = rest
    by false is true holds rest = absurd (false≢true (sym is ∙ weaker e.0 holds))

-- one entry more at the end
filter_push : (p : List ℕ → Bool) (es fs : RowList)
    → filter (λ e. p e.0) (es ++ fs) ≡ filter (λ e. p e.0) es ++ filter (λ e. p e.0) fs
filter_push p [] fs = refl
filter_push p (e ∷ es) fs = by (p e.0) (filter_push p es fs)
  where
    by : (b : Bool) → filter (λ e. p e.0) (es ++ fs) ≡ filter (λ e. p e.0) es ++ filter (λ e. p e.0) fs
        → (if b then e ∷ filter (λ e. p e.0) (es ++ fs) else filter (λ e. p e.0) (es ++ fs))
        ≡ (if b then e ∷ filter (λ e. p e.0) es else filter (λ e. p e.0) es) ++ filter (λ e. p e.0) fs
    by true rest = ap (λ l. e ∷ l) rest
    by false rest = rest

-- from the back
pub filter_back : (p : List ℕ → Bool) (es : RowList)
    → filter (λ e. p e.0) (reverse es) ≡ reverse (filter (λ e. p e.0) es)
filter_back p [] = refl
filter_back p (e ∷ es) = ap (filter (λ e. p e.0)) (reverse_onto es e [])
    ∙ filter_push p (reverse es) (e ∷ [])
    ∙ ap (λ l. l ++ filter (λ e. p e.0) (e ∷ [])) (filter_back p es) ∙ by (p e.0)
  where
    by : (b : Bool) → reverse (filter (λ e. p e.0) es) ++ (if b then e ∷ [] else [])
        ≡ reverse (if b then e ∷ filter (λ e. p e.0) es else filter (λ e. p e.0) es)
    by true = sym (reverse_onto (filter (λ e. p e.0) es) e [])
    by false = append-nil (reverse (filter (λ e. p e.0) es))

-- what passes a test has it
all_passed : (q : List ℕ → Bool) (es : RowList)
    → AllByRecursion (λ e. q e.0 ≡ true) (filter (λ e. q e.0) es)
all_passed q [] = tt
all_passed q (e ∷ es) = by (q e.0) refl (all_passed q es)
  where
    by : (b : Bool) → q e.0 ≡ b → AllByRecursion (λ e. q e.0 ≡ true) (filter (λ e. q e.0) es)
        → AllByRecursion (λ e. q e.0 ≡ true)
        (if b then e ∷ filter (λ e. q e.0) es else filter (λ e. q e.0) es)
    by true is rest = (is, rest)
    by false is rest = rest

all_both : (P : List ℕ × RowCells → Type 0) (es fs : RowList) → AllByRecursion P es
    → AllByRecursion P fs → AllByRecursion P (es ++ fs)
all_both P [] fs a b = b
all_both P (e ∷ es) fs a b = (a.0, all_both P es fs a.1 b)

all_back : (P : List ℕ × RowCells → Type 0) (es : RowList) → AllByRecursion P es
    → AllByRecursion P (reverse es)
all_back P [] a = tt
all_back P (e ∷ es) a = subst (AllByRecursion P) (sym (reverse_onto es e []))
    (all_both P (reverse es) (e ∷ []) (all_back P es a.1) (a.0, tt))

-- ---- a range

-- where a walk back begins is where the range ends
same_bound : (to : Option (List ℕ)) → last_bound false to ≡ end_bound to
same_bound None = refl
same_bound (Some to) = refl

abbrev within : List ℕ → Option (List ℕ) → List ℕ → Bool
within from to = range_contains key_cmp (Included from) (end_bound to)

-- a key of the range is reached
is_reached : (forward : Bool) (from : List ℕ) (to : Option (List ℕ)) (k : List ℕ)
    → within from to k ≡ true → walk_reaches forward from to k ≡ true
is_reached true from to k is = by (is_le (key_cmp from k)) _ is
  where
    by : (a b : Bool) → (a && b) ≡ true → (a && true) ≡ true
    by true b is = refl
    by false b is = is
is_reached false from None k is = refl
is_reached false from (Some to) k is = by (is_le (key_cmp from k)) (not (is_le (key_cmp to k))) is
  where
    by : (a b : Bool) → (a && b) ≡ true → b ≡ true
    by true b is = is
    by false b is = absurd (false≢true is)

-- and one that is reached is of the range, unless it is behind it
pub is_within : (forward : Bool) (from : List ℕ) (to : Option (List ℕ)) (k : List ℕ)
    → walk_reaches forward from to k ≡ true → is_out forward from to k ≡ false → within from to k ≡ true
is_within true from None k reached out = reached
is_within true from (Some to) k reached out =
    by (is_le (key_cmp from k)) (is_le (key_cmp to k)) reached out
  where
    by : (a b : Bool) → (a && true) ≡ true → b ≡ false → (a && not b) ≡ true
    by true true reached out = absurd (false≢true (sym out))
    by true false reached out = refl
    by false b reached out = reached
is_within false from None k reached out = by (is_le (key_cmp from k)) out
  where
    by : (a : Bool) → not a ≡ false → (a && true) ≡ true
    by true out = refl
    by false out = absurd (false≢true (sym out))
is_within false from (Some to) k reached out =
    by (is_le (key_cmp from k)) (not (is_le (key_cmp to k))) reached out
  where
    by : (a b : Bool) → b ≡ true → not a ≡ false → (a && b) ≡ true
    by true b reached out = reached
    by false b reached out = absurd (false≢true (sym out))

-- The rows that a walk gives from its start, those in the range, are those of the range.
pub from_start : (rows : RowMap) (forward : Bool) (from : List ℕ) (to : Option (List ℕ))
    → entries_between key_cmp (Included from) (end_bound to)
    (rows_from rows (start_of forward from to) forward)
    ≡ turned forward (entries_between key_cmp (Included from) (end_bound to) (entries rows))
from_start rows true from to = filter_twice (within from to) (walk_reaches true from to) (entries rows)
    (is_reached true from to)
from_start rows false from to =
    filter_back (within from to) (filter (λ e. walk_reaches false from to e.0) (entries rows))
    ∙ ap reverse (filter_twice (within from to) (walk_reaches false from to) (entries rows)
    (is_reached false from to))

-- and they are ahead
pub ahead_first : (rows : RowMap) (forward : Bool) (from : List ℕ) (to : Option (List ℕ))
    → AreAhead forward from to (rows_from rows (start_of forward from to) forward)
ahead_first rows forward from to = record {
  sorted = is_sorted-rows_from rows (start_of forward from to) forward;
  reached = by forward;
}
  where
    by : (forward : Bool) → AllByRecursion (λ e. walk_reaches forward from to e.0 ≡ true)
        (rows_from rows (start_of forward from to) forward)
    by true = all_passed (walk_reaches true from to) (entries rows)
    by false = all_back (λ e. walk_reaches false from to e.0 ≡ true)
        (filter (λ e. walk_reaches false from to e.0) (entries rows))
        (all_passed (walk_reaches false from to) (entries rows))

-- those behind the first are
pub ahead_next : (forward : Bool) (from : List ℕ) (to : Option (List ℕ)) (e : List ℕ × RowCells)
    (rest : RowList) → AreAhead forward from to (e ∷ rest) → AreAhead forward from to rest
ahead_next forward from to e rest are =
    record { sorted = second_holds _ _ are.sorted; reached = are.reached.1 }

-- a row ahead that isn't behind the range is the first of it
pub first_within : (forward : Bool) (from : List ℕ) (to : Option (List ℕ)) (e : List ℕ × RowCells)
    (rest : RowList) → AreAhead forward from to (e ∷ rest) → is_out forward from to e.0 ≡ false
    → entries_between key_cmp (Included from) (end_bound to) (e ∷ rest)
    ≡ e ∷ entries_between key_cmp (Included from) (end_bound to) rest
first_within forward from to e rest are out =
    ap (λ b. if b then e ∷ entries_between key_cmp (Included from) (end_bound to) rest
    else entries_between key_cmp (Included from) (end_bound to) rest)
    (is_within forward from to e.0 are.reached.0 out)

-- a key behind one that is out is out
out_behind : (forward : Bool) (from : List ℕ) (to : Option (List ℕ)) (k q : List ℕ)
    → walk_cmp forward k q ≡ Less → is_out forward from to k ≡ true → is_out forward from to q ≡ true
out_behind true from None k q before out = out
out_behind true from (Some to) k q before out =
    ap is_le (le_lt_trans key_total to k q (subst IsTrue (sym out) refl) before)
out_behind false from to k q before out = by (is_le (key_cmp from q)) refl
  where
    by : (b : Bool) → is_le (key_cmp from q) ≡ b → not b ≡ true
    by false is = refl
    by true is = absurd (false≢true (opposite (is_le (key_cmp from k)) out
        (ap is_le (le_lt_trans key_total from q k (subst IsTrue (sym is) refl) before))))
      where
        opposite : (a : Bool) → not a ≡ true → a ≡ true → false ≡ true
        opposite true out is = out
        opposite false out is = is

-- a key that is out isn't in the range
not_within : (forward : Bool) (from : List ℕ) (to : Option (List ℕ)) (k : List ℕ)
    → is_out forward from to k ≡ true → within from to k ≡ false
not_within true from None k out = absurd (false≢true out)
not_within true from (Some to) k out = by (is_le (key_cmp from k)) (is_le (key_cmp to k)) out
  where
    by : (a b : Bool) → b ≡ true → (a && not b) ≡ false
    by true true out = refl
    by true false out = absurd (false≢true out)
    by false b out = refl
not_within false from to k out = by (is_le (key_cmp from k)) _ out
  where
    by : (a b : Bool) → not a ≡ true → (a && b) ≡ false
    by true b out = absurd (false≢true out)
    by false b out = refl

-- Where the first is behind the range, all are.
pub none_within : (forward : Bool) (from : List ℕ) (to : Option (List ℕ)) (es : RowList)
    (k : List ℕ) → T (below_all (walk_cmp forward) k es) → is_out forward from to k ≡ true
    → entries_between key_cmp (Included from) (end_bound to) es ≡ []
none_within forward from to [] k below out = refl
none_within forward from to (e ∷ es) k below out =
    ap (λ b. if b then e ∷ entries_between key_cmp (Included from) (end_bound to) es
    else entries_between key_cmp (Included from) (end_bound to) es)
    (not_within forward from to e.0 (out_behind forward from to k e.0
    (is_lt-holds (walk_cmp forward k e.0) (first_holds _ _ below)) out))
    ∙ none_within forward from to es k (second_holds _ _ below) out

pub out_within : (forward : Bool) (from : List ℕ) (to : Option (List ℕ)) (e : List ℕ × RowCells)
    (rest : RowList) → AreAhead forward from to (e ∷ rest) → is_out forward from to e.0 ≡ true
    → entries_between key_cmp (Included from) (end_bound to) (e ∷ rest) ≡ []
out_within forward from to e rest are out =
    ap (λ b. if b then e ∷ entries_between key_cmp (Included from) (end_bound to) rest
    else entries_between key_cmp (Included from) (end_bound to) rest)
    (not_within forward from to e.0 out)
    ∙ none_within forward from to rest e.0 (first_holds _ _ are.sorted) out

-- ---- a family

-- After a seek to its start a walk has ahead what the rows show in the range.
pub ahead_start : (Left : RowList → Type 0) (rows : RowMap) (forward : Bool) (from : List ℕ)
    (to : Option (List ℕ)) → Left (rows_from rows (start_of forward from to) forward)
    → Ahead Left forward from to (shown_between rows from to forward)
ahead_start Left rows forward from to left = record {
  rest = rows_from rows (start_of forward from to) forward;
  left = left;
  are = ahead_first rows forward from to;
  shown = sym (ap (shown_of row_shown) (from_start rows forward from to));
}

-- the rows that a layout shows, in order
rows_shown : (l : Layout) (family : ℕ)
    → shown_of row_shown (entries (l.rows family)) ≡ entries (shown_rows l family)
unfolding shown_rows
rows_shown l family = sym (entries-from_sorted key_cmp (shown_of row_shown (entries (l.rows family)))
    (is_sorted-shown row_shown (entries (l.rows family)) (entries_sorted (l.rows family))))

-- what rows show in a range is what the layout shows there
pub shown_of_layout : (l : Layout) (family : ℕ) (from : List ℕ) (to : Option (List ℕ))
    (forward : Bool) → shown_between (l.rows family) from to forward
    ≡ rows_between l family from to forward
shown_of_layout l family from to forward =
    shown-turned row_shown forward (entries_between key_cmp (Included from) (end_bound to)
    (entries (l.rows family)))
    ∙ ap (turned forward) (shown-filter row_shown (within from to) (entries (l.rows family))
    ∙ ap (entries_between key_cmp (Included from) (end_bound to)) (rows_shown l family))

-- no rows
abbrev none_at_all : RowList
none_at_all = []

-- which show nothing
pub none_between : (rows : RowMap) (from : List ℕ) (to : Option (List ℕ)) (forward : Bool)
    → rows ≡ empty → shown_between rows from to forward ≡ []
none_between rows from to forward is =
    ap (λ (m : RowMap). shown_between m from to forward) is
    ∙ ap (λ (es : RowList). shown_of row_shown (turned forward
    (entries_between key_cmp (Included from) (end_bound to) es)))
    (ap entries (sym from_sorted-nil) ∙ entries-from_sorted key_cmp [] tt)
    ∙ by forward
  where
    by : (forward : Bool) → shown_of row_shown (turned forward
        (entries_between key_cmp (Included from) (end_bound to) (none_at_all))) ≡ []
    by true = refl
    by false = refl
