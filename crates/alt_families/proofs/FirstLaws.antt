-- The families behind one, in order, and the first key that one of them shows.
use Rattle.std.proofs.Common.{◌≡◌, ◌≤◌, ◌<◌, ◌+◌, ◌==◌, ◌∷◌, ◌++◌, ◌⊎◌, T, ⊎_elim, inl, inr, ℕ, Bool, true, false, cond, List, [], length, map, take, Option, Some, None, refl, sym, ap, subst, ◌∙◌, arith, eqb-true, eq-eqb}
use Rattle.std.proofs.lemmas.Bool.Decides.{nat_tests}
use Rattle.std.specs.Prelude.{option_and_then, if◌then◌else◌, ◌&&◌}
use Rattle.std.specs.BTreeMap.{get as tree_get, is_at}
use Rattle.std.specs.BTreeMap.Range.{entries_between}
use Rattle.std.specs.Cmp.{eq_by_cmp_equiv, ranked}
use Rattle.std.specs.FinMap.{entries, entries_sorted, get, get-empty, get-entries}
use Rattle.std.specs.FinMap.Entries.{find, is_sorted}
use Rattle.std.specs.List.{AllByRecursion}
use Rattle.std.specs.List.Sorted.{IsStrictlySortedBy}
use Rattle.std.specs.Map.{lookup}
use Rattle.std.specs.Ordering.{nat_cmp, is_le, is_eq}
use Rattle.std.specs.declared.cmp.Ordering.{Ordering}
use Rattle.std.specs.declared.cmp.Ordering.TheVariants.{Less, Equal, Greater}
use Rattle.std.specs.declared.ops.Bound.TheVariants.{Included, Unbounded}
use Rattle.alt_base.proofs.Bools.{first_holds}
use Rattle.alt_cells.specs.Changes.{Columns}
use Rattle.alt_cells.specs.Keys.{key_cmp}
use Rattle.alt_cells.specs.Shown.{row_shown}
use Rattle.alt_cells.specs.Walks.{RowList}
use Rattle.alt_cells.proofs.CellLaws.{key_total}
use Rattle.alt_cells.proofs.Entries.{below_less, find_below}
use Rattle.alt_disk.specs.Disk.{DiskState}
use Rattle.alt_layout.specs.Layout.{RowMap, shown_of}
use Rattle.alt_layout.proofs.ShownLaws.{find-shown, is_sorted-shown}
use Rattle.alt_families.specs.Families.{Families}
use Rattle.alt_families.specs.First.{IsFirstKey}
use Rattle.alt_families.specs.Opened.{FamilyReads}
use Rattle.alt_families.specs.Ranges.{shown_between}
use Rattle.alt_families.specs.declared.family.Family.{Family}
use Rattle.alt_families.proofs.OpenLaws.{none_reads}

-- ---- one family

-- what rows show at a key
abbrev pub shown_at : RowMap → List ℕ → Option Columns
shown_at rows key = option_and_then row_shown (get rows key)

-- all rows are in the range of all keys
all_within : (es : RowList) → entries_between key_cmp (Included []) Unbounded es ≡ es
all_within [] = refl
all_within (e ∷ es) = by e.0 (all_within es)
  where
    by : (k : List ℕ) → entries_between key_cmp (Included []) Unbounded es ≡ es
        → (if is_le (key_cmp [] k) && true then e ∷ entries_between key_cmp (Included []) Unbounded es
        else entries_between key_cmp (Included []) Unbounded es) ≡ e ∷ es
    by [] rest = ap (λ l. e ∷ l) rest
    by (b ∷ bs) rest = ap (λ l. e ∷ l) rest

-- so a walk over it gives all that is shown
all_shown : (rows : RowMap) → shown_between rows [] None true ≡ shown_of row_shown (entries rows)
all_shown rows = ap (shown_of row_shown) (all_within (entries rows))

-- what is shown at a key is found among those
shown_found : (rows : RowMap) (q : List ℕ)
    → shown_at rows q ≡ find key_cmp q (shown_of row_shown (entries rows))
shown_found rows q = ap (option_and_then row_shown) (get-entries rows q)
    ∙ sym (find-shown row_shown q (entries rows) (entries_sorted rows))

-- the first of those that are shown
first_of_shown : (rows : RowMap) (shows : List (List ℕ × Columns))
    → shown_of row_shown (entries rows) ≡ shows → (e : List ℕ × Columns)
    → (rest : List (List ℕ × Columns)) → shows ≡ e ∷ rest → IsFirstKey (shown_at rows) e.0
first_of_shown rows shows is e rest one = record {
  shows = λ none. let bad : Some e.1 ≡ None = sym found ∙ none in cc bad;
  first = λ q less. at q ∙ ap (λ o. cond (is_eq o) (Some e.1) (find key_cmp q rest)) less
      ∙ find_below key_cmp key_total q rest (below_less key_cmp key_total q e.0 rest less
      (first_holds _ _ (subst (λ l. T (is_sorted key_cmp l)) (is ∙ one)
      (is_sorted-shown row_shown (entries rows) (entries_sorted rows)))));
}
  where
    at : (q : List ℕ) → shown_at rows q ≡ find key_cmp q (e ∷ rest)
    at q = shown_found rows q ∙ ap (find key_cmp q) (is ∙ one)

    found : shown_at rows e.0 ≡ Some e.1
    found = at e.0 ∙ ap (λ b. cond b (Some e.1) (find key_cmp e.0 rest))
        ((eq_by_cmp_equiv key_total).refl e.0)

-- the one row that a walk gives has the first key
pub key_given : (rows : RowMap) (out left : List (List ℕ × Columns)) (e : List ℕ × Columns)
    → out ≡ take 1 (shown_between rows [] None true) → out ≡ left ++ e ∷ []
    → IsFirstKey (shown_at rows) e.0
key_given rows out left e given popped =
    by (shown_of row_shown (entries rows)) refl
    (sym popped ∙ given ∙ ap (take 1) (all_shown rows))
  where
    by : (shows : List (List ℕ × Columns)) → shown_of row_shown (entries rows) ≡ shows
        → left ++ e ∷ [] ≡ take 1 shows → IsFirstKey (shown_at rows) e.0
    by [] is one = absurd (behind left one)
      where
        behind : (left : List (List ℕ × Columns)) → left ++ e ∷ [] ≡ [] → ⊥
        behind [] one = cc one
        behind (x ∷ xs) one = cc one
    by (x ∷ xs) is one = first_of_shown rows (x ∷ xs) is e xs
        (ap (λ y. y ∷ xs) (only left one))
      where
        only : (left : List (List ℕ × Columns)) → left ++ e ∷ [] ≡ x ∷ [] → x ≡ e
        only [] one = cc one
        only (y ∷ []) one = cc one
        only (y ∷ z ∷ zs) one = cc one

-- and where it gives none, none is shown
pub none_given : (rows : RowMap) (out : List (List ℕ × Columns))
    → out ≡ take 1 (shown_between rows [] None true) → length out ≡ 0
    → (q : List ℕ) → shown_at rows q ≡ None
none_given rows out given none q =
    by (shown_of row_shown (entries rows)) refl
    (sym (empty_of out none) ∙ given ∙ ap (take 1) (all_shown rows))
  where
    empty_of : (out : List (List ℕ × Columns)) → length out ≡ 0 → out ≡ []
    empty_of [] none = refl
    empty_of (x ∷ xs) none = absurd (omega (arith, none))

    by : (shows : List (List ℕ × Columns)) → shown_of row_shown (entries rows) ≡ shows
        → [] ≡ take 1 shows → shown_at rows q ≡ None
    by [] is one = shown_found rows q ∙ ap (find key_cmp q) is
    by (x ∷ xs) is one = cc one

-- ---- families in order

-- families by their numbers
abbrev pub FamilyList : Type 0
FamilyList = List (ℕ × Family)

-- what is shown of the families among these
abbrev pub shown_among : (ℕ → List ℕ → Option Columns) → FamilyList → ℕ → List ℕ → Option Columns
shown_among rows [] f k = None
shown_among rows (e ∷ es) f k = if e.0 == f then rows f k else shown_among rows es f k

-- each has a number from this one on, and they rise
abbrev pub AreFrom : ℕ → FamilyList → Type 0
AreFrom n [] = Unit {0}
AreFrom n (e ∷ es) = (n ≤ e.0) × AreFrom (e.0 + 1) es

-- a lower bound of lower bounds
pub lower_from : (es : FamilyList) (m n : ℕ) → m ≤ n → AreFrom n es → AreFrom m es
lower_from [] m n le from = tt
lower_from (e ∷ es) m n le from = ((let l = from.0 in omega arith), from.1)

module _ (rows : ℕ → List ℕ → Option Columns) where
  -- a family below all shows no row
  pub among-before : (es : FamilyList) (n f : ℕ) (k : List ℕ) → AreFrom n es → f < n
      → shown_among rows es f k ≡ None
  among-before [] n f k from low = refl
  among-before (e ∷ es) n f k from low =
      let other : (e.0 == f) ≡ false = (let less = from.0 in grind (arith, nat_tests, less)) in
      ap (λ b. if b then rows f k else shown_among rows es f k) other
      ∙ among-before es (e.0 + 1) f k from.1 (let less = from.0 in omega arith)

  -- a family that shows no row may be left out
  pub without_first : (e : ℕ × Family) (es : FamilyList) (n f : ℕ) (k : List ℕ)
      → AreFrom n (e ∷ es) → ((q : List ℕ) → rows e.0 q ≡ None)
      → shown_among rows (e ∷ es) f k ≡ shown_among rows es f k
  without_first e es n f k from none = by (e.0 == f) refl
    where
      by : (b : Bool) → (e.0 == f) ≡ b
          → (if b then rows f k else shown_among rows es f k) ≡ shown_among rows es f k
      by true is = let same : e.0 ≡ f = eqb-true e.0 f is in
          ap (λ g. rows g k) (sym same) ∙ none k
          ∙ sym (among-before es (e.0 + 1) f k from.1 (omega (arith, same)))
      by false is = refl

  -- those from one on
  pub among-from : (es : FamilyList) (n f : ℕ) (k : List ℕ) → n ≤ f
      → shown_among rows (entries_between nat_cmp (Included n) Unbounded es) f k
      ≡ shown_among rows es f k
  among-from [] n f k low = refl
  among-from (e ∷ es) n f k low = by (among-from es n f k low) (nat_cmp n e.0) refl
    where
      by : shown_among rows (entries_between nat_cmp (Included n) Unbounded es) f k
          ≡ shown_among rows es f k → (o : Ordering) → o ≡ nat_cmp n e.0
          → shown_among rows (if is_le o && true
          then e ∷ entries_between nat_cmp (Included n) Unbounded es
          else entries_between nat_cmp (Included n) Unbounded es) f k
          ≡ (if e.0 == f then rows f k else shown_among rows es f k)
      by rest Less is = ap (λ r. if e.0 == f then rows f k else r) rest
      by rest Equal is = ap (λ r. if e.0 == f then rows f k else r) rest
      by rest Greater is =
          let above = ranked n e.0 Greater is in
          let other : (e.0 == f) ≡ false = grind (arith, nat_tests, above, low) in
          rest ∙ sym (ap (λ b. if b then rows f k else shown_among rows es f k) other)

  -- a family that is none of these shows no row, and then they are all
  pub among-all : (es : FamilyList) (f : ℕ) (k : List ℕ)
      → (lookup (is_at (nat_cmp f)) es ≡ None → rows f k ≡ None)
      → rows f k ≡ shown_among rows es f k
  among-all [] f k none = none refl
  among-all (e ∷ es) f k none = by (λ absent. among-all es f k absent) (e.0 == f) refl
    where
      not_equal : (e.0 == f) ≡ false → (o : Ordering) → o ≡ nat_cmp f e.0 → is_eq o ≡ false
      not_equal other Less is = refl
      not_equal other Equal is = let r = ranked f e.0 Equal is in
          let n : true ≡ false = sym (eq-eqb e.0 f (sym r)) ∙ other in cc n
      not_equal other Greater is = refl

      by : ((lookup (is_at (nat_cmp f)) es ≡ None → rows f k ≡ None)
          → rows f k ≡ shown_among rows es f k) → (b : Bool) → (e.0 == f) ≡ b
          → rows f k ≡ (if b then rows f k else shown_among rows es f k)
      by rest true is = refl
      by rest false is = rest (λ absent. none
          (ap (λ b. cond b (Some e.1) (lookup (is_at (nat_cmp f)) es))
          (not_equal is (nat_cmp f e.0) refl) ∙ absent))

-- a family that the tree doesn't have shows nothing
pub tree_shows : (s : DiskState) (families : Families) (rows : ℕ → RowMap)
    → ((f : ℕ) → FamilyReads s (tree_get nat_cmp families f) (rows f)) → (f : ℕ) (k : List ℕ)
    → shown_at (rows f) k ≡ shown_among (λ g. shown_at (rows g)) families.entries f k
tree_shows s families rows reads f k =
    among-all (λ g. shown_at (rows g)) families.entries f k
    (λ absent. ap (λ (m : RowMap). shown_at m k) (none_reads s (rows f)
    (subst (λ o. FamilyReads s o (rows f)) absent (reads f)))
    ∙ ap (option_and_then row_shown) (get-empty key_cmp k))

-- keys that rise
rising : (es : FamilyList) (n : ℕ) → IsStrictlySortedBy nat_cmp (map (λ e. e.0) es)
    → AllByRecursion (λ m. n ≤ m) (map (λ e. e.0) es) → AreFrom n es
unfolding IsStrictlySortedBy
rising [] n sorted from = tt
rising (e ∷ es) n sorted from =
    (from.0, rising es (e.0 + 1) sorted.1 (later es sorted.0))
  where
    later : (es : FamilyList) → AllByRecursion (λ m. nat_cmp e.0 m ≡ Less) (map (λ e. e.0) es)
        → AllByRecursion (λ m. e.0 + 1 ≤ m) (map (λ e. e.0) es)
    later [] h = tt
    later (d ∷ ds) h = (let r = ranked e.0 d.0 Less (sym h.0) in omega arith, later ds h.1)

-- each is a number
from_zero : (es : FamilyList) → AllByRecursion (λ m. 0 ≤ m) (map (λ e. e.0) es)
from_zero [] = tt
from_zero (e ∷ es) = (omega arith, from_zero es)

-- those from one on are from it, or from where all are
from_between : (es : FamilyList) (m n q : ℕ) → AreFrom m es → (q ≤ m) ⊎ (q ≤ n)
    → AreFrom q (entries_between nat_cmp (Included n) Unbounded es)
from_between [] m n q from low = tt
from_between (e ∷ es) m n q from low =
    by (nat_cmp n e.0) refl (from_between es (e.0 + 1) n (e.0 + 1) from.1 (inl (omega arith)))
    (from_between es (e.0 + 1) n q from.1 (⊎_elim
    (λ (a : q ≤ m). (let l = from.0 in let h : (q ≤ e.0 + 1) ⊎ (q ≤ n) = inl (omega arith) in h))
    (λ (b : q ≤ n). (let h : (q ≤ e.0 + 1) ⊎ (q ≤ n) = inr b in h)) low))
  where
    above : n ≤ e.0 → q ≤ e.0
    above le = ⊎_elim (λ (a : q ≤ m). (let l = from.0 in let h : q ≤ e.0 = omega arith in h))
        (λ (b : q ≤ n). (let h : q ≤ e.0 = omega arith in h)) low

    by : (o : Ordering) → o ≡ nat_cmp n e.0
        → AreFrom (e.0 + 1) (entries_between nat_cmp (Included n) Unbounded es)
        → AreFrom q (entries_between nat_cmp (Included n) Unbounded es)
        → AreFrom q (if is_le o && true then e ∷ entries_between nat_cmp (Included n) Unbounded es
        else entries_between nat_cmp (Included n) Unbounded es)
    by Less is kept rest = (above (let r = ranked n e.0 Less is in omega arith), kept)
    by Equal is kept rest = (above (let r = ranked n e.0 Equal is in omega arith), kept)
    by Greater is kept rest = rest

-- the families of a tree, from one on
pub families_from : (families : Families) (n : ℕ)
    → IsStrictlySortedBy nat_cmp (map (λ e. e.0) families.entries)
    → AreFrom n (entries_between nat_cmp (Included n) Unbounded families.entries)
families_from families n sorted = from_between families.entries 0 n n
    (rising families.entries 0 sorted (from_zero families.entries)) (inr (omega arith))
