-- What a compaction without tombstones leaves of a map of rows, as a map: each row, purged.
use Rattle.std.proofs.Common.{◌≡◌, ◌<◌, ℕ, Bool, true, false, cond, T, List, [], ◌∷◌, ◌++◌, Option, Some, None, refl, sym, ap, subst, ◌∙◌, eqb-true}
use Rattle.std.proofs.lemmas.Bool.{false≢true}
use Rattle.std.specs.Prelude.{◌&&◌, ◌==◌, not, if◌then◌else◌, option_and_then, is_none, is_some, unwrap_or}
use Rattle.std.specs.FinMap.{empty_of_len, entries, entries_sorted, from_sorted, get, get-empty, get-entries, get-from_sorted, entries-from_sorted, len}
use Rattle.std.specs.FinMap.Entries.{find, is_sorted, below_all}
use Rattle.std.specs.Ordering.{eq_by_cmp}
use Rattle.alt_base.proofs.Bools.{both_hold, first_holds, second_holds}
use Rattle.alt_base.proofs.Orderings.{is_eq-holds}
use Rattle.alt_cells.specs.declared.cell.Cell.{Cell}
use Rattle.alt_cells.specs.declared.row.RowCells.{RowCells}
use Rattle.alt_cells.specs.Changes.{IsRowBelow}
use Rattle.alt_cells.specs.Compacted.{compacted, compacted_row, is_bare, is_kept}
use Rattle.alt_cells.specs.Keys.{key_cmp}
use Rattle.alt_cells.specs.Shown.{is_hidden, value_shown}
use Rattle.alt_cells.specs.Walks.{RowList}
use Rattle.alt_cells.proofs.CellLaws.{key_total, key_exact}
use Rattle.alt_cells.proofs.CompactLaws.{get-compacted}
use Rattle.alt_cells.proofs.Entries.{find_below}
use Rattle.alt_layout.specs.Families.{IsMapBelow}
use Rattle.alt_layout.specs.Layout.{RowMap}
use Rattle.alt_layout.specs.Merged.{IsCompaction}
use Rattle.alt_layout.specs.Merges.{IsPurged, IsPurgedMap, PurgedTo, kept_cell}

-- ---- one row

-- the row that is left, none where nothing is
abbrev left_of : RowCells → Option RowCells
left_of row = if is_bare (compacted_row true row) then None else Some (compacted_row true row)

-- a cell is kept exactly where it shows a value
same_kept : (gone : Option ℕ) (c : Cell)
    → (if is_kept true gone c then Some c else None) ≡ kept_cell gone c
same_kept gone c = by_test (is_hidden gone c) c.value
  where
    by_test : (b : Bool) (v : Option (List ℕ))
        → (if not b && not (true && is_none v) then Some c else None)
        ≡ (if is_some (if b then None else v) then Some c else None)
    by_test true v = refl
    by_test false None = refl
    by_test false (Some x) = refl

same_cells : (gone : Option ℕ) (o : Option Cell)
    → option_and_then (λ c. if is_kept true gone c then Some c else None) o
    ≡ option_and_then (kept_cell gone) o
same_cells gone None = refl
same_cells gone (Some c) = same_kept gone c

-- a cell of it is one that was kept
cells_purged : (row : RowCells) (q : List ℕ)
    → get (compacted_row true row).cells q ≡ option_and_then (kept_cell row.gone) (get row.cells q)
cells_purged row q = get-compacted true row q ∙ same_cells row.gone (get row.cells q)

gone_purged : (row : RowCells) → (compacted_row true row).gone ≡ None
unfolding compacted_row
gone_purged row = refl

-- the row is purged
row_purged : (row : RowCells) → IsPurged row (compacted_row true row)
row_purged row = record { gone = gone_purged row; cells = cells_purged row }

-- a row of which nothing is left shows nothing
bare_cells : (row : RowCells) → is_bare row ≡ true → (q : List ℕ) → get row.cells q ≡ None
bare_cells row bare q =
    ap (λ m. get m q) (empty_of_len row.cells (eqb-true (len row.cells) 0
    (right (is_none row.gone) (len row.cells == 0) bare))) ∙ get-empty key_cmp q
  where
    right : (a b : Bool) → (a && b) ≡ true → b ≡ true
    right true b e = e
    right false b e = absurd (false≢true e)

-- a row or none
purged_to : (o : Option RowCells) → PurgedTo o (option_and_then left_of o)
purged_to None = tt
purged_to (Some row) = by_test (is_bare (compacted_row true row)) refl
  where
    by_test : (b : Bool) → is_bare (compacted_row true row) ≡ b
        → PurgedTo (Some row) (if b then None else Some (compacted_row true row))
    by_test true bare = λ q. sym (cells_purged row q) ∙ bare_cells (compacted_row true row) bare q
    by_test false bare = row_purged row

-- ---- rows in order

-- a key below rows is below what is left of them
below-compacted : (k : List ℕ) (es : RowList) → T (below_all key_cmp k es)
    → T (below_all key_cmp k (compacted true es))
below-compacted k [] h = tt
below-compacted k (e ∷ es) h =
    let rest = below-compacted k es (second_holds _ _ h) in
    elim (is_bare (compacted_row true e.1)) as (λ b. T (below_all key_cmp k
    ((if b then [] else ((e.0, compacted_row true e.1) ∷ [])) ++ compacted true es))) [
      | true ↦ rest
      | false ↦ both_hold _ _ (first_holds _ _ h) rest
    ]

-- what is left of rows in order is in order
sorted-compacted : (es : RowList) → T (is_sorted key_cmp es)
    → T (is_sorted key_cmp (compacted true es))
sorted-compacted [] h = tt
sorted-compacted (e ∷ es) h =
    let rest = sorted-compacted es (second_holds _ _ h) in
    elim (is_bare (compacted_row true e.1)) as (λ b. T (is_sorted key_cmp
    ((if b then [] else ((e.0, compacted_row true e.1) ∷ [])) ++ compacted true es))) [
      | true ↦ rest
      | false ↦ both_hold _ _ (below-compacted e.0 es (first_holds _ _ h)) rest
    ]

-- and is found by its key
find-compacted : (q : List ℕ) (es : RowList) → T (is_sorted key_cmp es)
    → find key_cmp q (compacted true es) ≡ option_and_then left_of (find key_cmp q es)
find-compacted q [] h = refl
find-compacted q (e ∷ es) h =
    by (find-compacted q es (second_holds _ _ h)) (is_bare (compacted_row true e.1)) refl
    (eq_by_cmp key_cmp q e.0) refl
  where
    none : eq_by_cmp key_cmp q e.0 ≡ true → find key_cmp q (compacted true es) ≡ None
    none tied = ap (λ (k : List ℕ). find key_cmp k (compacted true es))
        (key_exact q e.0 (is_eq-holds _ (subst T (sym tied) tt)))
        ∙ find_below key_cmp key_total e.0 (compacted true es)
        (below-compacted e.0 es (first_holds _ _ h))

    left_is : (b : Bool) → is_bare (compacted_row true e.1) ≡ b
        → left_of e.1 ≡ (if b then None else Some (compacted_row true e.1))
    left_is b is = ap (λ (b : Bool). if b then None else Some (compacted_row true e.1)) is

    by : find key_cmp q (compacted true es) ≡ option_and_then left_of (find key_cmp q es)
        → (b : Bool) → is_bare (compacted_row true e.1) ≡ b
        → (t : Bool) → eq_by_cmp key_cmp q e.0 ≡ t
        → find key_cmp q ((if b then [] else ((e.0, compacted_row true e.1) ∷ []))
        ++ compacted true es)
        ≡ option_and_then left_of (cond t (Some e.1) (find key_cmp q es))
    by rest true is true tied = none tied ∙ sym (left_is true is)
    by rest true is false other = rest
    by rest false is true tied =
        ap (λ t. cond t (Some (compacted_row true e.1)) (find key_cmp q (compacted true es))) tied
        ∙ sym (left_is false is)
    by rest false is false other =
        ap (λ t. cond t (Some (compacted_row true e.1)) (find key_cmp q (compacted true es))) other
        ∙ rest

-- ---- a map of rows

-- what is left of it
pub compaction : RowMap → RowMap
compaction m = from_sorted (compacted true (entries m))

-- each of its rows is a row of the map, purged
get-compaction : (m : RowMap) (key : List ℕ)
    → get (compaction m) key ≡ option_and_then left_of (get m key)
unfolding compaction
get-compaction m key =
    get-from_sorted key_cmp (compacted true (entries m)) key
    (sorted-compacted (entries m) (entries_sorted m))
    ∙ find-compacted key (entries m) (entries_sorted m)
    ∙ ap (option_and_then left_of) (sym (get-entries m key))

entries-compaction : (m : RowMap) → entries (compaction m) ≡ compacted true (entries m)
unfolding compaction
entries-compaction m =
    entries-from_sorted key_cmp (compacted true (entries m))
    (sorted-compacted (entries m) (entries_sorted m))

-- a purged row has no other timestamps
purged_below : (number : ℕ) (row purged : RowCells) → IsPurged row purged → IsRowBelow number row
    → IsRowBelow number purged
purged_below number row purged is below = record {
  gone = λ g e. let no : None ≡ Some g = sym is.gone ∙ e in cc no;
  cells = λ q c e. kept_one (get row.cells q) (below.cells q) c (sym (is.cells q) ∙ e);
}
  where
    kept_one : (o : Option Cell) → ((c : Cell) → o ≡ Some c → c.at < number) → (d : Cell)
        → option_and_then (kept_cell row.gone) o ≡ Some d → d.at < number
    kept_one None below d e = let no : None ≡ Some d = e in cc no
    kept_one (Some c) below d e = by_test (is_some (value_shown row.gone c)) e
      where
        by_test : (t : Bool) → (if t then Some c else None) ≡ Some d → d.at < number
        by_test true e = below d e
        by_test false e = let no : None ≡ Some d = e in cc no

-- nor has a purged map
purged_map_below : (number : ℕ) (m p : RowMap) → IsPurgedMap m p → IsMapBelow number m
    → IsMapBelow number p
purged_map_below number m p purged below key row e =
    by_row (get m key) (get p key) (purged key) (below key) row e
  where
    by_row : (o l : Option RowCells) → PurgedTo o l
        → ((row : RowCells) → o ≡ Some row → IsRowBelow number row) → (row : RowCells)
        → l ≡ Some row → IsRowBelow number row
    by_row o None is below row e = let no : None ≡ Some row = e in cc no
    by_row None (Some p) is below row e = absurd is
    by_row (Some r) (Some p) is below row e =
        subst (IsRowBelow number) (ap (λ o. unwrap_or o row) e)
        (purged_below number r p is (below r refl))

-- What a compaction leaves of a map is a map of its rows, purged.
pub compaction_is : (m : RowMap) → IsCompaction m (compaction m)
compaction_is m =
    let purged : IsPurgedMap m (compaction m) =
    λ key. subst (PurgedTo (get m key)) (sym (get-compaction m key)) (purged_to (get m key)) in
    record {
      are = entries-compaction m;
      purged = purged;
      below = λ number below. purged_map_below number m (compaction m) purged below;
    }
