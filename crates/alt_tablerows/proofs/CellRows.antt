-- Rows with the cell of an index that is being built in front of the others, and rows whose columns are put one by one.
use Rattle.std.proofs.Common.{◌≡◌, ◌≢◌, refl, sym, ap, subst, ◌∙◌, ℕ, ◌+◌, ◌-◌, ◌<◌, ◌&&◌, T, List, [], ◌∷◌, ◌++◌, length, get_or, take, drop, Option, Some, None, arith}
use Rattle.std.proofs.lemmas.List.{append_assoc, take-append-drop, take_more}
use Rattle.std.specs.FinMap.{entries, entries-insert, entries_sorted, same_entries_map}
use Rattle.std.specs.FinMap.Entries.{below_all, by_order, is_sorted, put}
use Rattle.std.specs.Ordering.{is_lt}
use Rattle.std.specs.Prelude.{codes}
use Rattle.std.specs.declared.cmp.Ordering.{Ordering}
use Rattle.std.specs.declared.cmp.Ordering.TheVariants.{Less, Equal, Greater}
use Rattle.alt_base.proofs.Bools.{both_hold, second_holds}
use Rattle.alt_cells.proofs.CellLaws.{key_total}
use Rattle.alt_cells.specs.Changes.{Columns}
use Rattle.alt_cells.specs.Keys.{key_cmp}
use Rattle.alt_tablerows.specs.CatalogRows.{described_row, table_cells, with_built_cell}
use Rattle.alt_tablerows.specs.private.Cells.{AllBelow}
use Rattle.alt_tablerows.proofs.TableRow.{entries-described_row, behind_first, first_value}
use Rattle.alt_views.proofs.Columns.{sorted_front}

-- ---- columns in order

-- what is in order is so behind the first
pub sorted_behind : (e : List ℕ × List ℕ) (es : List (List ℕ × List ℕ))
    → T (is_sorted key_cmp (e ∷ es)) → T (is_sorted key_cmp es)
sorted_behind e es h = second_holds (below_all key_cmp e.0 es) (is_sorted key_cmp es) h

-- one more of the columns
pub one_more : (old columns : List (List ℕ × List ℕ)) (k : ℕ) (e d : List ℕ × List ℕ)
    → k < length columns → e ≡ get_or columns k d
    → (old ++ take k columns) ++ e ∷ [] ≡ old ++ take (k + 1) columns
one_more old columns k e d within at = append_assoc old (take k columns) (e ∷ [])
    ∙ ap (λ es. old ++ es) (ap (λ x. take k columns ++ x ∷ []) at
    ∙ sym (take_more columns k d within))

-- comes behind those that were put
pub one_rises : (old columns : List (List ℕ × List ℕ)) (k : ℕ) (e d : List ℕ × List ℕ)
    → k < length columns → e ≡ get_or columns k d → T (is_sorted key_cmp (old ++ columns))
    → T (is_sorted key_cmp ((old ++ take k columns) ++ e ∷ []))
one_rises old columns k e d within at rises =
    subst (λ es. T (is_sorted key_cmp es)) (sym (one_more old columns k e d within at))
    (sorted_front (old ++ take (k + 1) columns) (drop (k + 1) columns)
    (subst (λ es. T (is_sorted key_cmp es))
    (sym (append_assoc old (take (k + 1) columns) (drop (k + 1) columns)
    ∙ ap (λ es. old ++ es) (take-append-drop (k + 1) columns))) rises))

-- the first of them and the others
pub parted : (es : List (List ℕ × List ℕ)) (e : List ℕ × List ℕ) (name value : List ℕ)
    → length es ≢ 0 → e ≡ get_or es 0 e → e.0 ≡ name → value ≡ e.1
    → es ≡ (name, value) ∷ take (length es - 1) (drop 1 es)
parted [] e name value some at named valued = absurd (some refl)
parted (x ∷ xs) e name value some at named valued =
    (λ j. own j ∷ sym (take_all xs) j) ∙ ap (λ n. (name, value) ∷ take n xs) (omega arith)
  where
    own : x ≡ (name, value)
    own = sym at ∙ (λ k. (named k, sym valued k))

    take_all : (ys : List (List ℕ × List ℕ)) → take (length ys) ys ≡ ys
    take_all [] = refl
    take_all (y ∷ ys) = ap (λ zs. y ∷ zs) (take_all ys)

-- ---- the cell

-- what is below all is put in front
put_front : (name value : List ℕ) (es : List (List ℕ × List ℕ)) → T (below_all key_cmp name es)
    → put key_cmp name value es ≡ (name, value) ∷ es
put_front name value [] h = refl
put_front name value (e ∷ es) h = by (key_cmp name e.0) h
  where
    by : (o : Ordering) → T (is_lt o && below_all key_cmp name es)
        → by_order o ((name, value) ∷ e ∷ es) ((e.0, value) ∷ es) (e ∷ put key_cmp name value es)
        ≡ (name, value) ∷ e ∷ es
    by Less h = refl
    by Equal h = absurd h
    by Greater h = absurd h

-- and all are in order then
pub front_rises : (value : List ℕ) (row : Columns) → AllBelow (codes "b") (entries row)
    → T (is_sorted key_cmp ((codes "b", value) ∷ entries row))
front_rises value row below = both_hold (below_all key_cmp (codes "b") (entries row))
    (is_sorted key_cmp (entries row)) below (entries_sorted row)

-- so a row with the cell has it in front
pub entries-with_cell : (value : List ℕ) (row : Columns) → AllBelow (codes "b") (entries row)
    → entries (with_built_cell (Some value) row) ≡ (codes "b", value) ∷ entries row
entries-with_cell value row below = entries-insert key_total row (codes "b") value
    ∙ put_front (codes "b") value (entries row) below

-- the row without it
below_cells : (time : Option (List ℕ)) (bytes : List ℕ)
    → AllBelow (codes "b") (table_cells time bytes)
below_cells None bytes = tt
below_cells (Some name) bytes = tt

pub below_described : (time : Option (List ℕ)) (bytes : List ℕ)
    → AllBelow (codes "b") (entries (described_row time bytes))
below_described time bytes = subst (AllBelow (codes "b")) (sym (entries-described_row time bytes))
    (below_cells time bytes)

-- A row whose first column is the cell is that of the others with it.
pub row_with_cell : (row rest : Columns) (value : List ℕ) (time : Option (List ℕ))
    (bytes : List ℕ) → entries row ≡ (codes "b", value) ∷ entries rest
    → rest ≡ described_row time bytes
    → row ≡ with_built_cell (Some value) (described_row time bytes)
row_with_cell row rest value time bytes same is =
    same_entries_map row (with_built_cell (Some value) (described_row time bytes))
    (same ∙ ap (λ m. (codes "b", value) ∷ entries m) is
    ∙ sym (entries-with_cell value (described_row time bytes) (below_described time bytes)))

-- and the other way round
pub cell_of_row : (row : Columns) (value : List ℕ) (time : Option (List ℕ)) (bytes : List ℕ)
    → row ≡ with_built_cell (Some value) (described_row time bytes)
    → entries row ≡ (codes "b", value) ∷ entries (described_row time bytes)
cell_of_row row value time bytes is =
    ap entries is ∙ entries-with_cell value (described_row time bytes) (below_described time bytes)

-- the code of a column's name
abbrev first_code : List (List ℕ × List ℕ) → ℕ
first_code [] = 0
first_code (e ∷ es) = get_or e.0 0 0

-- A row of the description alone doesn't begin with the cell.
pub no_cell : (row : Columns) (value : List ℕ) (rest : List (List ℕ × List ℕ))
    (time : Option (List ℕ)) (bytes : List ℕ) → entries row ≡ (codes "b", value) ∷ rest
    → row ≡ described_row time bytes → ⊥
no_cell row value rest time bytes begins is =
    by time (ap first_code (sym (entries-described_row time bytes) ∙ ap entries (sym is) ∙ begins))
  where
    by : (o : Option (List ℕ)) → first_code (table_cells o bytes) ≡ 98 → ⊥
    by None e = let f : 116 ≡ 98 = e in omega (arith, f)
    by (Some name) e = let f : 108 ≡ 98 = e in omega (arith, f)

-- Two rows that begin with the cell and are one have one value there, and the same behind it.
pub same_cell : (v w : List ℕ) (rest : List (List ℕ × List ℕ)) (row : Columns)
    (time : Option (List ℕ)) (bytes : List ℕ) → entries row ≡ (codes "b", v) ∷ rest
    → row ≡ with_built_cell (Some w) (described_row time bytes)
    → (v ≡ w) × (rest ≡ entries (described_row time bytes))
same_cell v w rest row time bytes begins is =
    let e : (codes "b", v) ∷ rest ≡ (codes "b", w) ∷ entries (described_row time bytes) =
    sym begins ∙ cell_of_row row w time bytes is in
    (ap first_value e, ap behind_first e)
