-- Rows of one column.
use Rattle.std.proofs.Common.{◌≡◌, ◌≢◌, ◌≤◌, ◌<◌, refl, sym, ap, ◌∙◌, ℕ, true, false, List, [], ◌∷◌, length, get_or, arith}
use Rattle.std.proofs.lemmas.Slice.Eq.{bytes_eq-Decides}
use Rattle.std.specs.Str.{bytes_eq}
use Rattle.std.specs.FinMap.{entries, entries-insert, entries-from_sorted, from_sorted, empty, empty_of_len, len-entries, same_entries_map}
use Rattle.std.specs.FinMap.Entries.{put}
use Rattle.alt_cells.specs.Changes.{Columns}
use Rattle.alt_cells.specs.Keys.{key_cmp}
use Rattle.alt_cells.proofs.CellLaws.{key_total}
use Rattle.alt_tablerows.specs.CatalogRows.{one_column}

-- no entries are the empty map
pub map-nothing : {X : Type 0} → from_sorted {X = X} {R = key_cmp} [] ≡ empty
map-nothing = empty_of_len (from_sorted {R = key_cmp} []) (len-entries (from_sorted {R = key_cmp} [])
    ∙ ap length (entries-from_sorted key_cmp [] tt))

empty_list : entries (from_sorted {X = List ℕ} {R = key_cmp} []) ≡ []
empty_list = entries-from_sorted key_cmp [] tt

-- its entries
pub entries-one_column : (name value : List ℕ) → entries (one_column name value)
    ≡ (name, value) ∷ []
entries-one_column name value = entries-insert key_total empty name value
    ∙ ap (put key_cmp name value) (ap entries (sym map-nothing)
    ∙ empty_list)

-- a row with that one entry
pub one_entry : (row : Columns) (name value : List ℕ) → entries row ≡ (name, value) ∷ []
    → row ≡ one_column name value
one_entry row name value same = same_entries_map row (one_column name value)
    (same ∙ sym (entries-one_column name value))

-- the one entry of such a row
pub same_entry : (es : List (List ℕ × List ℕ)) (row : Columns) (name value : List ℕ)
    (e : List ℕ × List ℕ) → es ≡ entries row → es ≡ e ∷ [] → row ≡ one_column name value
    → e ≡ (name, value)
same_entry es row name value e at is same = ap head (sym is ∙ at ∙ ap entries same
    ∙ entries-one_column name value)
  where
    head : List (List ℕ × List ℕ) → List ℕ × List ℕ
    head [] = e
    head (x ∷ xs) = x

-- there is no more
pub one_long : (es : List (List ℕ × List ℕ)) (row : Columns) (name value : List ℕ)
    → es ≡ entries row → length es ≢ 1 → row ≡ one_column name value → ⊥
one_long es row name value at long same =
    long (ap length (at ∙ ap entries same ∙ entries-one_column name value))

-- a list of one
pub single : (es : List (List ℕ × List ℕ)) (e : List ℕ × List ℕ) → 1 ≤ length es → length es < 2
    → e ≡ get_or es 0 e → es ≡ e ∷ []
single [] e low high at = absurd (omega arith)
single (x ∷ []) e low high at = ap (λ y. y ∷ []) (sym at)
single (x ∷ y ∷ ys) e low high at = absurd (omega arith)

-- equal bytes are told to be
pub bytes_differ : (a b : List ℕ) → bytes_eq a b ≡ false → a ≡ b → ⊥
bytes_differ a b e same = let f : false ≡ true = sym e ∙ (bytes_eq-Decides a b).1 same in cc

-- rows of one column with one name have one value
pub one_value : (name v w : List ℕ) → one_column name v ≡ one_column name w → v ≡ w
one_value name v w same = ap (λ (e : List ℕ × List ℕ). e.1)
    (same_entry (entries (one_column name v)) (one_column name v) name w (name, v) refl
    (entries-one_column name v) same)
