-- The row of a table tells its description.
use Rattle.std.proofs.Common.{◌≡◌, ◌≢◌, refl, sym, ap, subst, ◌∙◌, ℕ, true, List, [], ◌∷◌, ◌++◌, length, get_or, Option, Some, None, arith, cond, false}
use Rattle.std.specs.List.{list_all}
use Rattle.std.specs.Prelude.{T, codes}
use Rattle.std.specs.FinMap.{entries, entries-from_sorted, same_entries_map}
use Rattle.std.specs.FinMap as map
use Rattle.std.specs.FinMap.Entries.{is_sorted}
use Rattle.std.specs.Ordering.{eq_by_cmp}
use Rattle.alt_cells.proofs.CellLaws.{key_total}
use Rattle.alt_cells.specs.Changes.{Columns}
use Rattle.alt_cells.specs.Keys.{key_cmp}
use Rattle.alt_schema.specs.Bare.{bare, is_whole}
use Rattle.alt_schema.specs.Described.{IsDescription}
use Rattle.alt_schemabytes.specs.Format.{description_bytes}
use Rattle.alt_schema.specs.Indexes.{indexes}
use Rattle.alt_schema.specs.declared.schema.TableSchema.{TableSchema}
use Rattle.alt_schema.proofs.BareLaws.{bare_whole, timed_described}
use Rattle.alt_schemabytes.proofs.BareBytes.{description_bytes-timed}
use Rattle.alt_tablerows.specs.CatalogRows.{described_row, one_column, table_cells, table_row, plain_row, built_cell, with_built_cell}
use Rattle.alt_tablerows.proofs.OneColumn.{entries-one_column}

-- its cells stand in the order of their names
pub cells_rise : (time : Option (List ℕ)) (bytes : List ℕ)
    → T (is_sorted key_cmp (table_cells time bytes))
cells_rise None bytes = tt
cells_rise (Some name) bytes = tt

-- they are its entries
pub entries-described_row : (time : Option (List ℕ)) (bytes : List ℕ)
    → entries (described_row time bytes) ≡ table_cells time bytes
entries-described_row time bytes =
    entries-from_sorted key_cmp (table_cells time bytes) (cells_rise time bytes)

-- a row with those entries
pub row_of_cells : (row : Columns) (time : Option (List ℕ)) (bytes : List ℕ)
    → entries row ≡ table_cells time bytes → row ≡ described_row time bytes
row_of_cells row time bytes same = same_entries_map row (described_row time bytes)
    (same ∙ sym (entries-described_row time bytes))

-- one without a time to live is of one column
pub one_described : (bytes : List ℕ) → one_column (codes "t") bytes ≡ described_row None bytes
one_described bytes = row_of_cells (one_column (codes "t") bytes) None bytes
    (entries-one_column (codes "t") bytes)

-- the value of the first cell
abbrev pub first_value : List (List ℕ × List ℕ) → List ℕ
first_value [] = []
first_value (e ∷ es) = e.1

-- what is behind it
abbrev pub behind_first : List (List ℕ × List ℕ) → List (List ℕ × List ℕ)
behind_first [] = []
behind_first (e ∷ es) = es

-- the cells tell both
cells_tell : (o p : Option (List ℕ)) (v w : List ℕ) → table_cells o v ≡ table_cells p w
    → (o ≡ p) × (v ≡ w)
cells_tell None None v w same = (refl, ap first_value same)
cells_tell None (Some n) v w same = absurd (omega (arith, ap length same))
cells_tell (Some m) None v w same = absurd (omega (arith, ap length same))
cells_tell (Some m) (Some n) v w same = (
  ap Some (ap first_value same),
  ap (λ es. first_value (behind_first es)) same,
)

-- and so does the row
pub row_tells : (o p : Option (List ℕ)) (v w : List ℕ) → described_row o v ≡ described_row p w
    → (o ≡ p) × (v ≡ w)
row_tells o p v w same = cells_tell o p v w
    (sym (entries-described_row o v) ∙ ap entries same ∙ entries-described_row p w)

-- two rows that are one tell the same
pub told_alike : (row : Columns) (o p : Option (List ℕ)) (v w : List ℕ)
    → row ≡ described_row o v → row ≡ described_row p w → (o ≡ p) × (v ≡ w)
told_alike row o p v w is also = row_tells o p v w (sym is ∙ also)

-- ---- rows of two cells

-- a list of two
pub double : (es : List (List ℕ × List ℕ)) (d e : List ℕ × List ℕ) → length es ≡ 2
    → d ≡ get_or es 0 d → e ≡ get_or es 1 e → es ≡ d ∷ e ∷ []
double [] d e long at also = absurd (omega (arith, long))
double (x ∷ []) d e long at also = absurd (omega (arith, long))
double (x ∷ y ∷ []) d e long at also = λ j. sym at j ∷ sym also j ∷ []
double (x ∷ y ∷ z ∷ es) d e long at also = absurd (omega (arith, long))

-- a row of those two is a table's, where they have the names
pub two_cells : (row : Columns) (es : List (List ℕ × List ℕ)) (d e : List ℕ × List ℕ)
    → es ≡ entries row → es ≡ d ∷ e ∷ [] → d.0 ≡ codes "l" → e.0 ≡ codes "t"
    → row ≡ described_row (Some d.1) e.1
two_cells row es d e at is time table = row_of_cells row (Some d.1) e.1
    (sym at ∙ is ∙ (λ j. (time j, d.1) ∷ (table j, e.1) ∷ []))

-- the second of them comes behind the first
pub rises_then : (row : Columns) (a b v w : List ℕ) → entries row ≡ (a, v) ∷ [] → a ≡ codes "l"
    → b ≡ codes "t" → T (is_sorted key_cmp (entries row ++ (b, w) ∷ []))
rises_then row a b v w is first second =
    subst (λ es. T (is_sorted key_cmp (es ++ (b, w) ∷ []))) (sym is)
    (subst (λ x. T (is_sorted key_cmp ((x, v) ∷ (b, w) ∷ []))) (sym first)
    (subst (λ y. T (is_sorted key_cmp ((codes "l", v) ∷ (y, w) ∷ []))) (sym second) tt))

-- and both are the row
pub two_pushed : (row : Columns) (a b v w : List ℕ) → entries row ≡ (a, v) ∷ (b, w) ∷ []
    → a ≡ codes "l" → b ≡ codes "t" → row ≡ described_row (Some v) w
two_pushed row a b v w is first second = row_of_cells row (Some v) w
    (is ∙ (λ j. (first j, v) ∷ (second j, w) ∷ []))

-- a table's row has no other number of them
pub not_two : (row : Columns) (es : List (List ℕ × List ℕ)) (name bytes : List ℕ)
    → es ≡ entries row → length es ≢ 2 → row ≡ described_row (Some name) bytes → ⊥
not_two row es name bytes at other is =
    other (ap length (at ∙ ap entries is ∙ entries-described_row (Some name) bytes))

-- the name of the first
abbrev first_name : List (List ℕ × List ℕ) → List ℕ
first_name [] = []
first_name (e ∷ es) = e.0

-- they have those names
pub names_two : (row : Columns) (es : List (List ℕ × List ℕ)) (d e : List ℕ × List ℕ)
    (name bytes : List ℕ) → es ≡ entries row → es ≡ d ∷ e ∷ []
    → row ≡ described_row (Some name) bytes → (d.0 ≡ codes "l") × (e.0 ≡ codes "t")
names_two row es d e name bytes at is same =
    let cells : d ∷ e ∷ [] ≡ table_cells (Some name) bytes =
    sym is ∙ at ∙ ap entries same ∙ entries-described_row (Some name) bytes in
    (ap first_name cells, ap (λ xs. first_name (behind_first xs)) cells)

-- A row that is neither of the description alone nor of both is no table's.
pub none_told : (row : Columns) (time : Option (List ℕ)) (bytes : List ℕ)
    → ((value : List ℕ) → row ≡ one_column (codes "t") value → ⊥)
    → ((name value : List ℕ) → row ≡ described_row (Some name) value → ⊥)
    → row ≡ described_row time bytes → ⊥
none_told row None bytes alone both is = alone bytes (is ∙ sym (one_described bytes))
none_told row (Some name) bytes alone both is = both name bytes is

-- ---- what a row tells

-- each index of it is whole
abbrev pub AllWhole : TableSchema → Type 0
AllWhole d = list_all (λ i. is_whole i.built) (indexes d) ≡ true

-- a description of these bytes with another time to live has the row of both
pub row_timed : (row : Columns) (o ttl : Option (List ℕ)) (bytes : List ℕ) (s d : TableSchema)
    → row ≡ described_row o bytes → ttl ≡ o → bytes ≡ description_bytes s
    → d ≡ record s { ttl = ttl } → row ≡ plain_row d
row_timed row o ttl bytes s d is same told timed =
    is ∙ (λ j. described_row (sym same j) (told j))
    ∙ ap (described_row ttl) (sym (description_bytes-timed s ttl)) ∙ ap plain_row (sym timed)

-- and is one
pub timed_is : (ttl : Option (List ℕ)) (s d : TableSchema) → IsDescription s
    → d ≡ record s { ttl = ttl } → IsDescription d
timed_is ttl s d is timed = subst IsDescription (sym timed) (timed_described s ttl is)

-- and where nothing stands beside its bytes, its indexes are whole
pub timed_whole : (ttl : Option (List ℕ)) (s d : TableSchema) → bare s ≡ s
    → d ≡ record s { ttl = ttl } → AllWhole d
timed_whole ttl s d same timed =
    subst (λ x. list_all (λ i. is_whole i.built) (indexes x) ≡ true) (sym timed)
    (subst (λ x. list_all (λ i. is_whole i.built) (indexes x) ≡ true) same (bare_whole s))

-- ---- the cell of an index that is being built

-- the row without it has no such cell
none_built : (time : Option (List ℕ)) (bytes : List ℕ)
    → map.get (described_row time bytes) (codes "b") ≡ None
none_built None bytes =
    map.get-from_sorted key_cmp (table_cells None bytes) (codes "b") (cells_rise None bytes)
none_built (Some name) bytes = map.get-from_sorted key_cmp (table_cells (Some name) bytes)
    (codes "b") (cells_rise (Some name) bytes)

-- so a row tells it
get_built : (o time : Option (List ℕ)) (bytes : List ℕ)
    → map.get (with_built_cell o (described_row time bytes)) (codes "b") ≡ o
get_built None time bytes = none_built time bytes
get_built (Some v) time bytes =
    map.get-insert key_total (described_row time bytes) (codes "b") v (codes "b")

-- and what is beside it
get_beside : (o time : Option (List ℕ)) (bytes name : List ℕ) → eq_by_cmp key_cmp name (codes "b") ≡ false
    → map.get (with_built_cell o (described_row time bytes)) name
    ≡ map.get (described_row time bytes) name
get_beside None time bytes name other = refl
get_beside (Some v) time bytes name other =
    map.get-insert key_total (described_row time bytes) (codes "b") v name
    ∙ ap (λ c. cond c (Some v) (map.get (described_row time bytes) name)) other

-- the time to live is in a column
get_time : (time : Option (List ℕ)) (bytes : List ℕ)
    → map.get (described_row time bytes) (codes "l") ≡ time
get_time None bytes =
    map.get-from_sorted key_cmp (table_cells None bytes) (codes "l") (cells_rise None bytes)
get_time (Some name) bytes = map.get-from_sorted key_cmp (table_cells (Some name) bytes)
    (codes "l") (cells_rise (Some name) bytes)

-- and so are the bytes
pub get-described_row : (time : Option (List ℕ)) (bytes : List ℕ)
    → map.get (described_row time bytes) (codes "t") ≡ Some bytes
get-described_row None bytes = map.get-from_sorted key_cmp (table_cells None bytes) (codes "t") tt
get-described_row (Some name) bytes =
    map.get-from_sorted key_cmp (table_cells (Some name) bytes) (codes "t") tt

pub get-table_row : (d : TableSchema) → map.get (table_row d) (codes "t")
    ≡ Some (description_bytes d)
get-table_row d = get_beside (built_cell d) d.ttl (description_bytes d) (codes "t") refl
    ∙ get-described_row d.ttl (description_bytes d)

-- The row of a table tells all three.
pub all_told : (a b o p : Option (List ℕ)) (v w : List ℕ)
    → with_built_cell a (described_row o v) ≡ with_built_cell b (described_row p w)
    → (a ≡ b) × (o ≡ p) × (v ≡ w)
all_told a b o p v w same = (
  sym (get_built a o v) ∙ ap (λ m. map.get m (codes "b")) same ∙ get_built b p w,
  sym (get_beside a o v (codes "l") refl ∙ get_time o v) ∙ ap (λ m. map.get m (codes "l")) same
      ∙ (get_beside b p w (codes "l") refl ∙ get_time p w),
  some v w (sym (get_beside a o v (codes "t") refl ∙ get-described_row o v)
      ∙ ap (λ m. map.get m (codes "t")) same
      ∙ (get_beside b p w (codes "t") refl ∙ get-described_row p w)),
)
  where
    some : (x y : List ℕ) → Some x ≡ Some y → x ≡ y
    some x y e = cc
