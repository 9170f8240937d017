-- Rows read from bytes, one after another.
use Rattle.std.proofs.Common.{◌≡◌, refl, sym, ap, subst, ◌∙◌, ℕ, ◌-◌, ◌<◌, ◌^◌, List, [], ◌∷◌, ◌++◌, length, None, T, arith, append_assoc, length-append}
use Rattle.std.specs.List.{AllByRecursion, flat_map}
use Rattle.std.specs.FinMap.{empty}
use Rattle.std.specs.FinMap.Entries.{is_sorted}
use Rattle.std.proofs.lemmas.List.{same_from_push}
use Rattle.alt_fields.specs.Field.{field}
use Rattle.alt_cells.specs.declared.row.RowCells.{RowCells}
use Rattle.alt_cells.specs.Format.{bytes_of_row}
use Rattle.alt_cells.specs.Places.{NoRow}
use Rattle.alt_cells.specs.Keys.{key_cmp}
use Rattle.alt_cells.proofs.CellLaws.{key_total}
use Rattle.alt_fields.proofs.Apart.{field-apart, all_append, all_back, flat_map_snoc}
use Rattle.alt_cells.proofs.Rising.{sorted_front, sorted_other}
use Rattle.alt_rowblocks.specs.Format.{Entry, row_entry_bytes, rows_bytes, IsHeldEntry}
use Rattle.alt_rowblocks.specs.Decoding.{AreRows, IsNextKey, StandBefore, NoRows}
use Rattle.alt_rowblocks.proofs.OneFile.{entry-apart, length-entry}

-- the first part of a list of pieces stands in front of the others
pub rest_of : {K : Type 0} (spell : K → List ℕ) (P : K → Type 0)
    → ((k l : K) (x y : List ℕ) → P k → P l → spell k ++ x ≡ spell l ++ y → (k ≡ l) × (x ≡ y))
    → ((k : K) → 0 < length (spell k)) → (ks ls : List K) (more : List ℕ) → AllByRecursion P ks
    → AllByRecursion P ls → flat_map spell ks ++ more ≡ flat_map spell ls
    → (rest : List K) × (ls ≡ ks ++ rest) × (more ≡ flat_map spell rest)
rest_of spell P apart some [] ls more a b e = (ls, refl, e)
rest_of spell P apart some (k ∷ ks) [] more a b e =
    absurd (omega (
      arith,
      some k,
      ap length e,
      length-append (spell k ++ flat_map spell ks) more,
      length-append (spell k) (flat_map spell ks),
    ))
rest_of spell P apart some (k ∷ ks) (l ∷ ls) more a b e =
    let h = apart k l (flat_map spell ks ++ more) (flat_map spell ls) a.0 b.0
    (sym (append_assoc (spell k) (flat_map spell ks) more) ∙ e) in
    let t = rest_of spell P apart some ks ls more a.1 b.1 h.1 in
    (t.0, (λ i. sym h.0 i ∷ t.1 i), t.2)

-- the field of a key and that of its row are an entry
pub entry_whole : (key row_bytes behind bytes rest : List ℕ) (row : RowCells)
    → bytes ≡ field key ++ behind → behind ≡ field row_bytes ++ rest → row_bytes ≡ bytes_of_row row
    → bytes ≡ row_entry_bytes (key, row) ++ rest
unfolding row_entry_bytes
entry_whole key row_bytes behind bytes rest row first then is =
    first ∙ ap (λ (l : List ℕ). field key ++ l) (then ∙ ap (λ (r : List ℕ). field r ++ rest) is)
    ∙ sym (append_assoc (field key) (field (bytes_of_row row)) rest)

-- an entry begins with its key
pub entry_key : (e : Entry) (x : List ℕ)
    → row_entry_bytes e ++ x ≡ field e.0 ++ (field (bytes_of_row e.1) ++ x)
unfolding row_entry_bytes
entry_key e x = append_assoc (field e.0) (field (bytes_of_row e.1)) x

-- a key with a field behind it that holds no row is no entry
pub no_row_entry : (key row_bytes behind bytes rest : List ℕ) → length key < 2 ^ 64
    → length row_bytes < 2 ^ 64 → bytes ≡ field key ++ behind → behind ≡ field row_bytes ++ rest
    → NoRow row_bytes
    → (e : Entry) (x : List ℕ) → IsHeldEntry e → bytes ≡ row_entry_bytes e ++ x → ⊥
no_row_entry key row_bytes behind bytes rest short fits first then none e x held is =
    let k = field-apart key e.0 behind (field (bytes_of_row e.1) ++ x) short held.0 (sym first ∙ is
    ∙ entry_key e x) in
    let r = field-apart row_bytes (bytes_of_row e.1) rest x fits held.2 (sym then ∙ k.1) in
    none e.1 held.1 r.0

-- a key with no field behind it is no entry
pub no_field_behind : (key behind bytes : List ℕ) → length key < 2 ^ 64
    → bytes ≡ field key ++ behind → ((s x : List ℕ) → length s < 2 ^ 64 → behind ≡ field s ++ x → ⊥)
    → (e : Entry) (x : List ℕ) → IsHeldEntry e → bytes ≡ row_entry_bytes e ++ x → ⊥
no_field_behind key behind bytes short first none e x held is =
    let k = field-apart key e.0 behind (field (bytes_of_row e.1) ++ x) short held.0 (sym first ∙ is
    ∙ entry_key e x) in
    none (bytes_of_row e.1) x held.2 k.1

-- the rows so far, of bytes of which some are left
pub record RowsSoFar (bytes rest : List ℕ) (before : ℕ) (rows : List Entry) : Type 0 where
  pub are : AreRows rows
  pub is : bytes ≡ rows_bytes rows ++ rest
  pub place : StandBefore before rows

-- no rows have a last one
none_before : (front : List Entry) (last : Entry) → [] ≡ front ++ last ∷ [] → ⊥
none_before [] last e = absurd (cc)
none_before (x ∷ front) last e = absurd (cc)

-- before the first row none was read
pub no_rows_yet : (bytes : List ℕ) → RowsSoFar bytes bytes 0 []
no_rows_yet bytes =
    record { are = (tt, tt); is = refl; place = λ front last e. absurd (none_before front last e) }

-- one row more was read, where its key is behind the others
pub one_row_more : (bytes rest behind : List ℕ) (before next : ℕ) (rows new : List Entry)
    (key : List ℕ) (row : RowCells) → RowsSoFar bytes rest before rows → IsHeldEntry (key, row)
    → IsNextKey rows key
    → rest ≡ row_entry_bytes (key, row) ++ behind → next ≡ length bytes - length rest
    → new ≡ rows ++ (key, row) ∷ [] → RowsSoFar bytes behind next new
one_row_more bytes rest behind before next rows new key row so_far held above is at added =
    let e : Entry = (key, row) in
    let are : AreRows (rows ++ e ∷ []) = (
      all_append IsHeldEntry rows (e ∷ []) so_far.are.0 (held, tt),
      sorted_other key_cmp key_total rows key (record { gone = None; cells = empty }) row above,
    )
    in
    record {
      are = subst AreRows (sym added) are;
      is = so_far.is ∙ ap (λ (l : List ℕ). rows_bytes rows ++ l) is
          ∙ flat_map_snoc row_entry_bytes IsHeldEntry rows e behind
          ∙ ap (λ (r : List Entry). rows_bytes r ++ behind) (sym added);
      place = λ front last same.
          let whole : rows ++ e ∷ [] ≡ front ++ last ∷ [] = sym added ∙ same in
          omega (
            arith,
            at,
            ap length so_far.is,
            length-append (rows_bytes rows) rest,
            ap (λ (r : List Entry). length (rows_bytes r))
                (same_from_push rows front e last whole).0,
          );
    }

-- where no row stands next, the bytes are of no rows
pub no_rows_next : (bytes rest : List ℕ) (before : ℕ) (rows : List Entry)
    → RowsSoFar bytes rest before rows → 0 < length rest
    → ((e : Entry) (x : List ℕ) → IsHeldEntry e → rest ≡ row_entry_bytes e ++ x → ⊥) → NoRows bytes
no_rows_next bytes rest before rows so_far some none others are is =
    let r = rest_of row_entry_bytes IsHeldEntry entry-apart
    (λ e. omega (arith, length-entry e)) rows others rest so_far.are.0 are.0 (sym so_far.is
    ∙ is) in
    refute r.0 r.2 (subst (AllByRecursion IsHeldEntry) r.1 are.0)
  where
    refute : (more : List Entry) → rest ≡ rows_bytes more
        → AllByRecursion IsHeldEntry (rows ++ more) → ⊥
    refute [] same held = omega (arith, some, ap length same)
    refute (e ∷ more) same held =
        none e (rows_bytes more) (all_back IsHeldEntry rows (e ∷ more) held).0 same

-- and where a key stands next that isn't above the last
pub no_key_next : (bytes rest behind : List ℕ) (before : ℕ) (rows : List Entry) (key : List ℕ)
    (row : RowCells) → RowsSoFar bytes rest before rows → IsHeldEntry (key, row)
    → rest ≡ row_entry_bytes (key, row) ++ behind → (IsNextKey rows key → ⊥) → NoRows bytes
no_key_next bytes rest behind before rows key row so_far held there low others are is =
    let r = rest_of row_entry_bytes IsHeldEntry entry-apart
    (λ e. omega (arith, length-entry e)) rows others rest so_far.are.0 are.0 (sym so_far.is
    ∙ is) in
    refute r.0 r.2 (subst AreRows r.1 are)
  where
    refute : (more : List Entry) → rest ≡ rows_bytes more → AreRows (rows ++ more) → ⊥
    refute [] same here =
        omega (
          arith,
          ap length same,
          ap length there,
          length-append (row_entry_bytes (key, row)) behind,
          length-entry (key, row),
        )
    refute (e ∷ more) same here =
        let one = entry-apart (key, row) e behind (rows_bytes more) held
        (all_back IsHeldEntry rows (e ∷ more) here.0).0 (sym there ∙ same) in
        let sorted : T (is_sorted key_cmp ((rows ++ e ∷ []) ++ more)) =
        subst (λ (l : List Entry). T (is_sorted key_cmp l))
        (sym (append_assoc rows (e ∷ []) more)) here.1 in
        let first : T (is_sorted key_cmp (rows ++ (key, row) ∷ [])) =
        subst (λ (x : Entry). T (is_sorted key_cmp (rows ++ x ∷ []))) (sym one.0)
        (sorted_front key_cmp key_total (rows ++ e ∷ []) more sorted) in
        low (sorted_other key_cmp key_total rows key row
        (record { gone = None; cells = empty }) first)

-- bytes that hold no field hold no entry
pub no_field_at : (bytes : List ℕ) → ((s x : List ℕ) → length s < 2 ^ 64 → bytes ≡ field s ++ x → ⊥)
    → (e : Entry) (x : List ℕ) → IsHeldEntry e → bytes ≡ row_entry_bytes e ++ x → ⊥
no_field_at bytes none e x held is =
    none e.0 (field (bytes_of_row e.1) ++ x) held.0 (is ∙ entry_key e x)

-- behind an entry fewer bytes are left
pub left_shorter : (rest behind key : List ℕ) (row : RowCells)
    → rest ≡ row_entry_bytes (key, row) ++ behind → length behind < length rest
left_shorter rest behind key row is =
    omega (
      arith,
      ap length is,
      length-append (row_entry_bytes (key, row)) behind,
      length-entry (key, row),
    )
