-- The change of the row of number 0 where the trimmed number rises, and rows of different numbers that are hidden.
use Rattle.std.proofs.Common.{◌≡◌, ◌≢◌, ◌<◌, ◌≤◌, ◌^◌, refl, sym, ap, subst, ◌∙◌, ℕ, Bool, true, false, cond, not, List, [], ◌∷◌, ◌++◌, length, map, take, Some, None, All, bytes_eq, codes, get_or, arith}
use Rattle.std.proofs.lemmas.Bool.{eqb-true, eqb-false}
use Rattle.std.proofs.lemmas.List.{get_or-take, get_or_default, length-take-le}
use Rattle.std.proofs.lemmas.List.Elements.{All-head, All-tail, All-weaker}
use Rattle.std.proofs.lemmas.Slice.Eq.{bytes_eq-Decides}
use Rattle.std.specs.FinMap.{empty, entries, entries-insert, get, get-insert, len-empty, len-entries}
use Rattle.std.specs.FinMap.Entries.{put, where_key}
use Rattle.std.specs.Int.{w64, to_be_bytes}
use Rattle.std.specs.Option.{option_map_or}
use Rattle.std.specs.Prelude.{◌==◌, ◌&&◌, ◌||◌, AllPairs, if◌then◌else◌, is_none}
use Rattle.alt_cells.specs.Batches.{has_row}
use Rattle.alt_cells.specs.Changes.{Columns, GivenColumns, change_between, changed_cells, differs, gone_cells, is_changed, with_value, without_value}
use Rattle.alt_cells.specs.Keys.{key_cmp}
use Rattle.alt_cells.specs.declared.batch.RowChange.{RowChange}
use Rattle.alt_cells.proofs.CellLaws.{key_total}
use Rattle.alt_changes.specs.ChangeRows.{row_key}
use Rattle.alt_changes.specs.TrimRows.{AreLeft, hidden, trim_changes, trimmed_changes, trimmed_columns, trimmed_row}
use Rattle.alt_schema.specs.declared.schema.TableSchema.{TableSchema}
use Rattle.alt_changes.proofs.RowLaws.{number_one}

-- keys of two numbers differ
keys_apart : (m n : ℕ) → m < 2 ^ 64 → n < 2 ^ 64 → m ≢ n
    → bytes_eq (row_key m) (row_key n) ≡ false
keys_apart m n p q differ = by (bytes_eq (row_key m) (row_key n)) refl
  where
    by : (b : Bool) → bytes_eq (row_key m) (row_key n) ≡ b → b ≡ false
    by true same = absurd (differ (number_one m n p q
        ((bytes_eq-Decides (row_key m) (row_key n)).0 same)))
    by false other = refl

-- ---- the row of number 0

no_entries : entries (empty {X = List ℕ} {R = key_cmp}) ≡ []
no_entries = none (entries (empty {X = List ℕ} {R = key_cmp}))
    (sym (len-entries (empty {X = List ℕ} {R = key_cmp})) ∙ len-empty key_cmp (List ℕ))
  where
    none : (es : List (List ℕ × List ℕ)) → length es ≡ 0 → es ≡ []
    none [] e = refl
    none (x ∷ xs) e = absurd (omega (arith, e))

-- it has one column
entries_one : (n : ℕ) → entries (trimmed_columns n) ≡ (codes "x", to_be_bytes w64 n) ∷ []
entries_one n = entries-insert key_total empty (codes "x") (to_be_bytes w64 n)
    ∙ ap (put key_cmp (codes "x") (to_be_bytes w64 n)) no_entries

column_one : (n : ℕ) → get (trimmed_columns n) (codes "x") ≡ Some (to_be_bytes w64 n)
column_one n = get-insert key_total empty (codes "x") (to_be_bytes w64 n) (codes "x")

-- it is there where something was trimmed
pub row_there : (n : ℕ) → 1 ≤ n → trimmed_row n ≡ Some (trimmed_columns n)
row_there n some = by (n == 0) refl
  where
    by : (b : Bool) → (n == 0) ≡ b
        → (if b then None else Some (trimmed_columns n)) ≡ Some (trimmed_columns n)
    by true e = absurd (omega (arith, eqb-true n 0 e, some))
    by false e = refl

module _ (before after : ℕ) (rise : before < after) (small : after < 2 ^ 64) where
  abbrev old : Columns
  old = trimmed_columns before

  abbrev new : Columns
  new = trimmed_columns after

  column_changed : is_changed old new (codes "x") ≡ true
  column_changed = (λ i. option_map_or (differs (column_one before i)) (column_one after i) false)
      ∙ ap not (keys_apart before after (omega (arith, rise, small)) small
      (λ same. omega (arith, same, rise)))

  column_stays : is_none (get new (codes "x")) ≡ false
  column_stays = ap is_none (column_one after)

  cells_changed : changed_cells old new ≡ (codes "x", Some (to_be_bytes w64 after)) ∷ []
  cells_changed = ap (λ es. map with_value (where_key key_cmp (is_changed old new) es))
      (entries_one after)
      ∙ ap (λ b. map with_value (cond b ((codes "x", to_be_bytes w64 after) ∷ []) [])) column_changed

  cells_gone : gone_cells old new ≡ []
  cells_gone = ap (λ es. map without_value (where_key key_cmp (λ q. is_none (get new q)) es))
      (entries_one before)
      ∙ ap (λ b. map without_value (cond b ((codes "x", to_be_bytes w64 before) ∷ []) [])) column_stays

  -- Where it rises, this is the row's change: it is made where none was there.
  pub trimmed_made : (family : ℕ) (cells : GivenColumns)
      → cells ≡ (codes "x", Some (to_be_bytes w64 after)) ∷ []
      → (let made : RowChange = record {
        family = family;
        key = row_key 0;
        clear = before == 0;
        cells = cells;
      } in made ≡ change_between family (row_key 0) (trimmed_row before) (trimmed_row after))
  trimmed_made family cells e =
      ap (made (before == 0)) e ∙ by (before == 0)
      ∙ ap (change_between family (row_key 0) (trimmed_row before))
      (sym (row_there after (omega (arith, rise))))
    where
      made : Bool → GivenColumns → RowChange
      made clear given = record {
        family = family;
        key = row_key 0;
        clear = clear;
        cells = given;
      }

      by : (b : Bool) → made b ((codes "x", Some (to_be_bytes w64 after)) ∷ [])
          ≡ change_between family (row_key 0) (if b then None else Some old) (Some new)
      by true = ap (made true) (ap (map with_value) (sym (entries_one after)))
      by false = ap (made false) (λ i. sym cells_changed i ++ sym cells_gone i)

-- ---- rows that are hidden

module _ (family n : ℕ) where
  -- they aren't that of another number
  hidden_apart : n < 2 ^ 64 → (numbers : List ℕ) → All (λ (m : ℕ). (m < 2 ^ 64) × (m ≢ n)) numbers
      → has_row (map (hidden family) numbers) family (row_key n) ≡ false
  hidden_apart small [] all = refl
  hidden_apart small (m ∷ ms) all =
      let here = All-head (λ (m : ℕ). (m < 2 ^ 64) × (m ≢ n)) m ms all in
      by (family == family) (keys_apart m n here.0 small here.1)
      ∙ hidden_apart small ms (All-tail (λ (m : ℕ). (m < 2 ^ 64) × (m ≢ n)) m ms all)
    where
      rest : Bool
      rest = has_row (map (hidden family) ms) family (row_key n)

      by : (own : Bool) → bytes_eq (row_key m) (row_key n) ≡ false
          → ((own && bytes_eq (row_key m) (row_key n)) || rest) ≡ rest
      by true e = ap (λ b. b || rest) e
      by false e = refl

  -- and stand behind changes of other rows without it
  none_behind : (batch : List RowChange) (cs : List RowChange)
      → has_row batch family (row_key n) ≡ false → has_row cs family (row_key n) ≡ false
      → has_row (batch ++ cs) family (row_key n) ≡ false
  none_behind [] cs e f = f
  none_behind (c ∷ batch) cs e f = by ((c.family == family) && bytes_eq c.key (row_key n)) e
      (λ e. none_behind batch cs e f)
    where
      by : (b : Bool) → (b || has_row batch family (row_key n)) ≡ false
          → (has_row batch family (row_key n) ≡ false
          → has_row (batch ++ cs) family (row_key n) ≡ false)
          → (b || has_row (batch ++ cs) family (row_key n)) ≡ false
      by true e rest = absurd (let f : ⊥ = cc e in f)
      by false e rest = rest e

-- Each of some numbers, no two of which are the same, is of a row that isn't among those that are hidden before it.
pub hidden_new : (batch : List RowChange) (family : ℕ) (numbers : List ℕ) (k : ℕ)
    → AllPairs (λ (m n : ℕ). m ≢ n) numbers → All (λ (m : ℕ). m < 2 ^ 64) numbers
    → All (λ (n : ℕ). has_row batch family (row_key n) ≡ false) numbers → k < length numbers
    → has_row (batch ++ map (hidden family) (take k numbers)) family (row_key (get_or numbers k 0))
    ≡ false
hidden_new batch family numbers k differ small free within =
    none_behind family n batch (map (hidden family) (take k numbers)) (free k 0 within)
    (hidden_apart family n (small k 0 within) (take k numbers) before)
  where
    n : ℕ
    n = get_or numbers k 0

    before : All (λ (m : ℕ). (m < 2 ^ 64) × (m ≢ n)) (take k numbers)
    before j x low =
        let less : j < k = omega (arith, low, length-take-le k numbers (omega (arith, within))) in
        let same : get_or (take k numbers) j x ≡ get_or numbers j x = get_or-take k numbers j x less in (
          subst (λ m. m < 2 ^ 64) (sym same) (small j x (omega (arith, less, within))),
          λ one. differ j k x less within (sym same ∙ one ∙ get_or_default numbers k 0 x within),
        )

-- Rows that are left over aren't that of number 0, so they may be hidden behind its change.
pub still_free : (batch : List RowChange) (family trimmed : ℕ) (c : RowChange) (numbers : List ℕ)
    → c.key ≡ row_key 0 → trimmed < 2 ^ 64 → AreLeft trimmed numbers
    → All (λ (n : ℕ). has_row batch family (row_key n) ≡ false) numbers
    → All (λ (n : ℕ). has_row (batch ++ c ∷ []) family (row_key n) ≡ false) numbers
still_free batch family trimmed c numbers key small left free k x within =
    none_behind family (get_or numbers k x) batch (c ∷ []) (free k x within) (by (c.family == family))
  where
    n : ℕ
    n = get_or numbers k x

    apart : bytes_eq c.key (row_key n) ≡ false
    apart =
        let of = left k x within in
        let low = of.0 in
        let high = of.1 in
        ap (λ q. bytes_eq q (row_key n)) key ∙ keys_apart 0 n (omega arith)
        (omega (arith, high, small)) (λ same. let none : 0 ≡ n = same in omega (arith, none, low))

    by : (own : Bool) → ((own && bytes_eq c.key (row_key n)) || false) ≡ false
    by true = ap (λ b. b || false) apart
    by false = refl

-- Numbers up to one that fits in 8 bytes do so.
pub left_small : (trimmed : ℕ) (numbers : List ℕ) → trimmed < 2 ^ 64 → AreLeft trimmed numbers
    → All (λ (n : ℕ). n < 2 ^ 64) numbers
left_small trimmed numbers small left =
    All-weaker (λ (n : ℕ). (1 ≤ n) × (n ≤ trimmed)) (λ (n : ℕ). n < 2 ^ 64)
    (λ n within. let high = within.1 in omega (arith, high, small)) numbers left

-- ---- what a write does

module _ (d : TableSchema) (before after : ℕ) (numbers : List ℕ) where
  -- nothing in a table without a stream
  pub none_trimmed : d.stream_family ≡ None → trim_changes d before after numbers ≡ []
  none_trimmed none = ap (λ o. option_map_or
      (λ family. trimmed_changes family before after ++ map (hidden family) numbers) o []) none

  module _ (family : ℕ) (stream : d.stream_family ≡ Some family) where
    in_family : trim_changes d before after numbers
        ≡ trimmed_changes family before after ++ map (hidden family) numbers
    in_family = ap (λ o. option_map_or
        (λ family. trimmed_changes family before after ++ map (hidden family) numbers) o []) stream

    -- where the trimmed number stays, rows are hidden alone
    pub trimmed_stays : before ≡ after
        → trim_changes d before after numbers ≡ map (hidden family) numbers
    trimmed_stays same = in_family ∙ by (before == after) refl
      where
        by : (b : Bool) → (before == after) ≡ b → (if b then []
            else change_between family (row_key 0) (trimmed_row before) (trimmed_row after) ∷ [])
            ++ map (hidden family) numbers ≡ map (hidden family) numbers
        by true e = refl
        by false e = absurd (eqb-false before after e same)

    -- and where it rises, the row of number 0 changes before them
    pub trimmed_rises : before < after → trim_changes d before after numbers
        ≡ change_between family (row_key 0) (trimmed_row before) (trimmed_row after)
        ∷ map (hidden family) numbers
    trimmed_rises rise = in_family ∙ by (before == after) refl
      where
        by : (b : Bool) → (before == after) ≡ b → (if b then []
            else change_between family (row_key 0) (trimmed_row before) (trimmed_row after) ∷ [])
            ++ map (hidden family) numbers
            ≡ change_between family (row_key 0) (trimmed_row before) (trimmed_row after)
            ∷ map (hidden family) numbers
        by true e = absurd (omega (arith, eqb-true before after e, rise))
        by false e = refl
