-- The rows of a stream from a number on are those of the numbers at which it shows one.
use Rattle.std.proofs.Common.{◌≡◌, ◌<◌, ◌≤◌, ◌+◌, ◌-◌, ◌^◌, ⊎_elim, refl, sym, ap, subst, ◌∙◌, ℕ, zero, suc, Bool, true, false, cond, T, List, [], ◌∷◌, ◌++◌, length, get_or, map, take, drop, Option, Some, None, All, option_map, arith}
use Rattle.std.proofs.lemmas.Bool.{false≢true, lt-leb as above, leb-false, leb-true, le-leb}
use Rattle.std.proofs.lemmas.List.Elements.{All-nil}
use Rattle.std.specs.BTreeMap.Range.{range_contains}
use Rattle.std.specs.FinMap as finite
use Rattle.std.specs.FinMap.Entries.{below_all, find, find-where_key, is_sorted, is_sorted-where_key, same_entries}
use Rattle.std.specs.List.{cons_option, range_with_len}
use Rattle.std.specs.Ordering.{eq_by_cmp, is_le, is_lt}
use Rattle.std.specs.Prelude.{◌&&◌, filter, if◌then◌else◌, is_some, nat_le, not, option_and_then}
use Rattle.std.specs.Prelude.{Vec}
use Rattle.std.specs.declared.alloc.Global.{Global}
use Rattle.std.specs.declared.cmp.Ordering.TheVariants.{Equal}
use Rattle.std.specs.declared.ops.Bound.TheVariants.{Included, Excluded}
use Rattle.alt_base.proofs.Bools.{both_hold}
use Rattle.alt_base.proofs.Orderings.{nat_cmp-less}
use Rattle.alt_cells.specs.Changes.{Columns}
use Rattle.alt_cells.specs.Keys.{key_cmp}
use Rattle.alt_cells.proofs.CellLaws.{key_exact, key_total}
use Rattle.alt_cells.proofs.SameKeys.{key_itself, one_key}
use Rattle.alt_changes.specs.ChangeRows.{change_columns, row_key}
use Rattle.alt_changes.specs.TrimRows.{trimmed_row}
use Rattle.alt_layout.specs.Layout.{Layout, rows_between, shown, shown_of, shown_rows}
use Rattle.alt_layout.proofs.ShownLaws.{find-shown, get-shown_rows, is_sorted-shown}
use Rattle.alt_machine.specs.State.{Change, Table}
use Rattle.alt_machine.proofs.Trimming.{Rise}
use Rattle.alt_opening.specs.StateRows.{IsLeftover, change_rows, keyed_changes}
use Rattle.alt_opening.proofs.OneStream.{leftover_or_not}
use Rattle.alt_opening.proofs.StreamKeys.{IsSmall, found_keyed, get_keyed, is_le-nat, key_one, key_order}
use Rattle.alt_rowchanges.specs.Leftovers.{leftovers}
use Rattle.alt_rowchanges.specs.Trims.{AreNumbersOf, AreTwo, IsLowest, IsLowestFrom, number_behind_second, leftovers_from}
use Rattle.alt_rowchanges.proofs.Rising.{behind_low, drop_behind, drop_two, filter_rising, none_past, range_skip, rising_later, take_two}

-- ---- numbers at their keys

abbrev pub at_key : ℕ → List ℕ × ℕ
at_key n = (row_key n, n)

-- so many from one on
abbrev pub numbered : ℕ → ℕ → List (List ℕ × ℕ)
numbered a k = map at_key (range_with_len a k)

below_keys : (m a k : ℕ) → m < a → a + k ≤ 2 ^ 64 → T (below_all key_cmp (row_key m) (numbered a k))
below_keys m a zero low high = tt
below_keys m a (suc k) low high = both_hold _ _
    (subst (λ o. T (is_lt o)) (sym (key_order m a (omega (arith, low, high)) (omega (arith, high))
    ∙ nat_cmp-less m a low)) tt)
    (below_keys m (a + 1) k (omega (arith, low)) (omega (arith, high)))

-- they are in order
pub sorted_numbers : (a k : ℕ) → a + k ≤ 2 ^ 64 → T (is_sorted key_cmp (numbered a k))
sorted_numbers a zero high = tt
sorted_numbers a (suc k) high = both_hold _ _
    (below_keys a (a + 1) k (omega arith) (omega (arith, high)))
    (sorted_numbers (a + 1) k (omega (arith, high)))

-- what is found at a key is the number of that key
found_number : (q : List ℕ) (a k n : ℕ) → find key_cmp q (numbered a k) ≡ Some n
    → (q ≡ row_key n) × (a ≤ n) × (n < a + k)
found_number q a zero n found = absurd (let no : None ≡ Some n = found in let f : ⊥ = cc no in f)
found_number q a (suc k) n found = by (eq_by_cmp key_cmp q (row_key a)) refl found
    (found_number q (a + 1) k n)
  where
    by : (b : Bool) → eq_by_cmp key_cmp q (row_key a) ≡ b
        → cond b (Some a) (find key_cmp q (numbered (a + 1) k)) ≡ Some n
        → (find key_cmp q (numbered (a + 1) k) ≡ Some n
        → (q ≡ row_key n) × (a + 1 ≤ n) × (n < a + 1 + k))
        → (q ≡ row_key n) × (a ≤ n) × (n < a + suc k)
    by true same found later =
        let is : Some a ≡ Some n = found in
        let one : a ≡ n = cc is in (
          one_key q (row_key a) same ∙ ap row_key one,
          omega (arith, one),
          omega (arith, one),
        )
    by false differs found later =
        let further = later found in
        let low = further.1 in
        let high = further.2 in
        (further.0, omega (arith, low), omega (arith, high))

-- and each of them is found at its key
finds_number : (a k n : ℕ) → a + k ≤ 2 ^ 64 → a ≤ n → n < a + k
    → find key_cmp (row_key n) (numbered a k) ≡ Some n
finds_number a zero n fits low high = absurd (omega (arith, low, high))
finds_number a (suc k) n fits low high = by (eq_by_cmp key_cmp (row_key n) (row_key a)) refl
    (λ above. finds_number (a + 1) k n (omega (arith, fits)) above (omega (arith, high)))
  where
    later : eq_by_cmp key_cmp (row_key n) (row_key a) ≡ false → (c : Bool) → nat_le (a + 1) n ≡ c
        → a + 1 ≤ n
    later differs true e = leb-true (a + 1) n e
    later differs false e = absurd (let less = leb-false (a + 1) n e in
        let one : n ≡ a = omega (arith, low, less) in
        false≢true (sym differs ∙ ap (λ m. eq_by_cmp key_cmp (row_key m) (row_key a)) one
        ∙ key_itself (row_key a)))

    by : (b : Bool) → eq_by_cmp key_cmp (row_key n) (row_key a) ≡ b
        → (a + 1 ≤ n → find key_cmp (row_key n) (numbered (a + 1) k) ≡ Some n)
        → cond b (Some a) (find key_cmp (row_key n) (numbered (a + 1) k)) ≡ Some n
    by true same rest = ap (λ m. Some m) (key_one a n (omega (arith, fits)) (omega (arith, high, fits))
        (sym (one_key (row_key n) (row_key a) same)))
    by false differs rest = rest (later differs (nat_le (a + 1) n) refl)

-- ---- rows in a range of numbers

module _ (rows : List ℕ → Option Columns) where
  -- the row of a number
  abbrev pub row_at : ℕ → Option Columns
  row_at n = rows (row_key n)

  -- the first rows are those of the first numbers that have one
  pub first_numbers : (j a k : ℕ) → a + k ≤ 2 ^ 64
      → AreNumbersOf (take j (shown_of row_at (numbered a k)))
      (take j (filter (λ n. is_some (row_at n)) (range_with_len a k)))
  first_numbers zero a k fits = tt
  first_numbers (suc j) a zero fits = tt
  first_numbers (suc j) a (suc k) fits = by (row_at a)
      (first_numbers (suc j) (a + 1) k (omega (arith, fits)))
      (first_numbers j (a + 1) k (omega (arith, fits)))
    where
      by : (o : Option Columns)
          → AreNumbersOf (take (suc j) (shown_of row_at (numbered (a + 1) k)))
          (take (suc j) (filter (λ n. is_some (row_at n)) (range_with_len (a + 1) k)))
          → AreNumbersOf (take j (shown_of row_at (numbered (a + 1) k)))
          (take j (filter (λ n. is_some (row_at n)) (range_with_len (a + 1) k)))
          → AreNumbersOf (take (suc j) (cons_option (option_map (λ columns. (row_key a, columns)) o)
          (shown_of row_at (numbered (a + 1) k))))
          (take (suc j) (cond (is_some o)
          (a ∷ filter (λ n. is_some (row_at n)) (range_with_len (a + 1) k))
          (filter (λ n. is_some (row_at n)) (range_with_len (a + 1) k))))
      by None all less = all
      by (Some row) all less = (refl, omega (arith, fits), less)

-- rows are those of one list of numbers
pub one_numbers : (page : List (List ℕ × Columns)) (ms ns : List ℕ) → AreNumbersOf page ms
    → AreNumbersOf page ns → ms ≡ ns
one_numbers [] [] [] p q = refl
one_numbers [] [] (n ∷ ns) p q = absurd q
one_numbers [] (m ∷ ms) ns p q = absurd p
one_numbers (e ∷ es) [] ns p q = absurd p
one_numbers (e ∷ es) (m ∷ ms) [] p q = absurd q
one_numbers (e ∷ es) (m ∷ ms) (n ∷ ns) p q =
    let first = key_one m n p.1 q.1 (sym p.0 ∙ q.0) in
    let rest = one_numbers es ms ns p.2 q.2 in
    λ i. first i ∷ rest i

-- the number of one row more
pub numbers_more : (page : List (List ℕ × Columns)) (e : List ℕ × Columns) (ns : List ℕ) (n : ℕ)
    → AreNumbersOf page ns → e.0 ≡ row_key n → n < 2 ^ 64
    → AreNumbersOf (page ++ e ∷ []) (ns ++ n ∷ [])
numbers_more [] e [] n are key fits = (key, fits, tt)
numbers_more [] e (m ∷ ms) n are key fits = absurd are
numbers_more (p ∷ ps) e [] n are key fits = absurd are
numbers_more (p ∷ ps) e (m ∷ ms) n are key fits =
    (are.0, are.1, numbers_more ps e ms n are.2 key fits)

-- each row is that of a number
pub number_row_at : (page : List (List ℕ × Columns)) (ns : List ℕ) (k : ℕ)
    (e : List ℕ × Columns) → AreNumbersOf page ns → k < length page → e ≡ get_or page k e
    → (n : ℕ) × (n < 2 ^ 64) × (e.0 ≡ row_key n)
number_row_at [] ns k e are within is = absurd (omega (arith, within))
number_row_at (p ∷ ps) [] k e are within is = absurd are
number_row_at (p ∷ ps) (n ∷ ns) zero e are within is =
    (n, are.1, ap (λ (q : List ℕ × Columns). q.0) is ∙ are.0)
number_row_at (p ∷ ps) (n ∷ ns) (suc k) e are within is =
    number_row_at ps ns k e are.2 (omega (arith, within)) is

module _ (l : Layout) (family : ℕ)
    (numbers : (q : List ℕ) (row : Columns) → shown l family q ≡ Some row
    → (n : ℕ) × (n < 2 ^ 64) × (q ≡ row_key n)) (a k b : ℕ) (is : b ≡ a + k) (fits : b < 2 ^ 64)
  where
    -- a key between those of the two numbers
    abbrev within : List ℕ → Bool
    within key = range_contains key_cmp (Included (row_key a)) (Excluded (row_key b)) key

    -- is one of the numbers between
    test : (n : ℕ) → n < 2 ^ 64 → within (row_key n) ≡ (nat_le a n && not (nat_le b n))
    test n small = λ i. lower i && not (upper i)
      where
        lower : is_le (key_cmp (row_key a) (row_key n)) ≡ nat_le a n
        lower = ap is_le (key_order a n (omega (arith, is, fits)) small) ∙ is_le-nat a n

        upper : is_le (key_cmp (row_key b) (row_key n)) ≡ nat_le b n
        upper = ap is_le (key_order b n fits small) ∙ is_le-nat b n

    inside : (n : ℕ) → a ≤ n → n < b → within (row_key n) ≡ true
    inside n low high = test n (omega (arith, high, fits))
        ∙ (λ i. le-leb a n low i && not (above b n high i))

    -- and back
    between : (n : ℕ) → n < 2 ^ 64 → within (row_key n) ≡ true → (a ≤ n) × (n < b)
    between n small h = by (nat_le a n) (nat_le b n) refl refl (sym (test n small) ∙ h)
      where
        by : (c d : Bool) → nat_le a n ≡ c → nat_le b n ≡ d → (c && not d) ≡ true
            → (a ≤ n) × (n < b)
        by true false e f h = (leb-true a n e, leb-false b n f)
        by true true e f h = absurd (false≢true h)
        by false d e f h = absurd (false≢true h)

    abbrev row : ℕ → Option Columns
    row n = shown l family (row_key n)

    sorted : T (is_sorted key_cmp (numbered a k))
    sorted = sorted_numbers a k (omega (arith, is, fits))

    alike : (q x : List ℕ) → key_cmp q x ≡ Equal → within x ≡ within q
    alike q x same = ap within (sym (key_exact q x same))

    -- what is found at a key among the rows in the range is what is found among those of the numbers
    found_at : (q : List ℕ) (c : Bool) → within q ≡ c → (o : Option ℕ)
        → find key_cmp q (numbered a k) ≡ o
        → cond c (shown l family q) None ≡ option_and_then row o
    found_at q true e None none = by (shown l family q) refl
      where
        by : (o : Option Columns) → shown l family q ≡ o → o ≡ None
        by None f = refl
        by (Some r) f =
            let of = numbers q r f in
            let here = between of.0 of.1 (ap within (sym of.2) ∙ e) in
            let low = here.0 in
            let high = here.1 in
            absurd (let no : None ≡ Some of.0 = sym none
            ∙ ap (λ x. find key_cmp x (numbered a k)) of.2
            ∙ finds_number a k of.0 (omega (arith, is, fits)) low (omega (arith, high, is)) in
            let f : ⊥ = cc no in f)
    found_at q true e (Some n) found =
        ap (shown l family) (found_number q a k n found).0
    found_at q false e None none = refl
    found_at q false e (Some n) found =
        let of = found_number q a k n found in
        let high = of.2 in
        absurd (false≢true (sym e ∙ ap within of.0 ∙ inside n of.1 (omega (arith, high, is))))

    -- The rows in the range are those of the numbers that have one.
    pub rows_numbered : rows_between l family (row_key a) (Some (row_key b)) true
        ≡ shown_of row (numbered a k)
    rows_numbered = same_entries key_cmp key_total key_exact _ _
        (is_sorted-where_key key_cmp within (finite.entries (shown_rows l family))
        (finite.entries_sorted (shown_rows l family)))
        (is_sorted-shown row (numbered a k) sorted)
        (λ q. find-where_key key_cmp within q (alike q) (finite.entries (shown_rows l family))
        ∙ ap (λ o. cond (within q) o None)
        (sym (finite.get-entries (shown_rows l family) q) ∙ get-shown_rows l family q)
        ∙ found_at q (within q) refl (find key_cmp q (numbered a k)) refl
        ∙ sym (find-shown row q (numbered a k) sorted))

-- ---- the rows of a stream

-- each is the row of a number
pub row_number : (l : Layout) (family : ℕ) (t : Table) → t.trimmed < 2 ^ 64
    → All IsSmall t.changes → Rise t.changes
    → ((key : List ℕ) → (IsLeftover t.trimmed key → ⊥) → shown l family key ≡ change_rows t key)
    → (q : List ℕ) (row : Columns) → shown l family q ≡ Some row
    → (n : ℕ) × (n < 2 ^ 64) × (q ≡ row_key n)
row_number l family t small small_all rise shows q row is = ⊎_elim
    (λ (left : IsLeftover t.trimmed q). let most = left.2 in
    (left.0, omega (arith, most, small), left.3))
    (λ (counts : IsLeftover t.trimmed q → ⊥).
    by (eq_by_cmp key_cmp q (row_key 0)) refl (finite.get (keyed_changes t.changes) q) refl
    (sym (shows q counts) ∙ is))
    (leftover_or_not t.trimmed small q)
  where
    by : (b : Bool) → eq_by_cmp key_cmp q (row_key 0) ≡ b → (o : Option Change)
        → finite.get (keyed_changes t.changes) q ≡ o
        → (if b then trimmed_row t.trimmed else option_map change_columns o) ≡ Some row
        → (n : ℕ) × (n < 2 ^ 64) × (q ≡ row_key n)
    by true e o f h = (0, omega arith, one_key q (row_key 0) e)
    by false e None f h = absurd (let no : None ≡ Some row = h in let f : ⊥ = cc no in f)
    by false e (Some c) f h =
        let found = found_keyed IsSmall t.changes q c small_all
        (sym (get_keyed t.changes small_all rise q) ∙ f) in
        (c.number, found.1, found.0)

module _ (l : Layout) (family : ℕ) (t : Table) (small : t.trimmed < 2 ^ 64)
    (small_all : All IsSmall t.changes) (rise : Rise t.changes)
    (shows : (key : List ℕ) → (IsLeftover t.trimmed key → ⊥)
    → shown l family key ≡ change_rows t key) (from number : ℕ) (low : from ≤ number)
    (high : number + 1 < 2 ^ 64) (some : 1 ≤ from) (page : List (List ℕ × Columns))
    (is_page : page ≡ take 2 (rows_between l family (row_key from) (Some (row_key (number + 1))) true))
  where
    -- whether a number has a row
    abbrev has : ℕ → Bool
    has n = is_some (shown l family (row_key n))

    -- the numbers in the range that have one
    abbrev there : List ℕ
    there = filter has (range_with_len from (number + 1 - from))

    whole : number + 1 ≡ from + (number + 1 - from)
    whole = omega (arith, low)

    -- The rows that are read are those of the first two of them.
    pub read_numbers : AreNumbersOf page (take 2 there)
    read_numbers = subst (λ rows. AreNumbersOf rows (take 2 there))
        (sym (is_page ∙ ap (take 2) (rows_numbered l family
        (row_number l family t small small_all rise shows) from (number + 1 - from) (number + 1)
        whole high)))
        (first_numbers (shown l family) 2 from (number + 1 - from) (omega (arith, low, high)))

    -- they rise from 1 on
    pub read_two : AreTwo number (take 2 there)
    read_two = take_two number there (rising_later 1 from (number + 1) there some
        (filter_rising has from (number + 1 - from) (number + 1) (omega (arith, low))))

    -- So where none below is left over, the lowest are read, and what is behind them is known.
    pub lowest_read : All (λ n. from ≤ n) (leftovers l family number) → (v : Vec ℕ Global)
        → AreNumbersOf page v.items → AreTwo number v.items → (end : ℕ)
        → end ≡ number_behind_second number v.items → IsLowest l family number (v, end)
    lowest_read above v numbers two end is_end =
        let skipped : leftovers l family number ≡ there =
        range_skip has (from - 1) 1 (number + 1 - from) number from (omega (arith, low, some))
        (omega (arith, some)) above in
        let lowest : v.items ≡ take 2 (leftovers l family number) =
        one_numbers page v.items (take 2 there) numbers read_numbers
        ∙ ap (take 2) (sym skipped) in
        let of_end = behind_low number v.items two in
        record {
          lowest = lowest;
          low = (
            subst (λ n. 1 ≤ n) (sym is_end) of_end.0,
            subst (λ n. n ≤ number + 1) (sym is_end) of_end.1,
          );
          above = subst (λ n. All (λ k. n ≤ k) (drop 2 (leftovers l family number)))
              (sym (is_end ∙ ap (number_behind_second number) lowest))
              (drop_behind number (leftovers l family number)
              (filter_rising has 1 number (number + 1) (omega arith)));
        }

    -- Of those in the range the lowest are read, whatever is below, and what is behind them is known.
    pub range_read : (v : Vec ℕ Global) → AreNumbersOf page v.items → AreTwo number v.items
        → (end : ℕ) → end ≡ number_behind_second number v.items → IsLowestFrom l family from number (v, end)
    range_read v numbers two end is_end =
        let lowest : v.items ≡ take 2 there =
        one_numbers page v.items (take 2 there) numbers read_numbers in
        let of_end = behind_low number v.items two in
        record {
          lowest = lowest;
          low = (
            subst (λ n. 1 ≤ n) (sym is_end) of_end.0,
            subst (λ n. n ≤ number + 1) (sym is_end) of_end.1,
          );
          rest = drop_two has from (number + 1 - from) number (omega (arith, low))
              ∙ ap (λ n. filter has (range_with_len n (number + 1 - n)))
              (sym (is_end ∙ ap (number_behind_second number) lowest));
        }

-- where none is below a number, those from there on are all that is left over
pub left_from_there : (l : Layout) (family number from : ℕ) → 1 ≤ from
    → All (λ n. from ≤ n) (leftovers l family number)
    → leftovers l family number ≡ leftovers_from l family from number
left_from_there l family number from some above = by (nat_le from number) refl
  where
    has : ℕ → Bool
    has n = is_some (shown l family (row_key n))

    by : (b : Bool) → nat_le from number ≡ b
        → leftovers l family number ≡ leftovers_from l family from number
    by true e =
        let low = leb-true from number e in
        range_skip has (from - 1) 1 (number + 1 - from) number from (omega (arith, low, some))
        (omega (arith, some)) above
    by false e =
        let past = leb-false from number e in
        let empty : number + 1 - from ≡ 0 = omega (arith, past) in
        none_past 1 (number + 1) from (leftovers l family number) (omega (arith, past))
        (filter_rising has 1 number (number + 1) (omega arith)) above
        ∙ sym (ap (λ n. filter has (range_with_len from n)) empty)

-- where the range is empty, there are none
pub range_none : (l : Layout) (family number from : ℕ) → number < from → (v : Vec ℕ Global)
    → v.items ≡ [] → IsLowestFrom l family from number (v, number + 1)
range_none l family number from past v empty =
    let before : number + 1 - from ≡ 0 = omega (arith, past) in
    let after : number + 1 - (number + 1) ≡ 0 = omega arith in
    record {
      lowest = empty ∙ sym (ap (λ n. take 2 (filter has (range_with_len from n))) before);
      low = (omega arith, omega arith);
      rest = ap (λ n. drop 2 (filter has (range_with_len from n))) before
          ∙ sym (ap (λ n. filter has (range_with_len (number + 1) n)) after);
    }
  where
    has : ℕ → Bool
    has n = is_some (shown l family (row_key n))

-- where they begin behind the number, there are none
pub lowest_none : (l : Layout) (family number from : ℕ) → number < from
    → All (λ n. from ≤ n) (leftovers l family number) → (v : Vec ℕ Global) → v.items ≡ []
    → IsLowest l family number (v, number + 1)
lowest_none l family number from past above v empty =
    let none : leftovers l family number ≡ [] = none_past 1 (number + 1) from
    (leftovers l family number) (omega (arith, past))
    (filter_rising (λ n. is_some (shown l family (row_key n))) 1 number (number + 1) (omega arith))
    above in
    record {
      lowest = empty ∙ sym (ap (take 2) none);
      low = (omega arith, omega arith);
      above = subst (λ ns. All (λ n. number + 1 ≤ n) (drop 2 ns)) (sym none)
          (All-nil (λ n. number + 1 ≤ n));
    }
