-- What a walk over a range costs in reads.
use Rattle.std.proofs.Common.{◌≡◌, ◌≤◌, ◌<◌, ◌+◌, ◌-◌, ◌*◌, ℕ, zero, suc, Bool, true, false, T, List, [], ◌∷◌, map, length, filter, Option, Some, None, refl, sym, ap, subst, ◌∙◌, ⊎_elim, arith}
use Rattle.std.proofs.lemmas.List.{length-reverse}
use Rattle.std.specs.Prelude.{if◌then◌else◌, ◌&&◌, option_map}
use Rattle.std.specs.BTreeMap.Range.{entries_between, range_contains}
use Rattle.std.specs.Cmp.{eq_by_cmp_equiv}
use Rattle.std.specs.FinMap.{entries}
use Rattle.std.specs.FinMap.Entries.{below_all}
use Rattle.std.specs.List.{AllByRecursion, cons_option}
use Rattle.std.specs.Ordering.{is_le}
use Rattle.std.specs.declared.cmp.Ordering.TheVariants.{Equal}
use Rattle.std.specs.declared.ops.Bound.TheVariants.{Included}
use Rattle.alt_base.proofs.Bools.{first_holds, second_holds}
use Rattle.alt_base.proofs.Orderings.{is_eq-holds, is_lt-holds}
use Rattle.alt_cells.specs.Changes.{Columns}
use Rattle.alt_cells.specs.Joined.{all_joined, joined_map}
use Rattle.alt_cells.specs.Keys.{key_cmp}
use Rattle.alt_cells.specs.Rows.{join_row}
use Rattle.alt_cells.specs.Shown.{row_shown}
use Rattle.alt_cells.specs.Walks.{RowMap, RowList, Gives, first_bound, last_bound, rows_from, walk_cmp}
use Rattle.alt_cells.specs.declared.row.RowCells.{RowCells}
use Rattle.alt_cells.proofs.CellLaws.{key_total}
use Rattle.alt_disk.specs.Disk.{DiskState}
use Rattle.alt_layout.specs.Layout.{end_bound, shown_of}
use Rattle.alt_merge.specs.declared.merge.Merge.{Merge}
use Rattle.alt_merge.specs.Costs.{CallSpends, HasLists, FirstRowMayBePassed, all_due, all_times, all_width, times}
use Rattle.alt_merge.specs.Merges.{Each2, all_rows}
use Rattle.alt_merge.specs.Whole.{heads_of, is_forward, sources_of}
use Rattle.alt_merge.proofs.Costs.{due_le, same_times}
use Rattle.alt_merge.proofs.Merging.{rows_from_all}
use Rattle.alt_rowfile.specs.declared.rowfile.RowFile.{RowFile}
use Rattle.alt_families.specs.Opened.{IsOpen}
use Rattle.alt_families.specs.Paying.{IsPaid}
use Rattle.alt_families.specs.Ranges.{AreAhead, is_out, shown_in}
use Rattle.alt_families.specs.Reads.{is_passed, is_reached, passed_of, versions_of}
use Rattle.alt_families.specs.Sources.{source_left, source_width}
use Rattle.alt_families.specs.declared.source.Source.{Source}
use Rattle.alt_families.proofs.RangeLaws.{filter_back, is_within}
use Rattle.alt_families.proofs.StepLaws.{IsFirst}

-- ---- the key of the first row ahead is passed

-- what holds of all keys holds of those with a test
all_tested : (P : List ℕ → Type 0) (p : List ℕ → Bool) (es : RowList)
    → AllByRecursion (λ e. P e.0) es → AllByRecursion (λ e. P e.0) (filter (λ e. p e.0) es)
all_tested P p [] all = tt
all_tested P p (e ∷ es) all = by (p e.0) (all_tested P p es all.1)
  where
    by : (b : Bool) → AllByRecursion (λ e. P e.0) (filter (λ e. p e.0) es)
        → AllByRecursion (λ e. P e.0)
        (if b then e ∷ filter (λ e. p e.0) es else filter (λ e. p e.0) es)
    by true rest = (all.0, rest)
    by false rest = rest

-- and of those that show something
all_shown : (P : List ℕ → Type 0) (es : RowList) → AllByRecursion (λ e. P e.0) es
    → AllByRecursion (λ (e : List ℕ × Columns). P e.0) (shown_of row_shown es)
all_shown P [] all = tt
all_shown P (e ∷ es) all = by (row_shown e.1) (all_shown P es all.1)
  where
    by : (o : Option Columns)
        → AllByRecursion (λ (e : List ℕ × Columns). P e.0) (shown_of row_shown es)
        → AllByRecursion (λ (e : List ℕ × Columns). P e.0)
        (cons_option (option_map (λ c. (e.0, c)) o) (shown_of row_shown es))
    by None rest = rest
    by (Some c) rest = (all.0, rest)

-- the first key of a walk is before the others
at_or_before : (forward : Bool) (k : List ℕ) (es : RowList)
    → T (below_all (walk_cmp forward) k es)
    → AllByRecursion (λ d. is_le (walk_cmp forward k d.0) ≡ true) es
at_or_before forward k [] below = tt
at_or_before forward k (e ∷ es) below = (
  ap is_le (is_lt-holds (walk_cmp forward k e.0) (first_holds _ _ below)),
  at_or_before forward k es (second_holds _ _ below),
)

-- and is its own equal
same_key : (k : List ℕ) → key_cmp k k ≡ Equal
same_key k = is_eq-holds (key_cmp k k) (subst T (sym ((eq_by_cmp_equiv key_total).refl k)) tt)

at_itself : (forward : Bool) (k : List ℕ) → is_le (walk_cmp forward k k) ≡ true
at_itself true k = ap is_le (same_key k)
at_itself false k = ap is_le (same_key k)

-- so it is reached, however many rows are wanted
reached_first : (forward : Bool) (k : List ℕ) (shows : List (List ℕ × Columns)) (n : ℕ)
    → AllByRecursion (λ (d : List ℕ × Columns). is_le (walk_cmp forward k d.0) ≡ true) shows
    → is_reached forward (suc n) shows k ≡ true
reached_first forward k [] n all = refl
reached_first forward k (e ∷ es) zero all = all.0
reached_first forward k (e ∷ es) (suc n) all = reached_first forward k es n all.1

pub passed_first : (forward : Bool) (from : List ℕ) (to : Option (List ℕ))
    (e : List ℕ × RowCells) (more : RowList) (shows : List (List ℕ × Columns)) (n : ℕ)
    → AreAhead forward from to (e ∷ more) → shows ≡ shown_in from to (e ∷ more)
    → is_out forward from to e.0 ≡ false → is_passed forward from to (suc n) shows e.0 ≡ true
passed_first forward from to e more shows n are is out =
    both _ _ (is_within forward from to e.0 are.reached.0 out)
    (ap (λ l. is_reached forward (suc n) l e.0) is
    ∙ reached_first forward e.0 (shown_in from to (e ∷ more)) n
    (all_shown (λ k. is_le (walk_cmp forward e.0 k) ≡ true)
    (entries_between key_cmp (Included from) (end_bound to) (e ∷ more))
    (all_tested (λ k. is_le (walk_cmp forward e.0 k) ≡ true)
    (range_contains key_cmp (Included from) (end_bound to)) (e ∷ more)
    (at_itself forward e.0, at_or_before forward e.0 more (first_holds _ _ are.sorted)))))
  where
    both : (a b : Bool) → a ≡ true → b ≡ true → (a && b) ≡ true
    both true true yes_a yes_b = refl
    both true false yes_a yes_b = yes_b
    both false b yes_a yes_b = yes_a

-- ---- a step

-- what is passed is counted among all, and among those with such keys
passed_counts : {S : Type 0} (width : S → ℕ) (p : List ℕ → Bool) (key : List ℕ) → p key ≡ true
    → (xs : List S) (lists rest : List RowList) → Each2 (FirstRowMayBePassed key) lists rest
    → all_times width xs rest + all_times width xs (map (passed_of p) lists)
    ≡ all_times width xs lists + all_times width xs (map (passed_of p) rest)
passed_counts width p key is [] lists rest each = refl
passed_counts width p key is (x ∷ xs) [] [] each = refl
passed_counts width p key is (x ∷ xs) [] (r ∷ rest) each = absurd each
passed_counts width p key is (x ∷ xs) (l ∷ lists) [] each = absurd each
passed_counts width p key is (x ∷ xs) (l ∷ lists) (r ∷ rest) each =
    let one = one_counts (width x) l r each.0 in
    let more = passed_counts width p key is xs lists rest each.1 in
    omega (arith, one, more)
  where
    one_counts : (n : ℕ) (l r : RowList) → FirstRowMayBePassed key l r
        → times n r + times n (passed_of p l) ≡ times n l + times n (passed_of p r)
    one_counts n l r passed = ⊎_elim
        (λ (same : r ≡ l). ap (λ x. times n x + times n (passed_of p l)) same
        ∙ sym (ap (λ x. times n l + times n (passed_of p x)) same))
        (λ (taken : (row : RowCells) × (l ≡ (key, row) ∷ r)).
        ap (λ x. times n r + times n (passed_of p x)) taken.1
        ∙ ap (λ b. times n r + times n (if b then (key, taken.0) ∷ passed_of p r else passed_of p r))
        is
        ∙ (let swap : times n r + (n + times n (passed_of p r))
        ≡ (n + times n r) + times n (passed_of p r) = omega arith in swap)
        ∙ sym (ap (λ x. times n x + times n (passed_of p r)) taken.1)) passed

-- the row that a call gives stood first of what was left
pub paid_gives : (p : List ℕ → Bool) (most : ℕ) (a b : DiskState) (old new : Merge Source)
    (forward : Bool) (given : Option (List ℕ × RowCells))
    → ((lists : List RowList)
    → HasLists (source_left a) (sources_of old) (heads_of old) (is_forward old) lists
    → CallSpends source_width (source_left b) a.reads b.reads (sources_of old) (sources_of new)
    (heads_of old) (heads_of new) (is_forward old) lists given)
    → (rest : RowList) → IsPaid p most a old forward rest → IsFirst rest given
paid_gives p most a b old new forward given spends rest paid =
    let call = spends paid.lists (subst (λ f. HasLists (source_left a) (sources_of old)
    (heads_of old) f paid.lists) (sym paid.way) paid.has) in
    subst (λ r. IsFirst r given) (sym (paid.is ∙ ap (λ f. all_joined (walk_cmp f) join_row paid.lists)
    (sym paid.way)))
    (any given (all_joined (walk_cmp (is_forward old)) join_row paid.lists)
    (λ rows. rows ≡ all_joined (walk_cmp (is_forward old)) join_row call.0) call.2)
  where
    any : (given : Option (List ℕ × RowCells)) (rows : RowList) (After : RowList → Type 0)
        → Gives After rows given → IsFirst rows given
    any None [] After gives = tt
    any (Some e) [] After gives = gives
    any None (r ∷ rs) After gives = gives
    any (Some e) (r ∷ rs) After gives = (gives.0, tt)

-- and what is left then is paid for, where it is passed
pub paid_next : (p : List ℕ → Bool) (most : ℕ) (a b : DiskState) (old new : Merge Source)
    (forward : Bool) (given : Option (List ℕ × RowCells))
    → ((lists : List RowList)
    → HasLists (source_left a) (sources_of old) (heads_of old) (is_forward old) lists
    → CallSpends source_width (source_left b) a.reads b.reads (sources_of old) (sources_of new)
    (heads_of old) (heads_of new) (is_forward old) lists given)
    → map source_width (sources_of new) ≡ map source_width (sources_of old)
    → is_forward new ≡ is_forward old → (e : List ℕ × RowCells) → given ≡ Some e
    → p e.0 ≡ true → (more : RowList) → IsPaid p most a old forward (e ∷ more)
    → IsPaid p most b new forward more
paid_next p most a b old new forward given spends widths way e is passes more paid =
    let call = subst (λ f. CallSpends source_width (source_left b) a.reads b.reads (sources_of old)
    (sources_of new) (heads_of old) (heads_of new) f paid.lists (Some e)) paid.way
    (subst (λ g. CallSpends source_width (source_left b) a.reads b.reads (sources_of old)
    (sources_of new) (heads_of old) (heads_of new) (is_forward old) paid.lists g) is
    (spends paid.lists (subst (λ f. HasLists (source_left a) (sources_of old) (heads_of old) f
    paid.lists) (sym paid.way) paid.has))) in
    let first_is : Gives (λ rows. rows ≡ all_joined (walk_cmp forward) join_row call.0) (e ∷ more)
    (Some e) = subst (λ r. Gives (λ rows. rows ≡ all_joined (walk_cmp forward) join_row call.0) r
    (Some e)) (sym paid.is) call.2 in
    let counts = passed_counts source_width p e.0 passes (sources_of old) paid.lists call.0 call.4 in
    let all = same_times source_width (sources_of new) (sources_of old) call.0 widths in
    let counted = same_times source_width (sources_of new) (sources_of old)
    (map (passed_of p) call.0) widths in
    let before = paid.paid in
    let spent = call.3 in record {
      lists = call.0;
      has = call.1;
      way = way ∙ paid.way;
      is = first_is.1;
      paid = omega (arith, counts, all, counted, before, spent);
    }

-- what is due is paid for too
pub paid_due : (p : List ℕ → Bool) (most : ℕ) (a b : DiskState) (old : Merge Source)
    (forward : Bool) (rest : RowList)
    → b.reads ≤ a.reads + all_due source_width (heads_of old) (sources_of old)
    → IsPaid p most a old forward rest → b.reads ≤ most
paid_due p most a b old forward rest asks paid =
    let before = paid.paid in omega (arith, asks, before)

pub paid_now : (p : List ℕ → Bool) (most : ℕ) (a : DiskState) (old : Merge Source) (forward : Bool)
    (rest : RowList) → IsPaid p most a old forward rest → a.reads ≤ most
paid_now p most a old forward rest paid = let before = paid.paid in omega (arith, before)

-- ---- how many are wanted

-- where some are wanted the number has one before it
pub wanted_some : (forward : Bool) (from : List ℕ) (to : Option (List ℕ)) (left : ℕ)
    (shows : List (List ℕ × Columns)) (p : List ℕ → Bool) → 0 < left
    → (0 < left → (key : List ℕ) → is_passed forward from to left shows key ≡ p key)
    → (key : List ℕ) → is_passed forward from to (suc (left - 1)) shows key ≡ p key
wanted_some forward from to left shows p some passes =
    let same : left ≡ suc (left - 1) = omega (arith, some) in
    subst (λ n. (key : List ℕ) → is_passed forward from to n shows key ≡ p key) same (passes some)

-- after one was given the same keys are passed
pub wanted_next : (forward : Bool) (from : List ℕ) (to : Option (List ℕ)) (left : ℕ)
    (shows more : List (List ℕ × Columns)) (e : List ℕ × Columns) (p : List ℕ → Bool)
    → shows ≡ e ∷ more
    → (0 < left → (key : List ℕ) → is_passed forward from to left shows key ≡ p key)
    → 0 < left - 1 → (key : List ℕ) → is_passed forward from to (left - 1) more key ≡ p key
wanted_next forward from to zero shows more e p is passes some = absurd (omega (arith, some))
wanted_next forward from to (suc zero) shows more e p is passes some = absurd (omega (arith, some))
wanted_next forward from to (suc (suc n)) shows more e p is passes some =
    let same : suc n ≡ suc (suc n) - 1 = omega arith in
    subst (λ m. (key : List ℕ) → is_passed forward from to m more key ≡ p key) same
    (subst (λ l. (key : List ℕ) → is_passed forward from to (suc (suc n)) l key ≡ p key) is
    (passes (omega arith)))

-- ---- the start

-- sources as wide as these
abbrev total : List ℕ → ℕ
total [] = 0
total (n ∷ ns) = n + total ns

all_width_is : {S : Type 0} (width : S → ℕ) (xs : List S) → all_width width xs ≡ total (map width xs)
all_width_is width [] = refl
all_width_is width (x ∷ xs) = ap (λ n. width x + n) (all_width_is width xs)

total_ones : (fs : List RowFile) → total (map (λ _. 1) fs) ≡ length fs
total_ones [] = refl
total_ones (f ∷ fs) = let rest = total_ones fs in omega (arith, rest)

each_long : (s : DiskState) (fs : List RowFile) (ms : List RowMap) → Each2 (IsOpen s) fs ms
    → length fs ≡ length ms
each_long s [] [] each = refl
each_long s [] (m ∷ ms) each = absurd each
each_long s (f ∷ fs) [] each = absurd each
each_long s (f ∷ fs) (m ∷ ms) each = let rest = each_long s fs ms each.1 in omega (arith, rest)

-- what a walk has of rows is of these rows
fewer : (p q : List ℕ → Bool) (es : RowList)
    → length (passed_of p (filter (λ e. q e.0) es)) ≤ length (passed_of p es)
fewer p q [] = omega arith
fewer p q (e ∷ es) = by (q e.0) (p e.0) refl (fewer p q es)
  where
    by : (a b : Bool) → p e.0 ≡ b
        → length (passed_of p (filter (λ e. q e.0) es)) ≤ length (passed_of p es)
        → length (passed_of p (if a then e ∷ filter (λ e. q e.0) es else filter (λ e. q e.0) es))
        ≤ length (if b then e ∷ passed_of p es else passed_of p es)
    by true b is rest = subst (λ c. length (if c then e ∷ passed_of p (filter (λ e. q e.0) es)
        else passed_of p (filter (λ e. q e.0) es))
        ≤ length (if b then e ∷ passed_of p es else passed_of p es)) (sym is) (with b)
      where
        with : (b : Bool) → length (if b then e ∷ passed_of p (filter (λ e. q e.0) es)
            else passed_of p (filter (λ e. q e.0) es))
            ≤ length (if b then e ∷ passed_of p es else passed_of p es)
        with true = omega (arith, rest)
        with false = rest
    by false true is rest = omega (arith, rest)
    by false false is rest = rest

fewer_from : (p : List ℕ → Bool) (m : RowMap) (start : Option (List ℕ)) (forward : Bool)
    → length (passed_of p (rows_from m start forward)) ≤ length (passed_of p (entries m))
fewer_from p m start true = fewer p
    (range_contains key_cmp (first_bound true start) (last_bound true start)) (entries m)
fewer_from p m start false =
    let q = range_contains key_cmp (first_bound false start) (last_bound false start) in
    let same : length (passed_of p (rows_from m start false))
    ≡ length (passed_of p (filter (λ e. q e.0) (entries m))) =
    ap length (filter_back p (filter (λ e. q e.0) (entries m)))
    ∙ length-reverse (passed_of p (filter (λ e. q e.0) (entries m))) in
    let few = fewer p q (entries m) in omega (arith, same, few)

long_times : (es : RowList) → times 1 es ≡ length es
long_times [] = refl
long_times (e ∷ es) = let rest = long_times es in omega (arith, rest)

none_times : (es : RowList) → times 0 es ≡ 0
none_times [] = refl
none_times (e ∷ es) = let rest = none_times es in omega (arith, rest)

-- lists by the widths of their sources
abbrev weighed : List ℕ → List RowList → ℕ
weighed [] lists = 0
weighed (n ∷ ns) [] = 0
weighed (n ∷ ns) (l ∷ lists) = times n l + weighed ns lists

all_times_is : {S : Type 0} (width : S → ℕ) (xs : List S) (lists : List RowList)
    → all_times width xs lists ≡ weighed (map width xs) lists
all_times_is width [] lists = refl
all_times_is width (x ∷ xs) [] = refl
all_times_is width (x ∷ xs) (l ∷ lists) = ap (λ n. times (width x) l + n) (all_times_is width xs lists)

-- those of files have no more than the files
weighed_ones : (p : List ℕ → Bool) (start : Option (List ℕ)) (forward : Bool) (fs : List RowFile)
    (maps : List RowMap) → length fs ≡ length maps
    → weighed (map (λ _. 1) fs) (map (passed_of p) (map (λ m. rows_from m start forward) maps))
    ≤ versions_of p maps
weighed_ones p start forward [] maps same = omega arith
weighed_ones p start forward (f ∷ fs) [] same = omega arith
weighed_ones p start forward (f ∷ fs) (m ∷ maps) same =
    let one = fewer_from p m start forward in
    let long = long_times (passed_of p (rows_from m start forward)) in
    let more = weighed_ones p start forward fs maps (omega (arith, same)) in
    omega (arith, one, long, more)

-- after the seek each file was read once at most, and is due
pub paid_start : (p : List ℕ → Bool) (a b : DiskState) (old new : Merge Source) (forward : Bool)
    (start : Option (List ℕ)) (table rows : RowMap) (fs : List RowFile) (maps : List RowMap)
    → rows ≡ joined_map join_row table (all_rows maps) → Each2 (IsOpen a) fs maps
    → map source_width (sources_of old) ≡ 0 ∷ map (λ _. 1) fs
    → map source_width (sources_of new) ≡ map source_width (sources_of old)
    → b.reads ≤ a.reads + all_width source_width (sources_of old)
    → HasLists (source_left b) (sources_of new) (heads_of new) forward
    (map (λ m. rows_from m start forward) (table ∷ maps)) → is_forward new ≡ forward
    → IsPaid p (a.reads + (versions_of p maps + 2 * length maps)) b new forward
    (rows_from rows start forward)
paid_start p a b old new forward start table rows fs maps is each widths same_widths sought has way =
    let lists = map (λ (m : RowMap). rows_from m start forward) (table ∷ maps) in
    let long = each_long a fs maps each in
    let ones = total_ones fs in
    let wide_old : all_width source_width (sources_of old) ≡ 0 + total (map (λ _. 1) fs) =
    all_width_is source_width (sources_of old) ∙ ap total widths in
    let wide_new : all_width source_width (sources_of new) ≡ 0 + total (map (λ _. 1) fs) =
    all_width_is source_width (sources_of new) ∙ ap total (same_widths ∙ widths) in
    let due = due_le source_width (heads_of new) (sources_of new) in
    let counted : all_times source_width (sources_of new) (map (passed_of p) lists)
    ≡ times 0 (passed_of p (rows_from table start forward))
    + weighed (map (λ _. 1) fs) (map (passed_of p) (map (λ m. rows_from m start forward) maps)) =
    all_times_is source_width (sources_of new) (map (passed_of p) lists)
    ∙ ap (λ ws. weighed ws (map (passed_of p) lists)) (same_widths ∙ widths) in
    let none = none_times (passed_of p (rows_from table start forward)) in
    let few = weighed_ones p start forward fs maps long in record {
      lists = lists;
      has = has;
      way = way;
      is = ap (λ (r : RowMap). rows_from r start forward) is
          ∙ rows_from_all (table ∷ maps) start forward;
      paid = omega (arith, long, ones, wide_old, wide_new, due, counted, none, few, sought);
    }
