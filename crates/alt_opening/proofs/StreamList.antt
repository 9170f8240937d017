-- The list of changes whose rows a stream shows.
use Rattle.std.proofs.Common.{◌≡◌, ◌<◌, ◌≤◌, ◌^◌, refl, sym, ap, subst, ◌∙◌, ℕ, T, List, [], ◌∷◌, map, Option, Some, None, option_map, All, inl, inr, arith}
use Rattle.std.proofs.lemmas.Bool.{cases_order, false≢true}
use Rattle.std.proofs.lemmas.List.Elements.{All-cons, All-head, All-map, All-nil, All-tail}
use Rattle.std.proofs.lemmas.List.Kept.{AllPairs-cons}
use Rattle.std.proofs.lemmas.Option.{same_Some}
use Rattle.std.specs.FinMap as finite
use Rattle.std.specs.FinMap.Entries.{below_all, find, find-where_key, is_sorted, is_sorted-where_key, where_key}
use Rattle.std.specs.Option.{option_map_or}
use Rattle.std.specs.Ordering.{eq_by_cmp, is_gt, is_lt, nat_cmp}
use Rattle.std.specs.Prelude.{Bool, true, false, cond, if◌then◌else◌, option_and_then, IfSome}
use Rattle.alt_base.proofs.Bools.{first_holds, second_holds}
use Rattle.alt_base.proofs.Orderings.{nat_cmp-equal, nat_cmp-greater, nat_cmp-less}
use Rattle.alt_cells.specs.Changes.{Columns}
use Rattle.alt_cells.specs.Keys.{key_cmp}
use Rattle.alt_cells.specs.Shown.{row_shown}
use Rattle.alt_cells.specs.declared.row.RowCells.{RowCells}
use Rattle.alt_cells.proofs.CellLaws.{key_exact, key_total}
use Rattle.alt_cells.proofs.Entries.{find_below}
use Rattle.alt_cells.proofs.SameKeys.{key_itself, one_key}
use Rattle.alt_tablerows.specs.ChangeRows.{IsReadItem, change_columns, row_key}
use Rattle.alt_tablerows.specs.TrimRows.{trimmed_row, trimmed_told}
use Rattle.alt_layout.specs.Layout.{Layout, shown}
use Rattle.alt_machine.specs.State.{Change, Texts}
use Rattle.alt_machine.specs.Valid.{IsChange, IsChangeOfValues}
use Rattle.alt_machine.specs.declared.TheConstants.{NUMBERS_END}
use Rattle.alt_machine.proofs.Trimming.{Rise}
use Rattle.alt_schema.specs.declared.schema.TableSchema.{TableSchema}
use Rattle.alt_opening.specs.StateRows.{HasMoment, IsLeftover, keyed_changes}
use Rattle.alt_opening.specs.StreamScans.{ChangesRead, ChangesWhere, IsChangeAt, IsStreamRow, stream_trimmed, trimmed_in}
use Rattle.alt_opening.proofs.Assembled.{MayHave, none_had}
use Rattle.alt_opening.proofs.ChosenLaws.{IsRead, map_read}
use Rattle.alt_opening.proofs.OneStream.{ShowsStream, told-columns, zero_counts}
use Rattle.alt_opening.proofs.StreamKeys.{IsSmall, entries_keyed, key_one, key_order, keyed}
use Rattle.alt_tablerows.proofs.TrimLaws.{row_there}
use Rattle.alt_value.specs.Tree.{Pair}
use Rattle.alt_value.specs.Values.{IsItemOfValues}

-- ---- entries in the order of their keys

-- what is so of what stands at each key is so of each entry
each_entry : {X : Type 0} (P : List ℕ → X → Type 0) (es : List (List ℕ × X))
    → T (is_sorted key_cmp es) → ((key : List ℕ) (x : X) → find key_cmp key es ≡ Some x → P key x)
    → All (λ (e : List ℕ × X). P e.0 e.1) es
each_entry {X} P [] sorted all = All-nil (λ (e : List ℕ × X). P e.0 e.1)
each_entry {X} P (e ∷ es) sorted all = All-cons (λ (e : List ℕ × X). P e.0 e.1) e es
    (all e.0 e.1 (ap (λ b. cond b (Some e.1) (find key_cmp e.0 es)) (key_itself e.0)))
    (each_entry P es (second_holds _ _ sorted)
    (λ key x at. all key x (behind key x at (eq_by_cmp key_cmp key e.0) refl)))
  where
    behind : (key : List ℕ) (x : X) → find key_cmp key es ≡ Some x → (b : Bool)
        → eq_by_cmp key_cmp key e.0 ≡ b → cond b (Some e.1) (find key_cmp key es) ≡ Some x
    behind key x at true same = absurd (let no : None ≡ Some x =
        sym (find_below key_cmp key_total e.0 es (first_holds _ _ sorted))
        ∙ ap (λ k. find key_cmp k es) (sym (one_key key e.0 same)) ∙ at in cc no)
    behind key x at false other = at

-- an entry is a change at its own key, of a number that fits
abbrev pub IsOwn : List ℕ → Change → Type 0
IsOwn key c = (key ≡ row_key c.number) × IsSmall c

-- each entry is one
abbrev pub AreOwn : List (List ℕ × Change) → Type 0
AreOwn es = All (λ (e : List ℕ × Change). IsOwn e.0 e.1) es

-- the changes of entries
abbrev pub changes_in : List (List ℕ × Change) → List Change
changes_in es = map (λ (e : List ℕ × Change). e.1) es

-- at their keys they are those entries
keyed_in : (es : List (List ℕ × Change)) → AreOwn es → map keyed (changes_in es) ≡ es
keyed_in [] own = refl
keyed_in (e ∷ es) own =
    let here : e.0 ≡ row_key e.1.number =
    (All-head (λ (e : List ℕ × Change). IsOwn e.0 e.1) e es own).0 in
    let rest : map keyed (changes_in es) ≡ es =
    keyed_in es (All-tail (λ (e : List ℕ × Change). IsOwn e.0 e.1) e es own) in
    λ i. (sym here i, e.1) ∷ rest i

-- a number is below another where its order says so
number_below : (m n : ℕ) → T (is_lt (nat_cmp m n)) → m < n
number_below m n low = elim (cases_order m n) [
  | inl same ↦ absurd (subst (λ o. T (is_lt o)) (nat_cmp-equal m n same) low)
  | inr other ↦ elim other [
    | inl less ↦ less
    | inr more ↦ absurd (subst (λ o. T (is_lt o)) (nat_cmp-greater m n more) low)
  ]
]

-- those behind a key have greater numbers
numbers_above : (c : Change) → IsSmall c → (es : List (List ℕ × Change))
    → T (below_all key_cmp (row_key c.number) es) → AreOwn es
    → All (λ (x : Change). c.number < x.number) (changes_in es)
numbers_above c small [] below own = All-nil (λ (x : Change). c.number < x.number)
numbers_above c small (e ∷ es) below own =
    let here : IsOwn e.0 e.1 = All-head (λ (e : List ℕ × Change). IsOwn e.0 e.1) e es own in
    let low : T (is_lt (key_cmp (row_key c.number) (row_key e.1.number))) =
    subst (λ k. T (is_lt (key_cmp (row_key c.number) k))) here.0 (first_holds _ _ below) in
    All-cons (λ (x : Change). c.number < x.number) e.1 (changes_in es)
    (number_below c.number e.1.number
    (subst (λ o. T (is_lt o)) (key_order c.number e.1.number small here.1) low))
    (numbers_above c small es (second_holds _ _ below)
    (All-tail (λ (e : List ℕ × Change). IsOwn e.0 e.1) e es own))

-- so the numbers rise
rise_in : (es : List (List ℕ × Change)) → T (is_sorted key_cmp es) → AreOwn es
    → Rise (changes_in es)
rise_in [] sorted own = λ i j x less within. absurd (omega (arith, within))
rise_in (e ∷ es) sorted own =
    let here : IsOwn e.0 e.1 = All-head (λ (e : List ℕ × Change). IsOwn e.0 e.1) e es own in
    let rest : AreOwn es = All-tail (λ (e : List ℕ × Change). IsOwn e.0 e.1) e es own in
    AllPairs-cons (λ (a b : Change). a.number < b.number) e.1 (changes_in es)
    (numbers_above e.1 here.1 es
    (subst (λ k. T (below_all key_cmp k es)) here.0 (first_holds _ _ sorted)) rest)
    (rise_in es (second_holds _ _ sorted) rest)

-- ---- the list of a map

module _ (m : Texts Change)
    (own : (key : List ℕ) (c : Change) → finite.get m key ≡ Some c → IsOwn key c) where
  entries_own : AreOwn (finite.entries m)
  entries_own = each_entry IsOwn (finite.entries m) (finite.entries_sorted m)
      (λ key c at. own key c (finite.get-entries m key ∙ at))

  -- what holds of each change of the map holds of each of its list
  pub each_listed : (P : Change → Type 0)
      → ((key : List ℕ) (c : Change) → finite.get m key ≡ Some c → P c)
      → All P (changes_in (finite.entries m))
  each_listed P all = All-map P (λ (e : List ℕ × Change). e.1) (finite.entries m)
      (each_entry (λ key c. P c) (finite.entries m) (finite.entries_sorted m)
      (λ key c at. all key c (finite.get-entries m key ∙ at)))

  -- the changes that are listed rise
  pub rise_listed : Rise (changes_in (finite.entries m))
  rise_listed = rise_in (finite.entries m) (finite.entries_sorted m) entries_own

  -- and by their keys they are the map
  pub keyed_listed : keyed_changes (changes_in (finite.entries m)) ≡ m
  keyed_listed = finite.same_entries_map _ _
      (entries_keyed (changes_in (finite.entries m))
      (each_listed IsSmall (λ key c at. (own key c at).1)) rise_listed
      ∙ keyed_in (finite.entries m) entries_own)

-- ---- the list of a stream

-- the stream of a table shows these changes and what was trimmed, where it has one
abbrev pub ShowsChanges : Layout → TableSchema → ℕ → List Change → Type 0
ShowsChanges l d trimmed changes = (family : ℕ) → d.stream_family ≡ Some family
    → ShowsStream (shown l family) trimmed changes

-- it shows them, and that is what its rows tell
abbrev pub IsListed : Layout → TableSchema → ℕ → List Change → Type 0
IsListed l d trimmed changes = ShowsChanges l d trimmed changes × (trimmed ≡ stream_trimmed l d)

held_item : (o : Option (List Pair)) → IfSome o IsReadItem → IfSome o IsItemOfValues
held_item None is = tt
held_item (Some item) is = is.whole.0

module _ (l : Layout) (d : TableSchema)
    (number : (1 ≤ l.next_number) × (l.next_number ≤ NUMBERS_END)) (family : ℕ)
    (stream : d.stream_family ≡ Some family)
    (read : ChangesWhere (λ key. Unit {0}) l d l.next_number (trimmed_in l family) family) where
  -- what was trimmed
  abbrev z : ℕ
  z = trimmed_in l family

  -- what a row of number 0 tells is below the next number, and the row is that of what it tells
  zero_told : (row : Columns) → shown l family (row_key 0) ≡ Some row
      → IsStreamRow d l.next_number z (row_key 0) row
      → (z < l.next_number) × (shown l family (row_key 0) ≡ trimmed_row z)
  zero_told row e (inl is) =
      let (n, low, high, same) = is.1 in
      let told : z ≡ n = ap trimmed_told e ∙ ap (λ r. trimmed_told (Some r)) same
      ∙ told-columns n (omega (arith, high, number.1)) in (
        omega (arith, told, high),
        e ∙ ap (λ r. Some r) same ∙ sym (row_there n low) ∙ ap trimmed_row (sym told),
      )
  zero_told row e (inr (inl left)) = absurd (zero_counts z
      (omega (arith, left.0, number.1)) left.1)
  zero_told row e (inr (inr is)) =
      let (c, at, may, above) = is in
      let same : 0 ≡ c.number = key_one 0 c.number (omega arith) at.number at.place in
      absurd (omega (arith, same, above))

  zero_read : (z < l.next_number) × (shown l family (row_key 0) ≡ trimmed_row z)
  zero_read = by (shown l family (row_key 0)) refl
    where
      by : (o : Option Columns) → shown l family (row_key 0) ≡ o
          → (z < l.next_number) × (shown l family (row_key 0) ≡ trimmed_row z)
      by None e =
          let none : z ≡ 0 = ap trimmed_told e in
          (omega (arith, none, number.0), e ∙ sym (ap trimmed_row none))
      by (Some row) e = zero_told row e (read (row_key 0) row tt e)

  z_small : z < 2 ^ 64
  z_small = let low = zero_read.0 in omega (arith, low, number.1)

  -- a key lies behind that of what was trimmed
  abbrev past : List ℕ → Bool
  past key = is_gt (key_cmp key (row_key z))

  -- as those of greater numbers do, and no others
  past_above : (n : ℕ) → n < 2 ^ 64 → z < n → past (row_key n) ≡ true
  past_above n small high = ap is_gt (key_order n z small z_small ∙ nat_cmp-greater n z high)

  past_not : (n : ℕ) → n ≤ z → past (row_key n) ≡ false
  past_not n low = elim (cases_order n z) [
    | inl same ↦ ap is_gt (order ∙ nat_cmp-equal n z same)
    | inr other ↦ elim other [
      | inl less ↦ ap is_gt (order ∙ nat_cmp-less n z less)
      | inr more ↦ absurd (omega (arith, low, more))
    ]
  ]
    where
      order : key_cmp (row_key n) (row_key z) ≡ nat_cmp n z
      order = key_order n z (let small = z_small in omega (arith, low, small)) z_small

  -- the rows behind
  abbrev rows_past : finite.FinMap key_cmp RowCells
  rows_past = finite.from_sorted (where_key key_cmp past (finite.entries (l.rows family)))

  get_past : (key : List ℕ) → finite.get rows_past key
      ≡ cond (past key) (finite.get (l.rows family) key) None
  get_past key =
      finite.get-from_sorted key_cmp (where_key key_cmp past (finite.entries (l.rows family))) key
      (is_sorted-where_key key_cmp past (finite.entries (l.rows family))
      (finite.entries_sorted (l.rows family)))
      ∙ find-where_key key_cmp past key (λ x same. ap past (sym (key_exact key x same)))
      (finite.entries (l.rows family))
      ∙ ap (λ o. cond (past key) o None) (sym (finite.get-entries (l.rows family) key))

  -- what is shown there
  abbrev shown_past : List ℕ → Option Columns
  shown_past key = option_and_then row_shown (finite.get rows_past key)

  past_shown : (key : List ℕ) → (b : Bool) → past key ≡ b
      → shown_past key ≡ (if b then shown l family key else None)
  past_shown key b e = ap (option_and_then row_shown) (get_past key
      ∙ ap (λ x. cond x (finite.get (l.rows family) key) None) e) ∙ by b
    where
      by : (b : Bool) → option_and_then row_shown (cond b (finite.get (l.rows family) key) None)
          ≡ (if b then shown l family key else None)
      by true = refl
      by false = refl

  -- a row is that of a change which the table may keep
  abbrev IsRow : List ℕ → Columns → Change → Type 0
  IsRow key row c = IsChangeAt key row c × IsChange d l.next_number c × (z < c.number)

  -- each row behind is
  kept_past : (key : List ℕ) (row : Columns) → past key ≡ true
      → IsStreamRow d l.next_number z key row → (c : Change) × IsRow key row c
  kept_past key row e (inl is) = absurd (false≢true (sym (past_not 0 (omega arith))
      ∙ ap past (sym is.0) ∙ e))
  kept_past key row e (inr (inl left)) = absurd (false≢true (sym (past_not left.1.0 left.1.2)
      ∙ ap past (sym left.1.3) ∙ e))
  kept_past key row e (inr (inr is)) = (is.0, (is.1, is.2, is.3))

  -- and no row before, but one that is left over or tells what was trimmed
  none_before : (key : List ℕ) (row : Columns) → past key ≡ false → (key ≡ row_key 0 → ⊥)
      → (IsLeftover z key → ⊥) → IsStreamRow d l.next_number z key row → ⊥
  none_before key row e off counts (inl is) = off is.0
  none_before key row e off counts (inr (inl left)) = counts left.1
  none_before key row e off counts (inr (inr is)) =
      let (c, at, may, above) = is in
      false≢true (sym e ∙ ap past at.place ∙ past_above c.number at.number above)

  rows : (m : Texts Change) × ((key : List ℕ)
      → IsRead row_shown IsRow (shown_past key) (finite.get m key) key)
  rows = map_read row_shown IsRow rows_past (λ key row at. by key row at (past key) refl)
    where
      by : (key : List ℕ) (row : Columns) → shown_past key ≡ Some row → (b : Bool)
          → past key ≡ b → (c : Change) × IsRow key row c
      by key row at true e = kept_past key row e
          (read key row tt (sym (past_shown key true e) ∙ at))
      by key row at false e = absurd (let no : None ≡ Some row =
          sym (past_shown key false e) ∙ at in cc no)

  row_read : (key : List ℕ) (c : Option Columns) (o : Option Change)
      → IsRead row_shown IsRow c o key → c ≡ option_map change_columns o
  row_read key None o is = sym (ap (option_map change_columns) is)
  row_read key (Some c) o is = ap (λ x. Some x) is.1.1.0.row
      ∙ sym (ap (option_map change_columns) is.1.0)

  of_row : (key : List ℕ) (c : Option Columns) (o : Option Change)
      → IsRead row_shown IsRow c o key → (x : Change) → o ≡ Some x
      → (columns : Columns) × IsRow key columns x
  of_row key None o is x at = absurd (let none : None ≡ Some x = sym is ∙ at in cc none)
  of_row key (Some c) o is x at =
      (c, subst (IsRow key c) (same_Some _ _ (sym is.1.0 ∙ at)) is.1.1)

  is_row : (key : List ℕ) (c : Change) → finite.get rows.0 key ≡ Some c
      → (columns : Columns) × IsRow key columns c
  is_row key c at = of_row key (shown_past key) (finite.get rows.0 key) (rows.1 key) c at

  own : (key : List ℕ) (c : Change) → finite.get rows.0 key ≡ Some c → IsOwn key c
  own key c at =
      let is = (is_row key c at).1.0 in (is.place, is.number)

  -- the list of the changes that are kept
  abbrev kept : List Change
  kept = changes_in (finite.entries rows.0)

  may_have : MayHave l.next_number d z kept
  may_have = record {
    are = record {
      each = each_listed rows.0 own (IsChange d l.next_number)
          (λ key c at. (is_row key c at).1.1);
      rise = rise_listed rows.0 own;
      above = each_listed rows.0 own (λ (c : Change). z < c.number)
          (λ key c at. (is_row key c at).1.2);
      trimmed_before = zero_read.0;
      none = λ none. absurd (let no : None ≡ Some family = sym none ∙ stream in
          let f : ⊥ = cc in f);
    };
    held = each_listed rows.0 own IsChangeOfValues (λ key c at.
        let is = (is_row key c at).1.0 in
        (held_item c.old is.read.old, held_item c.new is.read.new));
    moments = each_listed rows.0 own HasMoment
        (λ key c at. (is_row key c at).1.0.read.moment);
  }

  -- the stream shows it
  kept_shown : ShowsStream (shown l family) z kept
  kept_shown key counts = by (eq_by_cmp key_cmp key (row_key 0)) refl
    where
      -- before it nothing is shown that counts
      nothing : past key ≡ false → (key ≡ row_key 0 → ⊥) → (o : Option Columns)
          → shown l family key ≡ o → o ≡ None
      nothing e off None at = refl
      nothing e off (Some row) at =
          absurd (none_before key row e off counts (read key row tt at))

      all_past : (key ≡ row_key 0 → ⊥) → (b : Bool) → past key ≡ b
          → shown l family key ≡ shown_past key
      all_past off true e = sym (past_shown key true e)
      all_past off false e = nothing e off (shown l family key) refl
          ∙ sym (past_shown key false e)

      by : (b : Bool) → eq_by_cmp key_cmp key (row_key 0) ≡ b → shown l family key
          ≡ (if b then trimmed_row z
          else option_map change_columns (finite.get (keyed_changes kept) key))
      by true same = ap (shown l family) (one_key key (row_key 0) same) ∙ zero_read.1
      by false other = all_past (λ same. false≢true (sym other
          ∙ ap (λ k. eq_by_cmp key_cmp k (row_key 0)) same ∙ key_itself (row_key 0)))
          (past key) refl
          ∙ row_read key (shown_past key) (finite.get rows.0 key) (rows.1 key)
          ∙ ap (λ n. option_map change_columns (finite.get n key))
          (sym (keyed_listed rows.0 own))

  listed : (trimmed : ℕ) × (cs : List Change) × MayHave l.next_number d trimmed cs
      × IsListed l d trimmed cs
  listed = (
    z,
    kept,
    may_have,
    (
      λ other same key counts. ap (λ f. shown l f key) (same_Some other family (sym same ∙ stream))
          ∙ kept_shown key counts,
      sym (ap (λ o. option_map_or (trimmed_in l) o 0) stream),
    ),
  )

-- Where its rows are read a stream shows the changes of a list, which its table may have, and what was trimmed.
pub list_read : (l : Layout) (d : TableSchema)
    → (1 ≤ l.next_number) × (l.next_number ≤ NUMBERS_END) → ChangesRead l d
    → (trimmed : ℕ) × (cs : List Change) × MayHave l.next_number d trimmed cs
    × IsListed l d trimmed cs
list_read l d number read = by d.stream_family refl
  where
    by : (o : Option ℕ) → d.stream_family ≡ o
        → (trimmed : ℕ) × (cs : List Change) × MayHave l.next_number d trimmed cs
        × IsListed l d trimmed cs
    by None none = (
      0,
      [],
      none_had l.next_number d (omega (arith, number.0)),
      (
        λ family stream key counts. absurd (
            let no : None ≡ Some family = sym none ∙ stream in let f : ⊥ = cc in f),
        sym (ap (λ o. option_map_or (trimmed_in l) o 0) none),
      ),
    )
    by (Some family) stream = listed l d number family stream (read family stream)
