-- The rows of a stream after a write: those of the changes that are kept with the one that the write leaves, the trimmed number where it
-- rises, and fewer rows that are left over. Which of these go is left open: they count for nothing.
use Rattle.std.proofs.Common.{◌≡◌, ◌<◌, ◌≤◌, ◌+◌, ◌^◌, refl, sym, ap, subst, ◌∙◌, ℕ, Bool, true, false, cond, List, [], ◌∷◌, ◌++◌, map, Option, Some, None, option_map, All, arith}
use Rattle.std.proofs.lemmas.Bool.{eqb-true}
use Rattle.std.proofs.lemmas.List.Elements.{All-head, All-tail}
use Rattle.std.specs.FinMap as finite
use Rattle.std.specs.Int.{w64, to_be_bytes}
use Rattle.std.specs.Option.{option_map_or, option_to_list}
use Rattle.std.specs.Ordering.{eq_by_cmp}
use Rattle.std.specs.Prelude.{◌==◌, if◌then◌else◌, is_some, codes}
use Rattle.alt_cells.specs.Changes.{CanShow, change_between, written}
use Rattle.alt_cells.specs.Keys.{key_cmp}
use Rattle.alt_cells.specs.declared.batch.RowChange.{RowChange}
use Rattle.alt_cells.proofs.CellLaws.{key_total}
use Rattle.alt_cells.proofs.ChangeLaws.{none_shown, written-change_between}
use Rattle.alt_cells.proofs.SameKeys.{key_itself, one_key}
use Rattle.alt_changes.specs.ChangeRows.{change_columns, row_change, row_changes, row_key}
use Rattle.alt_changes.specs.TrimRows.{AreLeft, hidden, trim_changes, trimmed_changes, trimmed_columns, trimmed_row}
use Rattle.alt_changes.proofs.RowLaws.{change_can_show}
use Rattle.alt_layout.specs.Layout.{Layout, change_of, shown, shown_by}
use Rattle.alt_writes.specs.Writes.{Write}
use Rattle.alt_layout.specs.Writes.{with_write}
use Rattle.alt_codec.specs.declared.writer.Writer.{Writer}
use Rattle.alt_machine.specs.Changes.{change_left, trimmed_with, with_change}
use Rattle.alt_machine.specs.Same.{is_same}
use Rattle.alt_machine.specs.State.{Change}
use Rattle.alt_machine.specs.Trimming.{kept, trimmed_at}
use Rattle.alt_machine.specs.Valid.{AreChanges, IsChange}
use Rattle.alt_machine.specs.declared.TheConstants.{NUMBERS_END}
use Rattle.alt_machine.proofs.Trimming.{Above, Rise, trimmed_least}
use Rattle.alt_schema.specs.declared.schema.TableSchema.{TableSchema}
use Rattle.alt_opening.specs.StateRows.{IsLeftover, keyed_changes, stream_row}
use Rattle.alt_opening.proofs.StreamKeys.{IsSmall, keyed_more, keys_differ}
use Rattle.alt_opening.proofs.KeptChanges.{are_small, each_so}
use Rattle.alt_rowchanges.proofs.ChangeLaws.{ShowsWrite}
use Rattle.alt_rowchanges.proofs.TrimKeys.{get_kept}
use Rattle.alt_value.specs.Tree.{Pair}
use Rattle.alt_views.proofs.ItemRowLaws.{can_show}

-- the row of number 0 can be shown
pub trimmed_can_show : (trimmed : ℕ) → CanShow (trimmed_row trimmed)
trimmed_can_show trimmed = by (trimmed == 0)
  where
    by : (b : Bool) → CanShow (if b then None else Some (trimmed_columns trimmed))
    by true = none_shown
    by false = can_show (trimmed_columns trimmed) (codes "x") (to_be_bytes w64 trimmed)
        (finite.get-insert key_total finite.empty (codes "x") (to_be_bytes w64 trimmed) (codes "x")
        ∙ ap (λ b. cond b (Some (to_be_bytes w64 trimmed)) (finite.get (finite.empty {R = key_cmp}) (codes "x")))
        (key_itself (codes "x")))

-- a key that isn't left over is none of a row that is hidden
pub hidden_none : (family trimmed : ℕ) (key : List ℕ) (ks : List ℕ) → AreLeft trimmed ks
    → (IsLeftover trimmed key → ⊥) → change_of family key (map (hidden family) ks) ≡ None
hidden_none family trimmed key [] left counts = refl
hidden_none family trimmed key (k ∷ ks) left counts = by
    (hidden_none family trimmed key ks (All-tail (λ (k : ℕ). (1 ≤ k) × (k ≤ trimmed)) k ks left) counts)
    (family == family) (eq_by_cmp key_cmp key (row_key k)) refl
  where
    by : change_of family key (map (hidden family) ks) ≡ None → (own b : Bool) → eq_by_cmp key_cmp key (row_key k) ≡ b
        → (if own then (if b then Some (hidden family k)
        else change_of family key (map (hidden family) ks))
        else change_of family key (map (hidden family) ks)) ≡ None
    by rest true true same =
        let of = All-head (λ (k : ℕ). (1 ≤ k) × (k ≤ trimmed)) k ks left in
        absurd (counts (k, of.0, of.1, one_key key (row_key k) same))
    by rest true false differs = rest
    by rest false b differs = rest

-- a change of one row, and others behind it
pub change_first : (c : RowChange) (key : List ℕ) (cs : List RowChange)
    → change_of c.family key (c ∷ cs)
    ≡ (if eq_by_cmp key_cmp key c.key then Some c else change_of c.family key cs)
change_first c key cs = ap (λ b. if b then (if eq_by_cmp key_cmp key c.key then Some c
    else change_of c.family key cs) else change_of c.family key cs) (own c.family)
  where
    own : (n : ℕ) → (n == n) ≡ true
    own n = grind arith

-- ---- the stream after a write

module _ (family moment before : ℕ) (change : Change) (cs : List Change) (leftovers : List ℕ)
    (small : change.number < 2 ^ 64) (some : 1 ≤ change.number)
    (small_all : All IsSmall cs) (rise : Rise cs) (above : Above before cs)
    (small_with : All IsSmall (cs ++ change ∷ [])) (rise_with : Rise (cs ++ change ∷ []))
    (above_with : Above before (cs ++ change ∷ []))
    (below : All (λ (x : Change). x.number < change.number) cs) where
  -- all changes with the one that comes, the trimmed number then, and the row changes of that
  abbrev all : List Change
  all = cs ++ change ∷ []

  abbrev after : ℕ
  after = trimmed_at moment before all

  abbrev behind : List RowChange
  behind = trimmed_changes family before after ++ map (hidden family) leftovers

  abbrev zero_change : RowChange
  zero_change = change_between family (row_key 0) (trimmed_row before) (trimmed_row after)

  -- what counts for nothing before counts for nothing then
  counted : (key : List ℕ) → (IsLeftover after key → ⊥) → IsLeftover before key → ⊥
  counted key counts left =
      let more = trimmed_least moment before all rise_with above_with in
      let most = left.2 in
      counts (left.0, left.1, omega (arith, most, more), left.3)

  -- the row changes behind that of the change are of number 0 alone, as far as they count
  of_behind : AreLeft after leftovers → (key : List ℕ) → (IsLeftover after key → ⊥)
      → change_of family key behind ≡ (if before == after then None
      else (if eq_by_cmp key_cmp key (row_key 0) then Some zero_change else None))
  of_behind left key counts = by (before == after)
    where
      none : change_of family key (map (hidden family) leftovers) ≡ None
      none = hidden_none family after key leftovers left counts

      by : (b : Bool)
          → change_of family key ((if b then [] else zero_change ∷ []) ++ map (hidden family) leftovers)
          ≡ (if b then None
          else (if eq_by_cmp key_cmp key (row_key 0) then Some zero_change else None))
      by true = none
      by false = change_first zero_change key (map (hidden family) leftovers)
          ∙ ap (λ (o : Option RowChange). if eq_by_cmp key_cmp key (row_key 0) then Some zero_change
          else o) none

  -- what is found among the changes that are kept
  found : (key : List ℕ) → (IsLeftover after key → ⊥)
      → finite.get (keyed_changes (kept moment all)) key
      ≡ cond (eq_by_cmp key_cmp key (row_key change.number)) (Some change)
      (finite.get (keyed_changes cs) key)
  found key counts = get_kept moment before key all small_with rise_with above_with counts
      ∙ keyed_more cs change small_all rise small_with rise_with small below key

  -- What each key shows that isn't left over: the trimmed number, and the changes that are kept.
  pub trimmed_shows : AreLeft after leftovers → (l : Layout) (w : Write) → ShowsWrite l w
      → ((key : List ℕ) → change_of family key w.changes
      ≡ change_of family key (row_change family change ∷ behind))
      → ((key : List ℕ) → (IsLeftover before key → ⊥)
      → shown l family key ≡ stream_row before cs key)
      → (key : List ℕ) → (IsLeftover after key → ⊥)
      → shown (with_write l w) family key ≡ stream_row after (kept moment all) key
  trimmed_shows left l w law changes shows key counts =
      law family key
      ∙ ap (λ c. shown_by c (shown l family key))
      (changes key ∙ change_first (row_change family change) key behind)
      ∙ by_number (eq_by_cmp key_cmp key (row_key change.number)) refl
    where
      was : shown l family key ≡ stream_row before cs key
      was = shows key (counted key counts)

      -- the key of number 0
      by_zero : (b : Bool) → eq_by_cmp key_cmp key (row_key change.number) ≡ false
          → eq_by_cmp key_cmp key (row_key 0) ≡ b
          → shown_by (if before == after then None
          else (if b then Some zero_change else None)) (shown l family key)
          ≡ (if b then trimmed_row after
          else option_map change_columns (finite.get (keyed_changes (kept moment all)) key))
      by_zero true other is = by_rise (before == after) refl
        where
          at_zero : shown l family key ≡ trimmed_row before
          at_zero = was ∙ ap (λ b. if b then trimmed_row before
              else option_map change_columns (finite.get (keyed_changes cs) key)) is

          by_rise : (b : Bool) → (before == after) ≡ b
              → shown_by (if b then None else Some zero_change) (shown l family key)
              ≡ trimmed_row after
          by_rise true same = at_zero ∙ ap trimmed_row (eqb-true before after same)
          by_rise false rises = ap (written zero_change) at_zero
              ∙ written-change_between family (row_key 0) (trimmed_row before) (trimmed_row after)
              (trimmed_can_show after)
      by_zero false other not = stays (before == after)
          ∙ was
          ∙ ap (λ b. if b then trimmed_row before
          else option_map change_columns (finite.get (keyed_changes cs) key)) not
          ∙ ap (option_map change_columns) (sym (found key counts
          ∙ ap (λ b. cond b (Some change) (finite.get (keyed_changes cs) key)) other))
        where
          stays : (b : Bool) → shown_by (if b then None else None) (shown l family key)
              ≡ shown l family key
          stays true = refl
          stays false = refl

      by_number : (b : Bool) → eq_by_cmp key_cmp key (row_key change.number) ≡ b
          → shown_by (if b then Some (row_change family change) else change_of family key behind)
          (shown l family key) ≡ stream_row after (kept moment all) key
      by_number true same =
          written-change_between family (row_key change.number) None (Some (change_columns change))
          (change_can_show change)
          ∙ ap (option_map change_columns) (sym (found key counts
          ∙ ap (λ b. cond b (Some change) (finite.get (keyed_changes cs) key)) same))
          ∙ sym (ap (λ b. if b then trimmed_row after
          else option_map change_columns (finite.get (keyed_changes (kept moment all)) key))
          (ap (λ k. eq_by_cmp key_cmp k (row_key 0)) (one_key key (row_key change.number) same)
          ∙ keys_differ change.number 0 small (omega arith)
          (λ is. let none : change.number ≡ 0 = is in omega (arith, some, none))))
      by_number false other =
          ap (λ c. shown_by c (shown l family key)) (of_behind left key counts)
          ∙ by_zero (eq_by_cmp key_cmp key (row_key 0)) other refl

-- ---- in a table

module _ (d : TableSchema) (family : ℕ) (stream : d.stream_family ≡ Some family) (n moment : ℕ)
    (writer : Writer) (before : ℕ) (old new : Option (List Pair)) (differ : is_same old new ≡ false)
    (cs : List Change) (leftovers : List ℕ) where
  -- the change that the write leaves
  abbrev change_made : Change
  change_made = record {
    number = n;
    moment = moment;
    old = old;
    new = new;
    by = writer;
  }

  is_left : change_left n moment writer old new ≡ Some change_made
  is_left = ap (λ b. if b then None else Some change_made) differ

  abbrev kept_then : List Change
  kept_then = with_change d moment (change_left n moment writer old new) cs

  abbrev trimmed_then : ℕ
  trimmed_then = trimmed_with d moment (change_left n moment writer old new) cs before

  is_kept : kept_then ≡ kept moment (cs ++ change_made ∷ [])
  is_kept i = if is_some (stream i) then kept moment (cs ++ option_to_list (is_left i)) else cs

  is_trimmed : trimmed_then ≡ trimmed_at moment before (cs ++ change_made ∷ [])
  is_trimmed i =
      if is_some (stream i) then trimmed_at moment before (cs ++ option_to_list (is_left i)) else before

  -- the row changes of the write in the family
  is_changed : (row_changes d (change_left n moment writer old new)
      ++ trim_changes d before trimmed_then leftovers)
      ≡ row_change family change_made ∷ (trimmed_changes family before
      (trimmed_at moment before (cs ++ change_made ∷ [])) ++ map (hidden family) leftovers)
  is_changed i =
      option_map_or (λ f. map (row_change f) (option_to_list (is_left i))) (stream i) []
      ++ option_map_or (λ f. trimmed_changes f before (is_trimmed i) ++ map (hidden f) leftovers)
      (stream i) []

  -- What the family shows after the write are the changes that are kept, and the trimmed number.
  pub stream_shows : (l : Layout) (w : Write) → ShowsWrite l w → 1 ≤ n
      → AreChanges d n before cs → AreChanges d (n + 1) before (cs ++ change_made ∷ [])
      → n < NUMBERS_END → AreLeft trimmed_then leftovers
      → ((key : List ℕ) → change_of family key w.changes
      ≡ change_of family key (row_changes d (change_left n moment writer old new)
      ++ trim_changes d before trimmed_then leftovers))
      → ((key : List ℕ) → (IsLeftover before key → ⊥)
      → shown l family key ≡ stream_row before cs key)
      → (key : List ℕ) → (IsLeftover trimmed_then key → ⊥)
      → shown (with_write l w) family key ≡ stream_row trimmed_then kept_then key
  stream_shows l w law some was with_it room left changes shows key counts =
      trimmed_shows family moment before change_made cs leftovers (omega (arith, room)) some
      (are_small d n before cs (omega (arith, room)) was) was.rise was.above
      (are_small d (n + 1) before (cs ++ change_made ∷ []) (omega (arith, room)) with_it)
      with_it.rise with_it.above
      (each_so (IsChange d n) (λ (x : Change). x.number < n) cs (λ c is. is.number) was.each)
      (subst (λ z. AreLeft z leftovers) is_trimmed left) l w law
      (λ key. changes key ∙ ap (change_of family key) is_changed)
      shows key
      (λ over. counts (subst (λ z. IsLeftover z key) (sym is_trimmed) over))
      ∙ (λ i. stream_row (sym is_trimmed i) (sym is_kept i) key)
