-- The changes that are read from the rows of a walk over the family of a stream.
use Rattle.std.proofs.Common.{◌≡◌, ◌<◌, ◌≤◌, ◌+◌, ◌^◌, refl, sym, ap, subst, ◌∙◌, ℕ, zero, suc, Bool, true, false, cond, T, List, [], ◌∷◌, ◌++◌, map, max, take, Option, Some, None, IsTrue, All, option_map, Equal, arith}
use Rattle.std.proofs.lemmas.Bool.{false≢true, lt-leb, leb-false, leb-true, le-leb}
use Rattle.std.proofs.lemmas.List.Elements.{All-head, All-tail, All-filter}
use Rattle.std.specs.BTreeMap.Range.{range_contains}
use Rattle.std.specs.FinMap as finite
use Rattle.std.specs.FinMap.Entries.{find, find-where_key, is_sorted, is_sorted-where_key, same_entries, where_key}
use Rattle.std.specs.List.{filter}
use Rattle.std.specs.Option.{option_map_or}
use Rattle.std.specs.Ordering.{eq_by_cmp, is_le}
use Rattle.std.specs.Prelude.{◌&&◌, if◌then◌else◌, nat_le, option_and_then}
use Rattle.std.specs.declared.ops.Bound.TheVariants.{Included, Unbounded}
use Rattle.alt_base.proofs.Orderings.{nat_cmp-greater}
use Rattle.alt_cells.specs.Changes.{Columns}
use Rattle.alt_cells.specs.Keys.{key_cmp}
use Rattle.alt_cells.proofs.CellLaws.{key_exact, key_total}
use Rattle.alt_cells.proofs.SameKeys.{one_key}
use Rattle.alt_changes.specs.ChangeRows.{change_columns, row_key}
use Rattle.alt_changes.specs.TrimRows.{trimmed_row}
use Rattle.alt_disk.specs.Disk.{DiskState}
use Rattle.alt_disk.proofs.Runs.{tells_of}
use Rattle.alt_rowchanges.specs.OpeningEngineInHand.{ReadsLayout as EngineReads}
use Rattle.alt_layout.specs.Layout.{Layout, rows_between, shown, shown_of, shown_rows}
use Rattle.alt_layout.proofs.ShownLaws.{find-shown, is_sorted-shown, get-shown_rows}
use Rattle.alt_machine.specs.Ops.GetRecords.{changes_from}
use Rattle.alt_machine.specs.State.{Change, State, Table, Texts}
use Rattle.alt_machine.specs.Valid.{AreChanges}
use Rattle.alt_machine.proofs.Trimming.{Above}
use Rattle.alt_schema.specs.declared.schema.TableSchema.{TableSchema}
use Rattle.alt_rowchanges.specs.Pages.{AreChangesOf}
use Rattle.alt_rowchanges.specs.OpeningStateRows.{keyed_changes}
use Rattle.alt_rowchanges.specs.OpeningTrimmed.{number_at}
use Rattle.alt_tables.specs.Stands.{Stands, catalog_of, trimmed_of}
use Rattle.alt_tables.specs.declared.tables.Tables.{Tables}
use Rattle.alt_tables.proofs.Pages.{as_row, placed_between, row_at, row_of, same_table, shown_of-rows}
use Rattle.alt_rowchanges.proofs.OpeningOneStream.{ShowsStream}
use Rattle.alt_rowchanges.proofs.OpeningStreamKeys.{IsKept, IsSmall, entries_keyed, filter_keyed, key_order, keyed}
use Rattle.alt_rowchanges.proofs.OpeningKeptChanges.{are_kept, are_small}
use Rattle.alt_value.specs.Members.{text_order}

-- of none there are no first ones
pub take_none : (n : ℕ) → take {A = Change} n [] ≡ []
take_none zero = refl
take_none (suc n) = refl

-- ---- the rows of a walk

-- the rows of changes are those of the first of them
are-take : (n : ℕ) (cs : List Change) → All IsKept cs
    → AreChangesOf (take n (map (row_at change_columns) (map keyed cs))) (take n cs)
are-take zero cs kept = tt
are-take (suc n) [] kept = tt
are-take (suc n) (c ∷ cs) kept =
    let is = All-head IsKept c cs kept in (
      record { above = is.2; number = is.0; place = refl; read = is.1; row = refl },
      are-take n cs (All-tail IsKept c cs kept),
    )

-- ---- the rows from a key on

module _ {X : Type 0} (columns : X → Columns) (l : Layout) (family : ℕ) (items : Texts X)
    (from : List ℕ) where
  -- a key isn't before it
  abbrev within : List ℕ → Bool
  within key = range_contains key_cmp (Included from) Unbounded key

  -- where the rows there are those of its items, they are so in the order of their places
  pub rows_from : ((key : List ℕ) → within key ≡ true
      → shown l family key ≡ option_map columns (finite.get items key))
      → rows_between l family from None true
      ≡ map (row_at columns) (placed_between items from None true)
  rows_from shows = same_entries key_cmp key_total key_exact _ _
      (is_sorted-where_key key_cmp within (finite.entries (shown_rows l family))
      (finite.entries_sorted (shown_rows l family)))
      (is_sorted-shown (as_row columns) (where_key key_cmp within (finite.entries items)) sorted) found
      ∙ shown_of-rows columns (where_key key_cmp within (finite.entries items))
    where
      sorted : T (is_sorted key_cmp (where_key key_cmp within (finite.entries items)))
      sorted = is_sorted-where_key key_cmp within (finite.entries items)
          (finite.entries_sorted items)

      alike : (q x : List ℕ) → key_cmp q x ≡ Equal → within x ≡ within q
      alike q x same = ap within (sym (key_exact q x same))

      at_key : (q : List ℕ) (b : Bool) → within q ≡ b
          → cond b (find key_cmp q (finite.entries (shown_rows l family))) None
          ≡ option_and_then (as_row columns)
          (cond b (find key_cmp q (finite.entries items)) None)
      at_key q true e =
          sym (finite.get-entries (shown_rows l family) q) ∙ get-shown_rows l family q ∙ shows q e
          ∙ row_of columns (finite.get items q)
          ∙ ap (option_and_then (as_row columns)) (finite.get-entries items q)
      at_key q false e = refl

      found : (q : List ℕ) → find key_cmp q (where_key key_cmp within (finite.entries (shown_rows l family)))
          ≡ find key_cmp q (shown_of (as_row columns) (where_key key_cmp within (finite.entries items)))
      found q = find-where_key key_cmp within q (alike q) (finite.entries (shown_rows l family))
          ∙ at_key q (within q) refl
          ∙ ap (option_and_then (as_row columns))
          (sym (find-where_key key_cmp within q (alike q) (finite.entries items)))
          ∙ sym (find-shown (as_row columns) q (where_key key_cmp within (finite.entries items)) sorted)

-- behind what was trimmed no row is left over, nor that of number 0
stream_from : (trimmed number : ℕ) (cs : List Change) → trimmed < number → number < 2 ^ 64
    → (rows : List ℕ → Option Columns) → ShowsStream rows trimmed cs → (key : List ℕ)
    → range_contains key_cmp (Included (row_key number)) Unbounded key ≡ true
    → rows key ≡ option_map change_columns (finite.get (keyed_changes cs) key)
stream_from trimmed number cs high fits rows shows key inside =
    shows key (λ left. before left.0 left.2 left.3) ∙ by (eq_by_cmp key_cmp key (row_key 0)) refl
  where
    before : (n : ℕ) → n ≤ trimmed → key ≡ row_key n → ⊥
    before n low at = false≢true (sym (ap (λ o. is_le o && true)
        (key_order number n fits (omega (arith, low, high, fits)) ∙ nat_cmp-greater number n
        (omega (arith, low, high))))
        ∙ ap (range_contains key_cmp (Included (row_key number)) Unbounded) (sym at) ∙ inside)

    by : (b : Bool) → eq_by_cmp key_cmp key (row_key 0) ≡ b
        → (if b then trimmed_row trimmed
        else option_map change_columns (finite.get (keyed_changes cs) key))
        ≡ option_map change_columns (finite.get (keyed_changes cs) key)
    by true e = absurd (before 0 (omega arith) (one_key key (row_key 0) e))
    by false e = refl

-- The changes from a number on are those from one past what was trimmed on, where that is greater.
pub changes-from_kept : (trimmed from : ℕ) (cs : List Change) → Above trimmed cs
    → changes_from (max from (trimmed + 1)) cs ≡ changes_from from cs
changes-from_kept trimmed from [] kept = refl
changes-from_kept trimmed from (c ∷ cs) kept =
    ap (λ b. cond b (c ∷ changes_from (max from (trimmed + 1)) cs)
    (changes_from (max from (trimmed + 1)) cs))
    (same (All-head (λ (x : Change). trimmed < x.number) c cs kept))
    ∙ ap (λ rest. cond (nat_le from c.number) (c ∷ rest) rest)
    (changes-from_kept trimmed from cs (All-tail (λ (x : Change). trimmed < x.number) c cs kept))
  where
    same : trimmed < c.number → nat_le (max from (trimmed + 1)) c.number ≡ nat_le from c.number
    same high = by (nat_le from c.number) refl
      where
        by : (b : Bool) → nat_le from c.number ≡ b
            → nat_le (max from (trimmed + 1)) c.number ≡ b
        by true e = le-leb (max from (trimmed + 1)) c.number
            (let low = leb-true from c.number e in omega (arith, high, low))
        by false e = lt-leb (max from (trimmed + 1)) c.number
            (let late = leb-false from c.number e in omega (arith, late))

module _ (disk : DiskState) (tables : Tables) (s : State) (name : List ℕ) (t : Table)
    (d : TableSchema) (stands : Stands disk tables s) (at : finite.get s.tables name ≡ Some t)
    (known_as : finite.get (catalog_of tables) name ≡ Some d) where
  -- a table without a stream has no changes
  pub no_changes : d.stream_family ≡ None → t.changes ≡ []
  no_changes none = ((stands.valid.tables name t at).changes.none
      (ap (λ (x : TableSchema). x.stream_family)
      (sym (same_table disk tables s name t d stands at known_as)) ∙ none)).0

  -- what is known of what was trimmed is what was
  pub known_trimmed : number_at name (trimmed_of tables) ≡ t.trimmed
  known_trimmed = stands.trimmed name
      ∙ ap (λ o. option_map_or (λ (t : Table). t.trimmed) o 0) at

  -- and it is small
  pub trimmed_fits : t.trimmed < 2 ^ 63
  trimmed_fits =
      let low = (stands.valid.tables name t at).changes.trimmed_before in
      let last = stands.valid.next_number.1 in
      omega (arith, low, last)

  -- the number from which on a walk begins is behind it
  pub first_kept : (first trimmed number : ℕ) → trimmed ≡ number_at name (trimmed_of tables)
      → (trimmed < 2 ^ 63 → number ≡ max first (trimmed + 1))
      → number ≡ max first (t.trimmed + 1)
  first_kept first trimmed number known is =
      let same : trimmed ≡ t.trimmed = known ∙ known_trimmed in
      is (subst (λ n. n < 2 ^ 63) (sym same) trimmed_fits) ∙ ap (λ n. max first (n + 1)) same

  module _ (family : ℕ) (stream : d.stream_family ≡ Some family) (first number : ℕ)
      (fits : number < 2 ^ 64) (is_number : number ≡ max first (t.trimmed + 1)) (from : List ℕ)
      (to : Option (List ℕ)) (most : ℕ) (is_from : from ≡ row_key number) (is_to : to ≡ None)
      (before page : List (List ℕ × Columns)) (empty : before ≡ [])
      (walked : IsTrue disk.tells → (l : Layout) → EngineReads disk tables.engine l
      → page ≡ before ++ take most (rows_between l family from to true)) where
    list : AreChanges t.description s.next_number t.trimmed t.changes
    list = (stands.valid.tables name t at).changes

    small : All IsSmall t.changes
    small = are_small t.description s.next_number t.trimmed t.changes
        (let last = stands.valid.next_number.1 in omega (arith, last)) list

    placed_from : placed_between (keyed_changes t.changes) (row_key number) None true
        ≡ map keyed (changes_from number t.changes)
    placed_from =
        ap (filter (λ (e : List ℕ × Change). range_contains text_order
        (Included (row_key number)) Unbounded e.0)) (entries_keyed t.changes small list.rise)
        ∙ filter_keyed number t.changes fits small

    rows_are : page ≡ take most (map (row_at change_columns)
        (map keyed (changes_from number t.changes)))
    rows_are =
        let l = stands.rows.layout in
        walked (tells_of disk stands.rows.trusted) l stands.rows.is.hand.reads
        ∙ (λ i. empty i ++ take most (rows_between l family (is_from i) (is_to i) true))
        ∙ ap (take most) (rows_from change_columns l family (keyed_changes t.changes)
        (row_key number) (stream_from t.trimmed number t.changes (omega (arith, is_number)) fits
        (shown l family) (stands.rows.shows.changes name t family at
        (ap (λ (x : TableSchema). x.stream_family)
        (sym (same_table disk tables s name t d stands at known_as)) ∙ stream)))
        ∙ ap (map (row_at change_columns)) placed_from)

    -- the rows are those of the changes that are to be given
    pub page_changes : AreChangesOf page (take most (changes_from first t.changes))
    page_changes = subst (λ cs. AreChangesOf page (take most cs))
        (ap (λ n. changes_from n t.changes) is_number
        ∙ changes-from_kept t.trimmed first t.changes list.above)
        (subst (λ rows. AreChangesOf rows (take most (changes_from number t.changes)))
        (sym rows_are)
        (are-take most (changes_from number t.changes)
        (All-filter (λ (c : Change). nat_le number c.number) IsKept t.changes
        (are_kept s stands.valid stands.rows.held name t at))))
