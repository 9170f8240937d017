-- The rows of a state with a table made or dropped.
use Rattle.std.proofs.Common.{◌≡◌, ◌≤◌, ◌<◌, ◌+◌, ℕ, Bool, true, false, cond, length, List, [], ◌∷◌, Option, Some, None, refl, sym, ap, subst, ◌∙◌, inl, inr, arith}
use Rattle.std.proofs.Common.{All}
use Rattle.std.proofs.lemmas.Bool.{false≢true}
use Rattle.std.proofs.lemmas.List.Elements.{All-nil}
use Rattle.std.proofs.lemmas.Option.{same_Some}
use Rattle.std.specs.Prelude.{◌==◌, if◌then◌else◌, option_map, codes}
use Rattle.std.specs.Int.{w32, to_be_bytes}
use Rattle.std.specs.Ordering.{eq_by_cmp}
use Rattle.std.specs.FinMap as map
use Rattle.alt_cells.specs.declared.batch.RowChange.{RowChange}
use Rattle.alt_cells.specs.Changes.{CanShow, change_between}
use Rattle.alt_cells.specs.Keys.{key_cmp}
use Rattle.alt_cells.proofs.CellLaws.{key_total}
use Rattle.alt_cells.proofs.ChangeLaws.{written-change_between, none_shown}
use Rattle.alt_cells.proofs.SameKeys.{key_itself, one_key}
use Rattle.alt_changes.specs.ChangeRows.{change_columns, row_key}
use Rattle.alt_changes.specs.TrimRows.{trimmed_row}
use Rattle.alt_opening.specs.HandInHand.{batch_write}
use Rattle.alt_layout.specs.Layout.{Layout, shown, shown_by, change_of}
use Rattle.alt_writes.specs.Writes.{Write}
use Rattle.alt_layout.specs.Writes.{with_write}
use Rattle.alt_layout.proofs.BatchLaws.{shows_batch}
use Rattle.alt_machine.specs.declared.TheConstants.{NUMBERS_END, FAMILIES_END, MOST_FAMILIES, MOST_TABLES}
use Rattle.alt_machine.specs.Building.{built_part, reaches}
use Rattle.alt_machine.specs.Indexed.{index_entry, index_items}
use Rattle.alt_machine.specs.Rekeyed.{rekeyed}
use Rattle.alt_machine.specs.Sources.{index_at}
use Rattle.alt_machine.specs.State.{Texts, State, Table, Change, new_table, families_of}
use Rattle.alt_machine.specs.Valid.{IsChangeOfValues, IsMade, IsValid}
use Rattle.alt_machine.specs.Ops.CreateTable.{with_table}
use Rattle.alt_machine.specs.Ops.DeleteTable.{without_table}
use Rattle.alt_machine.proofs.Building.{get-built_part}
use Rattle.alt_machine.proofs.Families.{of_contained, families_within}
use Rattle.alt_machine.proofs.Looks.{at_insert, at_remove, not_there}
use Rattle.alt_machine.proofs.Rekeying.{given_by}
use Rattle.alt_machine.proofs.States.{with_table_valid, without_table_valid}
use Rattle.alt_schema.specs.Described.{IsNew}
use Rattle.alt_schemabytes.specs.Format.{description_bytes}
use Rattle.alt_schemabytes.specs.Held.{IsHeld}
use Rattle.alt_schema.specs.Rules.{is_name}
use Rattle.alt_schema.specs.declared.schema.Built.{Built}
use Rattle.alt_schema.specs.declared.schema.IndexSchema.{IndexSchema}
use Rattle.alt_schema.specs.declared.schema.TableSchema.{TableSchema}
use Rattle.alt_opening.specs.StateRows.{HasMoment, IsHeldWhole, IsLeftover, Shows, catalog_family, catalog_rows, item_rows, index_rows, change_rows, keyed_changes, one_column, table_row, next_row}
use Rattle.alt_rowchanges.specs.RowChanges.{Turns, creation_changes, drop_changes}
use Rattle.alt_rowchanges.proofs.ChangeLaws.{ShowsWrite, one_change, two_changes, other_family}
use Rattle.alt_views.proofs.ItemRowLaws.{can_show}
use Rattle.alt_views.specs.IndexRows.{index_columns}
use Rattle.alt_opening.proofs.Maps.{same_texts}
use Rattle.alt_opening.proofs.OneState.{nameless}
use Rattle.alt_value.specs.Members.{text_order}
use Rattle.alt_value.specs.Tree.{Pair}
use Rattle.alt_opening.proofs.TableRow.{get-table_row}
use Rattle.alt_rowchanges.proofs.IndexFamilies.{index_family}
use Rattle.alt_rowchanges.proofs.StreamShows.{stream_family}
use Rattle.alt_rowchanges.proofs.WriteLaws.{family_within, index_within, stream_within}

-- a row of one column can be shown
pub one_can_show : (name value : List ℕ) → CanShow (Some (one_column name value))
one_can_show name value = can_show (one_column name value) name value
    (map.get-insert key_total map.empty name value name
    ∙ ap (λ b. cond b (Some value) (map.get (map.empty {R = key_cmp}) name)) (key_itself name))

-- so can that of a table
pub table_can_show : (d : TableSchema) → CanShow (Some (table_row d))
table_can_show d = can_show (table_row d) (codes "t") (description_bytes d)
    (get-table_row d)

-- and so can that of the next family
pub next_can_show : (family : ℕ) → CanShow (next_row family)
next_can_show family = by_test (family == 1)
  where
    by_test : (b : Bool) → CanShow (if b then None else Some
        (one_column (codes "next") (to_be_bytes w32 family)))
    by_test true = none_shown
    by_test false = one_can_show (codes "next") (to_be_bytes w32 family)

-- an index of no items has none
pub none_rekeyed : {X Y : Type 0} (g : X → Option (List ℕ × Y)) (key : List ℕ)
    → map.get (rekeyed g map.empty) key ≡ None
none_rekeyed {Y = Y} g key = by (map.get (rekeyed g map.empty) key) refl
  where
    by : (o : Option Y) → map.get (rekeyed g map.empty) key ≡ o → o ≡ None
    by None is = refl
    by (Some v) is =
        let (place, (x, (here, entry))) = given_by g map.empty key v is in
        let no : None ≡ Some x = sym (map.get-empty key_cmp place) ∙ here in cc no

-- no items
abbrev pub no_items : Texts (List Pair)
no_items = map.empty

-- of them an index is built of none
none_built : (d : TableSchema) (built : Built) (q : List ℕ)
    → map.get (built_part d built no_items) q ≡ map.get no_items q
none_built d built q = get-built_part d built no_items q ∙ by (reaches d built q)
  where
    by : (b : Bool) → cond b (map.get no_items q) None ≡ map.get no_items q
    by true = refl
    by false = sym (map.get-empty text_order q)

-- changes of the catalog leave all other families
pub off_catalog : (c : RowChange) (cs : List RowChange) (family : ℕ) (key : List ℕ)
    → c.family ≡ catalog_family → 1 ≤ family
    → change_of family key (c ∷ cs) ≡ change_of family key cs
off_catalog c cs family key is high = other_family c cs family key
    (λ same. omega (arith, is, same, high))

module _ (l : Layout) (s : State) (shows : Shows l s) (valid : IsValid s) where
  -- ---- a table is made

  module _ (d : TableSchema) (after : ℕ) (counted : after ≡ s.next_family + length (families_of d))
      (absent : map.get s.tables d.name ≡ None)
      (named : eq_by_cmp key_cmp [] d.name ≡ false) (family : d.family ≡ s.next_family)
      (new : IsNew d) (w : Write) (changes : w.changes ≡ creation_changes s.next_family after d)
      (numbered : w.number ≡ l.next_number) (law : ShowsWrite l w) where
    abbrev first_change : RowChange
    first_change = change_between catalog_family d.name None (Some (table_row d))

    abbrev second_change : RowChange
    second_change = change_between catalog_family [] (next_row s.next_family) (next_row after)

    elsewhere : (f : ℕ) (key : List ℕ) → 1 ≤ f → shown (with_write l w) f key ≡ shown l f key
    elsewhere f key high = law f key ∙ ap (λ c. shown_by c (shown l f key))
        (ap (change_of f key) changes
        ∙ off_catalog first_change (second_change ∷ []) f key refl high
        ∙ off_catalog second_change [] f key refl high)

    catalog_after : (key : List ℕ) → shown (with_write l w) catalog_family key
        ≡ catalog_rows (with_table s d) key
    catalog_after key = law catalog_family key
        ∙ (λ i. shown_by ((ap (change_of catalog_family key) changes
        ∙ two_changes catalog_family first_change second_change key refl refl) i)
        (shows.catalog key i))
        ∙ by_key (eq_by_cmp key_cmp key d.name) (eq_by_cmp key_cmp key []) refl refl
        ∙ ap (λ o. if eq_by_cmp key_cmp key [] then next_row after
        else option_map (λ t. table_row t.description) o)
        (sym (map.get-insert key_total s.tables d.name (new_table d) key))
        ∙ ap (λ n. if eq_by_cmp key_cmp key [] then next_row n
        else option_map (λ t. table_row t.description)
        (map.get (map.insert s.tables d.name (new_table d)) key)) counted
      where
        by_key : (a b : Bool) → eq_by_cmp key_cmp key d.name ≡ a → eq_by_cmp key_cmp key [] ≡ b
            → shown_by (if a then Some first_change
            else (if b then Some second_change else None))
            (if b then next_row s.next_family
            else option_map (λ t. table_row t.description) (map.get s.tables key))
            ≡ (if b then next_row after else option_map (λ t. table_row t.description)
            (cond a (Some (new_table d)) (map.get s.tables key)))
        by_key true true e f = absurd (false≢true (sym named
            ∙ ap (λ k. eq_by_cmp key_cmp k d.name) (sym (one_key key [] f)) ∙ e))
        by_key true false e f = written-change_between catalog_family d.name None
            (Some (table_row d)) (table_can_show d)
        by_key false true e f = written-change_between catalog_family [] (next_row s.next_family)
            (next_row after) (next_can_show after)
        by_key false false e f = refl

    items_after : (other : List ℕ) (u : Table) (b : Bool) → eq_by_cmp key_cmp other d.name ≡ b
        → cond b (Some (new_table d)) (map.get s.tables other) ≡ Some u
        → (key : List ℕ) → shown (with_write l w) u.description.family key ≡ item_rows u key
    items_after other u true e at key =
        subst (λ u. shown (with_write l w) u.description.family key ≡ item_rows u key)
        (same_Some _ _ at)
        (elsewhere d.family key (let low = valid.next_family.0 in omega (arith, low, family))
        ∙ shows.beyond d.family key (omega (arith, family))
        ∙ sym (ap (option_map _) (map.get-empty key_cmp key)))
    items_after other u false e at key =
        elsewhere u.description.family key (family_within s other u (valid.tables other u at)).0
        ∙ shows.items other u at key

    indexes_after : (other : List ℕ) (u : Table) (b : Bool) → eq_by_cmp key_cmp other d.name ≡ b
        → cond b (Some (new_table d)) (map.get s.tables other) ≡ Some u → (n : ℕ)
        (i : IndexSchema) → index_at u.description (Some n) ≡ Some i
        → (key : List ℕ) → shown (with_write l w) i.family key ≡ index_rows u i key
    indexes_after other u true e at n i at_index key =
        subst (λ u. index_at u.description (Some n) ≡ Some i
        → shown (with_write l w) i.family key ≡ index_rows u i key) (same_Some _ _ at)
        (λ at_index. let is = of_contained (λ f. (d.family ≤ f)
        × (f < d.family + length (families_of d)))
        (families_of d) i.family (families_within d new) (index_family d n i at_index) in
        elsewhere i.family key
        (let low = valid.next_family.0 in omega (arith, low, family, is.0))
        ∙ shows.beyond i.family key (omega (arith, family, is.0))
        ∙ sym (ap (λ m. option_map (index_columns d i) (map.get (index_items d i m) key))
        (same_texts (built_part d i.built no_items) no_items (none_built d i.built))
        ∙ ap (option_map (index_columns d i)) (none_rekeyed (index_entry d i) key))) at_index
    indexes_after other u false e at n i at_index key =
        elsewhere i.family key (index_within s other u (valid.tables other u at) n i at_index).0
        ∙ shows.indexes other u n i at at_index key

    changes_after : (other : List ℕ) (u : Table) (b : Bool) → eq_by_cmp key_cmp other d.name ≡ b
        → cond b (Some (new_table d)) (map.get s.tables other) ≡ Some u → (g : ℕ)
        → u.description.stream_family ≡ Some g
        → (key : List ℕ) → (IsLeftover u.trimmed key → ⊥)
        → shown (with_write l w) g key ≡ change_rows u key
    changes_after other u true e at g stream key counts =
        subst (λ u. u.description.stream_family ≡ Some g
        → shown (with_write l w) g key ≡ change_rows u key) (same_Some _ _ at)
        (λ stream. let is = of_contained (λ f. (d.family ≤ f)
        × (f < d.family + length (families_of d)))
        (families_of d) g (families_within d new) (stream_family d g stream) in
        elsewhere g key
        (let low = valid.next_family.0 in omega (arith, low, family, is.0))
        ∙ shows.beyond g key (omega (arith, family, is.0))
        ∙ sym (no_stream (eq_by_cmp key_cmp key (row_key 0)) key)) stream
      where
        no_stream : (b : Bool) (key : List ℕ) → (if b then trimmed_row 0
            else option_map change_columns (map.get (keyed_changes []) key)) ≡ None
        no_stream true key = refl
        no_stream false key = ap (option_map change_columns)
            (map.get-from_sorted {X = Change} key_cmp [] key tt)
    changes_after other u false e at g stream key counts =
        elsewhere g key (stream_within s other u (valid.tables other u at) g stream).0
        ∙ shows.changes other u g at stream key counts

    -- the rows are then those of the state with the table
    pub shows_creation : Shows (with_write l w) (with_table s d)
    shows_creation = record {
      number = ap (λ n. n + 1) (numbered ∙ shows.number);
      catalog = catalog_after;
      items = λ other u at. items_after other u (eq_by_cmp key_cmp other d.name) refl
          (sym (map.get-insert key_total s.tables d.name (new_table d) other) ∙ at);
      indexes = λ other u n i at at_index key. indexes_after other u
          (eq_by_cmp key_cmp other d.name) refl
          (sym (map.get-insert key_total s.tables d.name (new_table d) other)
          ∙ at) n i at_index key;
      changes = λ other u g at stream key counts. changes_after other u
          (eq_by_cmp key_cmp other d.name) refl
          (sym (map.get-insert key_total s.tables d.name (new_table d) other) ∙ at) g stream key
          counts;
      beyond = λ f key high. elsewhere f key
          (let low = valid.next_family.0 in omega (arith, low, family, high))
          ∙ shows.beyond f key (omega (arith, family, high));
    }

  -- ---- a table is dropped

  module _ (name : List ℕ) (t : Table) (at : map.get s.tables name ≡ Some t)
      (named : eq_by_cmp key_cmp [] name ≡ false) (own_name : t.description.name ≡ name)
      (w : Write) (changes : w.changes ≡ drop_changes t.description)
      (numbered : w.number ≡ l.next_number) (law : ShowsWrite l w) where
    abbrev dropped : RowChange
    dropped = change_between catalog_family t.description.name (Some (table_row t.description)) None

    kept : (f : ℕ) (key : List ℕ) → 1 ≤ f → shown (with_write l w) f key ≡ shown l f key
    kept f key high = law f key ∙ ap (λ c. shown_by c (shown l f key))
        (ap (change_of f key) changes ∙ off_catalog dropped [] f key refl high)

    catalog_without : (key : List ℕ) → shown (with_write l w) catalog_family key
        ≡ catalog_rows (without_table s name) key
    catalog_without key = law catalog_family key
        ∙ (λ i. shown_by ((ap (change_of catalog_family key) changes ∙ one_change dropped key
        ∙ ap (λ n. if eq_by_cmp key_cmp key n then Some dropped else None) own_name) i)
        (shows.catalog key i))
        ∙ by_key (eq_by_cmp key_cmp key name) (eq_by_cmp key_cmp key []) refl refl
        ∙ ap (λ o. if eq_by_cmp key_cmp key [] then next_row s.next_family
        else option_map (λ t. table_row t.description) o)
        (sym (map.get-remove key_total s.tables name key))
      where
        by_key : (a b : Bool) → eq_by_cmp key_cmp key name ≡ a → eq_by_cmp key_cmp key [] ≡ b
            → shown_by (if a then Some dropped else None)
            (if b then next_row s.next_family
            else option_map (λ t. table_row t.description) (map.get s.tables key))
            ≡ (if b then next_row s.next_family
            else option_map (λ t. table_row t.description) (cond a None (map.get s.tables key)))
        by_key true true e f = absurd (false≢true (sym named
            ∙ ap (λ k. eq_by_cmp key_cmp k name) (sym (one_key key [] f)) ∙ e))
        by_key true false e f = none_shown
        by_key false b e f = refl

    items_without : (other : List ℕ) (u : Table) (b : Bool)
        → cond b None (map.get s.tables other) ≡ Some u
        → (key : List ℕ) → shown (with_write l w) u.description.family key ≡ item_rows u key
    items_without other u true at_other key = absurd (let n : None ≡ Some u = at_other in cc n)
    items_without other u false at_other key =
        kept u.description.family key (family_within s other u (valid.tables other u at_other)).0
        ∙ shows.items other u at_other key

    indexes_without : (other : List ℕ) (u : Table) (b : Bool)
        → cond b None (map.get s.tables other) ≡ Some u → (n : ℕ) (i : IndexSchema)
        → index_at u.description (Some n) ≡ Some i
        → (key : List ℕ) → shown (with_write l w) i.family key ≡ index_rows u i key
    indexes_without other u true at_other n i at_index key =
        absurd (let n : None ≡ Some u = at_other in cc n)
    indexes_without other u false at_other n i at_index key =
        kept i.family key (index_within s other u (valid.tables other u at_other) n i at_index).0
        ∙ shows.indexes other u n i at_other at_index key

    changes_without : (other : List ℕ) (u : Table) (b : Bool)
        → cond b None (map.get s.tables other) ≡ Some u → (g : ℕ)
        → u.description.stream_family ≡ Some g
        → (key : List ℕ) → (IsLeftover u.trimmed key → ⊥)
        → shown (with_write l w) g key ≡ change_rows u key
    changes_without other u true at_other g stream key counts =
        absurd (let n : None ≡ Some u = at_other in cc n)
    changes_without other u false at_other g stream key counts =
        kept g key (stream_within s other u (valid.tables other u at_other) g stream).0
        ∙ shows.changes other u g at_other stream key counts

    -- the rows are then those of the state without it
    pub shows_drop : Shows (with_write l w) (without_table s name)
    shows_drop = record {
      number = ap (λ n. n + 1) (numbered ∙ shows.number);
      catalog = catalog_without;
      items = λ other u at_other. items_without other u (eq_by_cmp key_cmp other name)
          (sym (map.get-remove key_total s.tables name other) ∙ at_other);
      indexes = λ other u n i at_other at_index key. indexes_without other u
          (eq_by_cmp key_cmp other name)
          (sym (map.get-remove key_total s.tables name other) ∙ at_other) n i at_index key;
      changes = λ other u g at_other stream key counts. changes_without other u
          (eq_by_cmp key_cmp other name)
          (sym (map.get-remove key_total s.tables name other) ∙ at_other) g stream key counts;
      beyond = λ f key high. kept f key (let low = valid.next_family.0 in omega (arith, low, high))
          ∙ shows.beyond f key high;
    }

-- no name of a table is empty
pub table_named : (s : State) (name : List ℕ) (t : Table) → IsValid s → map.get s.tables name ≡ Some t
    → eq_by_cmp key_cmp [] name ≡ false
table_named s [] t valid at = let no : None ≡ Some t = sym (nameless s valid) ∙ at in cc no
table_named s (c ∷ cs) t valid at = refl

-- nor that of a new one
new_named : (d : TableSchema) (name : List ℕ) → d.name ≡ name → IsMade d
    → eq_by_cmp key_cmp [] name ≡ false
new_named d [] is made = let f : false ≡ true = ap is_name (sym is) ∙ made.spelled in
    absurd (false≢true f)
new_named d (c ∷ cs) is made = refl

-- Making a table turns the state into the one with it.
pub creation_turns : (s : State) (d : TableSchema) (after : ℕ)
    → after ≡ s.next_family + length (families_of d) → IsValid s → IsHeldWhole s
    → map.get s.tables d.name ≡ None → IsMade d → IsNew d → IsHeld d
    → d.number ≡ s.next_number → d.family ≡ s.next_family → map.len s.tables < MOST_TABLES
    → (s.next_number < NUMBERS_END) × (s.next_family + MOST_FAMILIES ≤ FAMILIES_END)
    → Turns (creation_changes s.next_family after d) s (with_table s d)
creation_turns s d after counted valid held absent made new is_held number family few enough =
    record {
      shows = λ distinct l past shows. shows_creation l s shows valid d after counted absent
          (new_named d d.name refl made) family new
          (batch_write l (creation_changes s.next_family after d)) refl refl
          (shows_batch l (batch_write l (creation_changes s.next_family after d)) distinct past
          (omega arith));
      valid = with_table_valid s d valid made new number family few enough;
      held = record {
        items = record {
          items = λ other q u item at here.
              elim (at_insert s.tables d.name other u (new_table d) at) [
                | inl made ↦ absurd (not_there q item
                    (ap (λ (x : Table). map.get x.items q) made.1 ∙ here))
                | inr old ↦ held.items.items other q u item old here
              ];
          changes = λ other u at. elim (at_insert s.tables d.name other u (new_table d) at) [
            | inl made ↦ subst (λ (x : Table). All IsChangeOfValues x.changes) made.1
                (All-nil IsChangeOfValues)
            | inr old ↦ held.items.changes other u old
          ];
        };
        moments = λ other u at. elim (at_insert s.tables d.name other u (new_table d) at) [
          | inl made ↦ subst (λ (x : Table). All HasMoment x.changes) made.1 (All-nil HasMoment)
          | inr old ↦ held.moments other u old
        ];
        descriptions = λ other u at. elim (at_insert s.tables d.name other u (new_table d) at) [
          | inl made ↦ subst (λ (x : Table). IsHeld x.description) made.1 is_held
          | inr old ↦ held.descriptions other u old
        ];
      };
    }

-- And dropping it into the one without it.
pub drop_turns : (s : State) (name : List ℕ) (t : Table) → IsValid s → IsHeldWhole s
    → s.next_number < NUMBERS_END → map.get s.tables name ≡ Some t
    → Turns (drop_changes t.description) s (without_table s name)
drop_turns s name t valid held room at = record {
  shows = λ distinct l past shows. shows_drop l s shows valid name t at (table_named s name t valid at)
      (valid.tables name t at).named (batch_write l (drop_changes t.description)) refl refl
      (shows_batch l (batch_write l (drop_changes t.description)) distinct past (omega arith));
  valid = without_table_valid s name valid room;
  held = record {
    items = record {
      items = λ other q u item at here. held.items.items other q u item
          (at_remove s.tables name other u at) here;
      changes = λ other u at. held.items.changes other u (at_remove s.tables name other u at);
    };
    moments = λ other u at. held.moments other u (at_remove s.tables name other u at);
    descriptions = λ other u at. held.descriptions other u (at_remove s.tables name other u at);
  };
}
