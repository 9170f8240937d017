-- The rows of a state with the write of an item joined are the rows of the state after it.
use Rattle.std.proofs.Common.{◌≡◌, ◌≢◌, ◌+◌, ◌<◌, ◌≤◌, ℕ, Bool, true, false, cond, List, [], ◌∷◌, Option, Some, None, IfSome, refl, sym, ap, subst, ◌∙◌, Contains, arith}
use Rattle.std.proofs.lemmas.Bool.{false≢true}
use Rattle.std.proofs.lemmas.Option.{same_Some}
use Rattle.std.specs.Prelude.{if◌then◌else◌, ◌++◌, option_map}
use Rattle.std.specs.Ordering.{eq_by_cmp}
use Rattle.std.specs.FinMap as map
use Rattle.alt_cells.specs.declared.batch.RowChange.{RowChange}
use Rattle.alt_cells.specs.Changes.{change_between, written}
use Rattle.alt_cells.specs.Keys.{key_cmp}
use Rattle.alt_cells.proofs.CellLaws.{key_total}
use Rattle.alt_cells.proofs.ChangeLaws.{written-change_between}
use Rattle.alt_cells.proofs.SameKeys.{key_itself, one_key}
use Rattle.alt_changes.specs.ChangeRows.{row_changes}
use Rattle.alt_changes.specs.TrimRows.{AreLeft, trim_changes}
use Rattle.alt_layout.specs.Layout.{Layout, shown, shown_by, change_of}
use Rattle.alt_writes.specs.Writes.{Write}
use Rattle.alt_layout.specs.Writes.{with_write}
use Rattle.alt_codec.specs.declared.writer.Writer.{Writer}
use Rattle.alt_machine.specs.declared.TheConstants.{NUMBERS_END}
use Rattle.alt_machine.specs.Building.{built_part, reaches}
use Rattle.alt_machine.specs.Changes.{change_left}
use Rattle.alt_machine.specs.Indexed.{index_items}
use Rattle.alt_machine.specs.Same.{is_same}
use Rattle.alt_machine.specs.Sources.{index_at}
use Rattle.alt_machine.specs.State.{State, Table, Texts, families_of}
use Rattle.alt_machine.specs.Valid.{IsStored, IsTable, IsValid, IsHeldState}
use Rattle.alt_machine.specs.Writes.{with_item, with_write_by as with_row, after_item_by}
use Rattle.alt_machine.proofs.Building.{built_part-beyond, built_part-reached, get-built_part}
use Rattle.alt_machine.proofs.Families.{of_contained}
use Rattle.alt_machine.proofs.Indexing.{index_apart}
use Rattle.alt_machine.proofs.States.{change_is, changes_with, with_item_stored}
use Rattle.alt_schema.specs.Indexes.{indexes}
use Rattle.alt_schema.specs.declared.schema.IndexSchema.{IndexSchema}
use Rattle.alt_views.specs.ItemRows.{item_columns}
use Rattle.alt_opening.specs.StateRows.{IsLeftover, Shows, catalog_family, catalog_rows, item_rows, index_rows, change_rows, table_row, next_row}
use Rattle.alt_rowchanges.proofs.ChangeLaws.{ShowsWrite, one_change, other_family, AreOthers, others-append, change_of-none, change_of-front, change_of-behind}
use Rattle.alt_opening.proofs.Families.{own_family}
use Rattle.alt_rowchanges.proofs.IndexShows.{change_of-index, index_shows}
use Rattle.alt_rowchanges.proofs.IndexFamilies.{index_family, index_family_differs, own_families, others-index_changes}
use Rattle.alt_rowchanges.proofs.StreamShows.{others-row_changes, others-trim_changes, stream_family, stream_family_differs, stream_index_differs}
use Rattle.alt_rowchanges.proofs.StreamTrims.{stream_shows}
use Rattle.alt_views.specs.IndexRows.{index_changes, index_columns, moves_in}
use Rattle.alt_views.proofs.ItemRowLaws.{items_can_show}
use Rattle.alt_views.proofs.Reached.{IsAt, changes_at}
use Rattle.alt_opening.proofs.Maps.{same_texts}
use Rattle.alt_value.specs.Tree.{Pair}
use Rattle.alt_value.specs.Values.{IsItemOfValues}

pub get-with_item : (items : Texts (List Pair)) (place : List ℕ) (new : Option (List Pair))
    (q : List ℕ) → map.get (with_item items place new) q
    ≡ cond (eq_by_cmp key_cmp q place) new (map.get items q)
get-with_item items place None q = map.get-remove key_total items place q
get-with_item items place (Some item) q = map.get-insert key_total items place item q

-- the family of a table is one of those before the next
pub family_within : (s : State) (name : List ℕ) (t : Table) → IsTable s name t
    → (1 ≤ t.description.family) × (t.description.family < s.next_family)
family_within s name t is = of_contained (λ f. (1 ≤ f) × (f < s.next_family))
    (families_of t.description) t.description.family is.families (own_family t.description)

-- the families of the indexes lie in the range of the table's
pub index_within : (s : State) (name : List ℕ) (t : Table) → IsTable s name t → (n : ℕ)
    (i : IndexSchema) → index_at t.description (Some n) ≡ Some i
    → (1 ≤ i.family) × (i.family < s.next_family)
index_within s name t is n i at = of_contained (λ f. (1 ≤ f) × (f < s.next_family))
    (families_of t.description) i.family is.families (index_family t.description n i at)

-- and so does that of the stream
pub stream_within : (s : State) (name : List ℕ) (t : Table) → IsTable s name t → (f : ℕ)
    → t.description.stream_family ≡ Some f → (1 ≤ f) × (f < s.next_family)
stream_within s name t is f stream = of_contained (λ f. (1 ≤ f) × (f < s.next_family))
    (families_of t.description) f is.families (stream_family t.description f stream)

module _ (l : Layout) (s : State) (shows : Shows l s) (valid : IsValid s) (held : IsHeldState s)
    (moment : ℕ) (writer : Writer) (name : List ℕ) (t : Table) (at : map.get s.tables name ≡ Some t)
    (place : List ℕ) (new : Option (List Pair)) (room : s.next_number < NUMBERS_END)
    (differ : is_same (map.get t.items place) new ≡ false)
    (stored : (item : List Pair) → new ≡ Some item → IsStored t.description place item)
    (given : IfSome new IsItemOfValues) (leftovers : List ℕ)
    (left : AreLeft (with_row s.next_number moment writer t place new).trimmed leftovers) where
  -- what the write changes of the row
  abbrev change : RowChange
  change = change_between t.description.family place
      (option_map item_columns (map.get t.items place)) (option_map item_columns new)

  abbrev after : State
  after = after_item_by s moment writer name t place new

  abbrev changed : Table
  changed = with_row s.next_number moment writer t place new

  -- descriptions stay
  same_catalog : (key : List ℕ) → catalog_rows s key ≡ catalog_rows after key
  same_catalog key = ap (λ o. if eq_by_cmp key_cmp key [] then next_row s.next_family else o)
      (by_name (eq_by_cmp key_cmp key name) refl
      ∙ ap (option_map (λ t. table_row t.description))
      (sym (map.get-insert key_total s.tables name changed key)))
    where
      by_name : (b : Bool) → eq_by_cmp key_cmp key name ≡ b
          → option_map (λ t. table_row t.description) (map.get s.tables key)
          ≡ option_map (λ t. table_row t.description)
          (cond (eq_by_cmp key_cmp key name) (Some changed) (map.get s.tables key))
      by_name true e = ap (λ k. option_map (λ t. table_row t.description) (map.get s.tables k))
          (one_key key name e) ∙ ap (option_map (λ t. table_row t.description)) at
          ∙ ap (λ b. option_map (λ t. table_row t.description)
          (cond b (Some changed) (map.get s.tables key))) (sym e)
      by_name false e = ap (λ b. option_map (λ t. table_row t.description)
          (cond b (Some changed) (map.get s.tables key))) (sym e)

  -- each family of the table is one of those before the next
  within_all : (family : ℕ) → Contains (families_of t.description) family
      → (1 ≤ family) × (family < s.next_family)
  within_all family = of_contained (λ f. (1 ≤ f) × (f < s.next_family))
      (families_of t.description) family (valid.tables name t at).families

  -- what the indexes keep of the item that was there, and of the one that is to be there
  abbrev index_part : List RowChange
  index_part = index_changes t.description (map.get t.items place) new

  is_table : IsTable s name t
  is_table = valid.tables name t at

  -- what the stream gets
  abbrev row_part : List RowChange
  row_part = row_changes t.description
      (change_left s.next_number moment writer (map.get t.items place) new)

  -- and what it trims
  abbrev trim_part : List RowChange
  trim_part = trim_changes t.description t.trimmed changed.trimmed leftovers

  -- both
  abbrev stream_part : List RowChange
  stream_part = row_part ++ trim_part

  -- changes of index rows are of none but their families
  index_part_apart : (family : ℕ)
      → ((n : ℕ) (i : IndexSchema) → index_at t.description (Some n) ≡ Some i → i.family ≢ family)
      → AreOthers family index_part
  index_part_apart family apart = others-index_changes t.description (map.get t.items place) new
      family (indexes t.description) apart

  -- and that of the stream's row, of the stream's
  stream_part_apart : (family : ℕ)
      → ((f : ℕ) → t.description.stream_family ≡ Some f → f ≢ family) → AreOthers family stream_part
  stream_part_apart family apart = others-append family row_part trim_part
      (others-row_changes t.description
      (change_left s.next_number moment writer (map.get t.items place) new) family apart)
      (others-trim_changes t.description t.trimmed changed.trimmed leftovers family apart)

  -- none of those changes is of the table's own family
  rest_apart : AreOthers t.description.family (index_part ++ stream_part)
  rest_apart = others-append t.description.family index_part stream_part
      (index_part_apart t.description.family
      (λ n i at same. index_family_differs t.description is_table.differ n i at (sym same)))
      (stream_part_apart t.description.family
      (λ f stream same. stream_family_differs t.description is_table.differ f stream (sym same)))

  module _ (w : Write) (changes : w.changes ≡ change ∷ (index_part ++ stream_part))
      (numbered : w.number ≡ l.next_number) (law : ShowsWrite l w) where
    -- families that aren't the table's show what they showed
    elsewhere : (family : ℕ) (key : List ℕ)
        → (Contains (families_of t.description) family → ⊥)
        → shown (with_write l w) family key ≡ shown l family key
    elsewhere family key other = law family key ∙ ap (λ c. shown_by c (shown l family key))
        (ap (change_of family key) changes
        ∙ other_family change (index_part ++ stream_part) family key
        (λ same. other (subst (Contains (families_of t.description)) same
        (own_family t.description)))
        ∙ change_of-none family key (index_part ++ stream_part)
        (others-append family index_part stream_part
        (index_part_apart family
        (λ n i at same. other (subst (Contains (families_of t.description)) same
        (index_family t.description n i at))))
        (stream_part_apart family
        (λ f stream same. other (subst (Contains (families_of t.description)) same
        (stream_family t.description f stream))))))

    -- and the table's shows the new item at its place
    here : (key : List ℕ) → shown (with_write l w) t.description.family key
        ≡ option_map item_columns (map.get (with_item t.items place new) key)
    here key = law t.description.family key
        ∙ ap (λ c. shown_by c (shown l t.description.family key))
        (ap (change_of t.description.family key) changes
        ∙ change_of-front t.description.family key (change ∷ []) (index_part ++ stream_part)
        rest_apart
        ∙ one_change change key)
        ∙ ap (shown_by (cond (eq_by_cmp key_cmp key place) (Some change) None))
        (shows.items name t at key)
        ∙ at_key (eq_by_cmp key_cmp key place) refl
        ∙ ap (option_map item_columns) (sym (get-with_item t.items place new key))
      where
        at_key : (b : Bool) → eq_by_cmp key_cmp key place ≡ b
            → shown_by (cond b (Some change) None) (item_rows t key)
            ≡ option_map item_columns (cond b new (map.get t.items key))
        at_key true e = ap (λ k. written change (item_rows t k)) (one_key key place e)
            ∙ written-change_between t.description.family place
            (option_map item_columns (map.get t.items place)) (option_map item_columns new)
            (items_can_show new)
        at_key false e = refl

    -- those of the indexes show what these keep of the items then, as far as they are built
    there : (n : ℕ) (i : IndexSchema) → index_at t.description (Some n) ≡ Some i
        → (key : List ℕ) → shown (with_write l w) i.family key ≡ index_rows changed i key
    there n i at_index = by (reaches t.description i.built place) refl
      where
        -- the items before and after the write are of its place
        old_at : (o : Option (List Pair)) → map.get t.items place ≡ o
            → IsAt t.description i place o
        old_at None here = tt
        old_at (Some item) here = (is_table.items place item here).stands

        new_at : (o : Option (List Pair)) → new ≡ o → IsAt t.description i place o
        new_at None is = tt
        new_at (Some item) is = (stored item is).stands

        -- the changes in its family
        of_index : (key : List ℕ) → change_of i.family key w.changes
            ≡ change_of i.family key (if reaches t.description i.built place
            then moves_in t.description (map.get t.items place) new i else [])
        of_index key = ap (change_of i.family key) changes
            ∙ other_family change (index_part ++ stream_part) i.family key
            (index_family_differs t.description is_table.differ n i at_index)
            ∙ change_of-front i.family key index_part stream_part (stream_part_apart i.family
            (λ f stream same. stream_index_differs t.description is_table.differ n i at_index f stream
            (sym same)))
            ∙ change_of-index t.description (map.get t.items place) new (indexes t.description) n i
            (own_families t.description is_table.differ) at_index key
            ∙ ap (change_of i.family key) (changes_at t.description i place (map.get t.items place) new
            (old_at (map.get t.items place) refl) (new_at new refl))

        values_after : (q : List ℕ) (item : List Pair)
            → map.get (with_item t.items place new) q ≡ Some item → IsItemOfValues item
        values_after q item here = by_key new (eq_by_cmp key_cmp q place) given
            (sym (get-with_item t.items place new q) ∙ here)
          where
            by_key : (to : Option (List Pair)) (b : Bool) → IfSome to IsItemOfValues
                → cond b to (map.get t.items q) ≡ Some item → IsItemOfValues item
            by_key None true given e = let no : None ≡ Some item = e in cc no
            by_key (Some x) true given e = subst IsItemOfValues (same_Some x item e) given
            by_key to false given e = held.items name q t item at e

        -- an item of which it is built is one of the table's
        of_table : (items : Texts (List Pair)) (q : List ℕ) (item : List Pair)
            → map.get (built_part t.description i.built items) q ≡ Some item
            → map.get items q ≡ Some item
        of_table items q item here = inside (reaches t.description i.built q)
            (sym (get-built_part t.description i.built items q) ∙ here)
          where
            inside : (b : Bool) → cond b (map.get items q) None ≡ Some item
                → map.get items q ≡ Some item
            inside true e = e
            inside false e = absurd (let no : None ≡ Some item = e in cc no)

        by : (b : Bool) → reaches t.description i.built place ≡ b → (key : List ℕ)
            → shown (with_write l w) i.family key ≡ index_rows changed i key
        by true reached key =
            index_shows t.description i (built_part t.description i.built t.items) place
            (index_apart t.description i (built_part t.description i.built t.items) (λ q item here. (
              is_table.items q item (of_table t.items q item here),
              held.items name q t item at (of_table t.items q item here),
            )))
            l w law new
            (index_apart t.description i (with_item (built_part t.description i.built t.items) place new) (λ q item here.
            let inside = of_table (with_item t.items place new) q item
            (built_part-reached t.description i.built t.items place new reached q ∙ here) in (
              with_item_stored s name t place new valid at stored q item inside,
              values_after q item inside,
            )))
            (λ key. of_index key
            ∙ ap (λ b. change_of i.family key
            (if b then moves_in t.description (map.get t.items place) new i else [])) reached
            ∙ ap (λ o. change_of i.family key (moves_in t.description o new i))
            (sym (get-built_part t.description i.built t.items place
            ∙ ap (λ b. cond b (map.get t.items place) None) reached)))
            (shows.indexes name t n i at at_index) key
            ∙ ap (λ m. option_map (index_columns t.description i)
            (map.get (index_items t.description i m) key))
            (sym (same_texts (built_part t.description i.built (with_item t.items place new)) (with_item (built_part t.description i.built t.items) place new)
            (built_part-reached t.description i.built t.items place new reached)))
        by false beyond key =
            law i.family key
            ∙ ap (λ c. shown_by c (shown l i.family key)) (of_index key
            ∙ ap (λ b. change_of i.family key
            (if b then moves_in t.description (map.get t.items place) new i else [])) beyond)
            ∙ shows.indexes name t n i at at_index key
            ∙ ap (λ m. option_map (index_columns t.description i)
            (map.get (index_items t.description i m) key))
            (sym (same_texts (built_part t.description i.built (with_item t.items place new)) (built_part t.description i.built t.items)
            (built_part-beyond t.description i.built t.items place new beyond)))

    -- that of the stream shows the change then
    behind : (f : ℕ) → t.description.stream_family ≡ Some f
        → (key : List ℕ) → (IsLeftover changed.trimmed key → ⊥)
        → shown (with_write l w) f key ≡ change_rows changed key
    behind f stream = stream_shows t.description f stream s.next_number moment writer t.trimmed
        (map.get t.items place) new differ t.changes leftovers l w law valid.next_number.0
        is_table.changes
        (changes_with t.description s.next_number t.trimmed f (record {
          number = s.next_number;
          moment = moment;
          old = map.get t.items place;
          new = new;
          by = writer;
        }) t.changes stream refl
        (change_is s moment writer name t place new valid room at differ stored) is_table.changes)
        room left
        (λ key. ap (change_of f key) changes
        ∙ other_family change (index_part ++ stream_part) f key
        (stream_family_differs t.description is_table.differ f stream)
        ∙ change_of-behind f key index_part stream_part (index_part_apart f
        (λ n i at_index. stream_index_differs t.description is_table.differ n i at_index f stream)))
        (shows.changes name t f at stream)

    -- the families of another table aren't those of this one
    apart_from : (other : List ℕ) (u : Table) (family : ℕ) → map.get s.tables other ≡ Some u
        → eq_by_cmp key_cmp other name ≡ false → Contains (families_of u.description) family
        → Contains (families_of t.description) family → ⊥
    apart_from other u family at_other e of_other own =
        let one : other ≡ name = valid.families other name u t family at_other at of_other own in
        false≢true (sym e ∙ ap (λ k. eq_by_cmp key_cmp k name) one ∙ key_itself name)

    items_after : (other : List ℕ) (u : Table) (b : Bool) → eq_by_cmp key_cmp other name ≡ b
        → cond b (Some changed) (map.get s.tables other) ≡ Some u
        → (key : List ℕ) → shown (with_write l w) u.description.family key ≡ item_rows u key
    items_after other u true e at_other key =
        subst (λ u. shown (with_write l w) u.description.family key ≡ item_rows u key)
        (same_Some _ _ at_other) (here key)
    items_after other u false e at_other key =
        elsewhere u.description.family key
        (apart_from other u u.description.family at_other e (own_family u.description))
        ∙ shows.items other u at_other key

    indexes_after : (other : List ℕ) (u : Table) (b : Bool) → eq_by_cmp key_cmp other name ≡ b
        → cond b (Some changed) (map.get s.tables other) ≡ Some u → (n : ℕ) (i : IndexSchema)
        → index_at u.description (Some n) ≡ Some i
        → (key : List ℕ) → shown (with_write l w) i.family key ≡ index_rows u i key
    indexes_after other u true e at_other n i at_index key =
        subst (λ u. index_at u.description (Some n) ≡ Some i
        → shown (with_write l w) i.family key ≡ index_rows u i key)
        (same_Some _ _ at_other) (λ at_index. there n i at_index key) at_index
    indexes_after other u false e at_other n i at_index key =
        elsewhere i.family key (apart_from other u i.family at_other e
        (index_family u.description n i at_index))
        ∙ shows.indexes other u n i at_other at_index key

    changes_after : (other : List ℕ) (u : Table) (b : Bool) → eq_by_cmp key_cmp other name ≡ b
        → cond b (Some changed) (map.get s.tables other) ≡ Some u → (f : ℕ)
        → u.description.stream_family ≡ Some f
        → (key : List ℕ) → (IsLeftover u.trimmed key → ⊥)
        → shown (with_write l w) f key ≡ change_rows u key
    changes_after other u true e at_other f stream key counts =
        subst (λ u. u.description.stream_family ≡ Some f → (IsLeftover u.trimmed key → ⊥)
        → shown (with_write l w) f key ≡ change_rows u key)
        (same_Some _ _ at_other) (λ stream. behind f stream key) stream counts
    changes_after other u false e at_other f stream key counts =
        elsewhere f key (apart_from other u f at_other e (stream_family u.description f stream))
        ∙ shows.changes other u f at_other stream key counts

    -- the rows are then those of the state with the item
    pub shows_item : Shows (with_write l w) after
    shows_item = record {
      number = ap (λ n. n + 1) (numbered ∙ shows.number);
      catalog = λ key. elsewhere catalog_family key (λ of_table.
          let low = within_all catalog_family of_table in omega (arith, low.0))
          ∙ shows.catalog key ∙ same_catalog key;
      items = λ other u at_other. items_after other u (eq_by_cmp key_cmp other name) refl
          (sym (map.get-insert key_total s.tables name changed other) ∙ at_other);
      indexes = λ other u n i at_other at_index key. indexes_after other u
          (eq_by_cmp key_cmp other name) refl
          (sym (map.get-insert key_total s.tables name changed other) ∙ at_other) n i at_index key;
      changes = λ other u f at_other stream key counts. changes_after other u
          (eq_by_cmp key_cmp other name) refl
          (sym (map.get-insert key_total s.tables name changed other) ∙ at_other) f stream key
          counts;
      beyond = λ family key high. elsewhere family key (λ of_table.
          let low = within_all family of_table in omega (arith, low.1, high))
          ∙ shows.beyond family key high;
    }
