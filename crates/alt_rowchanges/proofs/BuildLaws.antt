-- The step in which an index is built further turns the rows of a state into those of the state with it.
use Rattle.std.proofs.Common.{◌≡◌, ◌≢◌, ◌≤◌, ◌<◌, ◌+◌, ◌⊎◌, ℕ, zero, suc, Bool, true, false, cond, not, T, List, [], ◌∷◌, ◌++◌, map as each, take, Option, Some, None, refl, sym, ap, subst, ◌∙◌, inl, inr, slice_get, option_map, arith, All, Contains}
use Rattle.std.proofs.lemmas.Bool.{false≢true}
use Rattle.std.proofs.lemmas.List.Elements.{All-cons, All-head, All-tail, All-nil, All-take}
use Rattle.std.proofs.lemmas.Option.{slice_get-map, same_Some}
use Rattle.std.specs.Cmp.{tied_itself}
use Rattle.std.specs.Prelude.{if◌then◌else◌}
use Rattle.std.specs.List.{filter}
use Rattle.std.specs.Ordering.{eq_by_cmp, is_lt}
use Rattle.std.specs.FinMap as map
use Rattle.std.specs.FinMap.Entries.{below_all, is_sorted}
use Rattle.alt_base.proofs.Bools.{first_holds, second_holds}
use Rattle.alt_base.proofs.Lists.{all_at}
use Rattle.alt_cells.specs.declared.batch.RowChange.{RowChange}
use Rattle.alt_cells.specs.Keys.{key_cmp}
use Rattle.alt_cells.proofs.CellLaws.{key_total}
use Rattle.alt_cells.proofs.SameKeys.{key_itself, one_key}
use Rattle.alt_opening.specs.HandInHand.{batch_write}
use Rattle.alt_layout.specs.Layout.{Layout, shown, shown_by, change_of}
use Rattle.alt_layout.specs.Writes.{with_write}
use Rattle.alt_layout.proofs.BatchLaws.{shows_batch}
use Rattle.alt_writes.specs.Writes.{Write}
use Rattle.alt_machine.specs.Building.{built_after, built_part, building_in, described_so_far, is_building, left_part, reaches, so_far, with_built}
use Rattle.alt_machine.specs.Indexed.{index_entry, index_items}
use Rattle.alt_machine.specs.Ops.UpdateTable.{redescribed, with_description}
use Rattle.alt_machine.specs.Sources.{index_at}
use Rattle.alt_machine.specs.State.{State, Table, Texts, families_of}
use Rattle.alt_machine.specs.Valid.{IsChangeOfValues, IsTable, IsValid, IsStored}
use Rattle.alt_machine.specs.Writes.{with_item}
use Rattle.alt_machine.specs.declared.TheConstants.{NUMBERS_END}
use Rattle.alt_machine.proofs.BuildParts.{Placed, built_after-is, in_order, sorted_taken, with_all}
use Rattle.alt_machine.proofs.BuildSteps.{all_stored, with_built_valid}
use Rattle.alt_machine.proofs.Building.{get-built_part}
use Rattle.alt_machine.proofs.Indexing.{index_apart}
use Rattle.alt_machine.proofs.Looks.{at_insert}
use Rattle.alt_machine.proofs.Redescribed.{IsAlike, built_part-alike}
use Rattle.alt_machine.proofs.Rekeying.{AreApart}
use Rattle.alt_schema.specs.Bare.{is_whole}
use Rattle.alt_schemabytes.specs.Held.{IsHeld}
use Rattle.alt_schema.specs.Indexes.{indexes}
use Rattle.alt_schema.specs.declared.schema.Built.{Built}
use Rattle.alt_schema.specs.declared.schema.IndexSchema.{IndexSchema}
use Rattle.alt_schema.specs.declared.schema.TableSchema.{TableSchema}
use Rattle.alt_value.specs.Members.{text_order}
use Rattle.alt_value.specs.Tree.{Pair}
use Rattle.alt_value.proofs.Texts.{text_total}
use Rattle.alt_opening.specs.StateRows.{HasMoment, IsHeldWhole, Shows, catalog_family, index_rows}
use Rattle.alt_opening.proofs.Families.{own_family}
use Rattle.alt_opening.proofs.OneIndex.{behind_any, found_at, one_of_family, only_one}
use Rattle.alt_rowchanges.specs.RowChanges.{Turns, step_changes}
use Rattle.alt_rowchanges.proofs.BuildShows.{AreFresh, build_changes, build_shows, apart_of}
use Rattle.alt_rowchanges.proofs.CatalogLaws.{off_catalog, table_named}
use Rattle.alt_rowchanges.proofs.ChangeLaws.{ShowsWrite, AreOthers, change_of-none, others-append}
use Rattle.alt_rowchanges.proofs.DescribedShows.{described_change, shows_described}
use Rattle.alt_rowchanges.proofs.IndexFamilies.{own_families, index_family, index_family_differs}
use Rattle.alt_rowchanges.proofs.Moving.{others-moved_changes}
use Rattle.alt_rowchanges.proofs.StreamShows.{stream_index_differs, stream_family}
use Rattle.alt_rowchanges.proofs.StreamTrims.{change_first}
use Rattle.alt_rowchanges.proofs.WriteLaws.{index_within}
use Rattle.alt_views.specs.IndexRows.{index_columns, moves_in, row_in_index}

-- ---- indexes

module _ {A : Type 0} (f : A → A) where
  -- what stands in two lists of which the second is changed was there before
  behind_changed : (xs ys : List A) (n : ℕ) (z : A) → slice_get (xs ++ each f ys) n ≡ Some z
      → (x : A) × (slice_get (xs ++ ys) n ≡ Some x)
      × (((x ≡ z) × ((m : ℕ) × (slice_get xs m ≡ Some x)))
      ⊎ ((f x ≡ z) × ((m : ℕ) × (slice_get ys m ≡ Some x))))
  behind_changed [] ys n z at = by (slice_get ys n) refl (sym (slice_get-map f ys n) ∙ at)
    where
      by : (o : Option A) → slice_get ys n ≡ o → option_map f o ≡ Some z
          → (x : A) × (slice_get ys n ≡ Some x)
          × (((x ≡ z) × ((m : ℕ) × (slice_get [] m ≡ Some x)))
          ⊎ ((f x ≡ z) × ((m : ℕ) × (slice_get ys m ≡ Some x))))
      by None here g = absurd (let no : ⊥ = cc in no)
      by (Some x) here g = (x, here, inr (same_Some (f x) z g, (n, here)))
  behind_changed (w ∷ ws) ys zero z at = (w, refl, inl (same_Some w z at, (0, refl)))
  behind_changed (w ∷ ws) ys (suc n) z at =
      let (x, here, which) = behind_changed ws ys n z at in (
        x,
        here,
        elim which [
          | inl own ↦ inl (own.0, (suc own.1.0, own.1.1))
          | inr changed ↦ inr changed
        ],
      )

-- ---- items that come

-- entries in order of which none stands there are fresh
fresh_of : (items : Texts (List Pair)) (es : Placed) → T (is_sorted text_order es)
    → All (λ (e : List ℕ × List Pair). map.get items e.0 ≡ None) es → AreFresh items es
fresh_of items [] sorted none = tt
fresh_of items (e ∷ es) sorted none = (
  All-head (λ (e : List ℕ × List Pair). map.get items e.0 ≡ None) e es none,
  fresh_of (with_item items e.0 (Some e.1)) es (second_holds (below_all text_order e.0 es) _ sorted)
      (still es (first_holds (below_all text_order e.0 es) _ sorted)
      (All-tail (λ (e : List ℕ × List Pair). map.get items e.0 ≡ None) e es none)),
)
  where
    Then : List ℕ × List Pair → Type 0
    Then f = map.get (with_item items e.0 (Some e.1)) f.0 ≡ None

    at : (f : List ℕ × List Pair) → T (is_lt (text_order e.0 f.0)) → map.get items f.0 ≡ None
        → Then f
    at f above none = map.get-insert key_total items e.0 e.1 f.0
        ∙ by (eq_by_cmp key_cmp f.0 e.0) refl
      where
        by : (b : Bool) → eq_by_cmp key_cmp f.0 e.0 ≡ b
            → cond b (Some e.1) (map.get items f.0) ≡ None
        by true same = absurd (subst (λ o. T (is_lt o)) (tied_itself text_total e.0)
            (subst (λ q. T (is_lt (text_order e.0 q))) (one_key f.0 e.0 same) above))
        by false other = none

    still : (fs : Placed) → T (below_all text_order e.0 fs)
        → All (λ (f : List ℕ × List Pair). map.get items f.0 ≡ None) fs → All Then fs
    still [] below none = All-nil Then
    still (f ∷ fs) below none = All-cons Then f fs
        (at f (first_holds (is_lt (text_order e.0 f.0)) _ below)
        (All-head (λ (f : List ℕ × List Pair). map.get items f.0 ≡ None) f fs none))
        (still fs (second_holds (is_lt (text_order e.0 f.0)) _ below)
        (All-tail (λ (f : List ℕ × List Pair). map.get items f.0 ≡ None) f fs none))

module _ (d : TableSchema) (b : Built) (items : Texts (List Pair)) where
  -- of what isn't reached nothing stands in what is built
  left_none : (xs : Placed) → All (λ (e : List ℕ × List Pair). map.get (built_part d b items) e.0 ≡ None)
      (filter (λ (e : List ℕ × List Pair). not (reaches d b e.0)) xs)
  left_none [] = All-nil (λ (e : List ℕ × List Pair). map.get (built_part d b items) e.0 ≡ None)
  left_none (e ∷ es) = by (left_none es) (reaches d b e.0) refl
    where
      None_at : List ℕ × List Pair → Type 0
      None_at f = map.get (built_part d b items) f.0 ≡ None

      rest : Placed
      rest = filter (λ (e : List ℕ × List Pair). not (reaches d b e.0)) es

      by : All None_at rest → (c : Bool) → reaches d b e.0 ≡ c
          → All None_at (cond (not c) (e ∷ rest) rest)
      by none true at = none
      by none false at = All-cons None_at e rest
          (get-built_part d b items e.0 ∙ ap (λ c. cond c (map.get items e.0) None) at) none

  -- what stands in it stands among the items
  part_of : (q : List ℕ) (x : List Pair) → map.get (built_part d b items) q ≡ Some x
      → map.get items q ≡ Some x
  part_of q x at = by (reaches d b q) (sym (get-built_part d b items q) ∙ at)
    where
      by : (c : Bool) → cond c (map.get items q) None ≡ Some x → map.get items q ≡ Some x
      by true e = e
      by false e = absurd (let no : ⊥ = cc in no)

-- ---- the step

module _ (s : State) (valid : IsValid s) (held : IsHeldWhole s) (name : List ℕ) (t : Table)
    (at : map.get s.tables name ≡ Some t) (i : IndexSchema)
    (building : building_in t.description ≡ Some i) (most : ℕ) (one : 1 ≤ most) where
  abbrev d : TableSchema
  d = t.description

  abbrev more : Placed
  more = left_part d i.built t.items

  abbrev es : Placed
  es = take most more

  abbrev b : Built
  b = built_after d most more

  abbrev e : TableSchema
  e = described_so_far b d

  abbrev u : Table
  u = redescribed e t

  is_table : IsTable s name t
  is_table = valid.tables name t at

  alike : IsAlike d e
  alike = record { name = refl; hash = refl; range = refl; stream = refl; number = refl }

  stored : All (λ (x : List ℕ × List Pair). IsStored d x.0 x.1) (map.entries t.items)
  stored = all_stored s name t is_table

  -- the index stands among those of the table
  in_globals : (n : ℕ) × (slice_get d.globals n ≡ Some i) × (is_building i ≡ true)
  in_globals = found_at is_building d.globals i building

  numbered : (m : ℕ) × (index_at d (Some m) ≡ Some i)
  numbered = behind_any d.locals d.globals in_globals.0 i in_globals.1

  pub low : (1 ≤ i.family) × (i.family < s.next_family)
  low = index_within s name t is_table numbered.0 i numbered.1

  -- another of that family is it
  same_index : (n : ℕ) (x : IndexSchema) → index_at d (Some n) ≡ Some x → x.family ≡ i.family → x ≡ i
  same_index n x at_x = one_of_family (indexes d) (own_families d is_table.differ) n numbered.0 x i
      at_x numbered.1

  -- the next items are none of those of which it is built
  fresh : AreFresh (built_part d i.built t.items) es
  fresh = fresh_of (built_part d i.built t.items) es
      (sorted_taken most more (in_order d i.built t.items most one stored))
      (All-take (λ (x : List ℕ × List Pair). map.get (built_part d i.built t.items) x.0 ≡ None) most
      more (left_none d i.built t.items (map.entries t.items)))

  -- with them no two have one key in the index
  with_those : with_all (built_part d i.built t.items) es ≡ built_part d b t.items
  with_those = built_after-is d i.built t.items most one stored

  apart : AreApart (index_entry d i) (with_all (built_part d i.built t.items) es)
  apart = subst (AreApart (index_entry d i)) (sym with_those)
      (apart_of d i (built_part d b t.items) t.items (part_of d b t.items)
      (index_apart d i t.items (λ place item here. (
        is_table.items place item here,
        held.items.items name place t item at here,
      ))))

  abbrev batch : List RowChange
  batch = step_changes d e i es

  -- the rows that come are of the index
  pub others_built : (f : ℕ) → f ≢ i.family → (xs : Placed) → AreOthers f (build_changes d i xs)
  others_built f other [] = tt
  others_built f other (x ∷ xs) = others-append f (moves_in d None (Some x.1) i)
      (build_changes d i xs)
      (others-moved_changes i.family f None (row_in_index d i x.1) (λ same. other (sym same)))
      (others_built f other xs)

  -- a table that has the family of the index is this one
  same_table : (other : List ℕ) (x : Table) → map.get s.tables other ≡ Some x
      → Contains (families_of x.description) i.family → x ≡ t
  same_table other x at_x has = same_Some x t (sym at_x
      ∙ ap (map.get s.tables) (valid.families other name x t i.family at_x at has
      (index_family d numbered.0 i numbered.1)) ∙ at)

  of_table : (other : List ℕ) (x : Table) → map.get s.tables other ≡ Some x
      → x.description.family ≢ i.family
  of_table other x at_x same =
      let it : x ≡ t = same_table other x at_x
      (subst (Contains (families_of x.description)) same (own_family x.description)) in
      index_family_differs d is_table.differ numbered.0 i numbered.1
      (ap (λ (y : Table). y.description.family) (sym it) ∙ same)

  pub of_stream : (other : List ℕ) (x : Table) (g : ℕ) → map.get s.tables other ≡ Some x
      → x.description.stream_family ≡ Some g → g ≢ i.family
  of_stream other x g at_x told same =
      let it : x ≡ t = same_table other x at_x
      (subst (Contains (families_of x.description)) same (stream_family x.description g told)) in
      stream_index_differs d is_table.differ numbered.0 i numbered.1 g
      (ap (λ (y : Table). y.description.stream_family) (sym it) ∙ told) (sym same)

  of_index : (other : List ℕ) (x : Table) (n : ℕ) (j : IndexSchema)
      → eq_by_cmp key_cmp other name ≡ false → map.get s.tables other ≡ Some x
      → index_at x.description (Some n) ≡ Some j → j.family ≢ i.family
  of_index other x n j differs at_x at_j same =
      let has : Contains (families_of x.description) i.family =
      subst (Contains (families_of x.description)) same (index_family x.description n j at_j) in
      let one_name : other ≡ name = valid.families other name x t i.family at_x at has
      (index_family d numbered.0 i numbered.1) in
      false≢true (sym differs ∙ ap (λ k. eq_by_cmp key_cmp k name) one_name ∙ key_itself name)

  module _ (l : Layout) (shows : Shows l s) (law : ShowsWrite l (batch_write l batch)) where
    abbrev w : Write
    w = batch_write l batch

    off : (f : ℕ) (key : List ℕ) → 1 ≤ f → f ≢ i.family → shown (with_write l w) f key ≡ shown l f key
    off f key high other = law f key ∙ ap (λ c. shown_by c (shown l f key))
        (off_catalog (described_change d e) (build_changes d i es) f key refl high
        ∙ change_of-none f key (build_changes d i es) (others_built f other es))

    in_catalog : (key : List ℕ) → change_of catalog_family key batch
        ≡ (if eq_by_cmp key_cmp key name then Some (described_change d e)
        else (if eq_by_cmp key_cmp key [] then None else None))
    in_catalog key = change_first (described_change d e) key (build_changes d i es)
        ∙ ap (λ o. if eq_by_cmp key_cmp key d.name then Some (described_change d e) else o)
        (change_of-none catalog_family key (build_changes d i es)
        (others_built catalog_family (λ same. let above = low.0 in omega (arith, above, same)) es)
        ∙ twice (eq_by_cmp key_cmp key []) None)
        ∙ ap (λ n. if eq_by_cmp key_cmp key n then Some (described_change d e)
        else (if eq_by_cmp key_cmp key [] then None else None)) is_table.named
      where
        twice : (c : Bool) (o : Option RowChange) → o ≡ (if c then o else o)
        twice true o = refl
        twice false o = refl

    -- the index shows the items with the next ones
    built_rows : (key : List ℕ)
        → shown (with_write l w) i.family key ≡ index_rows u (record i { built = b }) key
    built_rows key = build_shows d i l w law (built_part d i.built t.items) es fresh apart
        (λ k. off_catalog (described_change d e) (build_changes d i es) i.family k refl low.0)
        (λ k. shows.indexes name t numbered.0 i at numbered.1 k) key
        ∙ ap (λ m. option_map (index_columns d i) (map.get (index_items d i m) key))
        (with_those ∙ sym (built_part-alike d e alike b t.items))

    -- another shows what it did
    other_rows : (n : ℕ) (x : IndexSchema) → index_at d (Some n) ≡ Some x → x.family ≢ i.family
        → (key : List ℕ) → shown (with_write l w) x.family key ≡ index_rows u x key
    other_rows n x at_x other key = off x.family key (index_within s name t is_table n x at_x).0 other
        ∙ shows.indexes name t n x at at_x key
        ∙ ap (λ m. option_map (index_columns d x) (map.get (index_items d x m) key))
        (sym (built_part-alike d e alike x.built t.items))

    -- one that is whole has another family
    whole_other : (n : ℕ) (x : IndexSchema) → index_at d (Some n) ≡ Some x → is_building x ≡ false
        → x.family ≢ i.family
    whole_other n x at_x whole same = false≢true (sym whole
        ∙ ap is_building (same_index n x at_x same) ∙ in_globals.2)

    own_index : (n : ℕ) (j : IndexSchema) → index_at e (Some n) ≡ Some j → (key : List ℕ)
        → shown (with_write l w) j.family key ≡ index_rows u j key
    own_index n j at_j key =
        let (x, at_x, which) = behind_changed (so_far b) d.locals d.globals n j at_j in
        elim which [
          | inl own ↦ subst (λ (y : IndexSchema). shown (with_write l w) y.family key ≡ index_rows u y key)
              own.0 (other_rows n x at_x (whole_other n x at_x (local x own.1.0 own.1.1)) key)
          | inr changed ↦ by x at_x changed.1.0 changed.1.1 (is_building x) refl changed.0
        ]
      where
        -- a local index is whole
        local : (x : IndexSchema) (m : ℕ) → slice_get d.locals m ≡ Some x → is_building x ≡ false
        local x m at_x = ap not (all_at (λ (y : IndexSchema). is_whole y.built) d.locals m x
            is_table.made.built.locals at_x)

        by : (x : IndexSchema) → index_at d (Some n) ≡ Some x → (m : ℕ)
            → slice_get d.globals m ≡ Some x → (c : Bool) → is_building x ≡ c → so_far b x ≡ j
            → shown (with_write l w) j.family key ≡ index_rows u j key
        by x at_x m in_x true c is =
            let it : x ≡ i = only_one is_building d.globals is_table.made.built.one i building m x in_x c in
            subst (λ (y : IndexSchema). shown (with_write l w) y.family key ≡ index_rows u y key)
            (sym (ap (λ f. if f then record i { built = b } else i) in_globals.2)
            ∙ ap (so_far b) (sym it) ∙ is)
            (built_rows key)
        by x at_x m in_x false c is =
            subst (λ (y : IndexSchema). shown (with_write l w) y.family key ≡ index_rows u y key)
            (sym (ap (λ f. if f then record x { built = b } else x) c) ∙ is)
            (other_rows n x at_x (whole_other n x at_x c) key)

    step_shows : Shows (with_write l w) (with_description s name t e s.next_family)
    step_shows = shows_described l s shows valid name t at (table_named s name t valid at) e refl refl
        s.next_family (omega arith) w refl law None refl in_catalog i.family low.1
        (λ f key high other. off f key high other) of_table of_stream of_index own_index

  -- The write turns the state into the one in which the index is built of so many items more.
  pub step_turns : s.next_number < NUMBERS_END → IsHeld e → Turns batch s (with_built s most name t i)
  step_turns room held_e = record {
    shows = λ distinct l past shows. step_shows l shows
        (shows_batch l (batch_write l batch) distinct past (omega arith));
    valid = with_built_valid s most name t i valid room at;
    held = record {
      items = record {
        items = λ other q x item at_x here. elim (at_insert s.tables name other x u at_x) [
          | inl new ↦ held.items.items name q t item at
              (ap (λ (y : Table). map.get y.items q) new.1 ∙ here)
          | inr old ↦ held.items.items other q x item old here
        ];
        changes = λ other x at_x. elim (at_insert s.tables name other x u at_x) [
          | inl new ↦ subst (λ (y : Table). All IsChangeOfValues y.changes) new.1
              (held.items.changes name t at)
          | inr old ↦ held.items.changes other x old
        ];
      };
      moments = λ other x at_x. elim (at_insert s.tables name other x u at_x) [
        | inl new ↦ subst (λ (y : Table). All HasMoment y.changes) new.1 (held.moments name t at)
        | inr old ↦ held.moments other x old
      ];
      descriptions = λ other x at_x. elim (at_insert s.tables name other x u at_x) [
        | inl new ↦ subst (λ (y : Table). IsHeld y.description) new.1 held_e
        | inr old ↦ held.descriptions other x old
      ];
    };
  }
