-- The step in which an index is built further: what it leaves is what the machine's leaves.
use Rattle.std.proofs.Common.{◌≡◌, ◌≢◌, ◌≤◌, ◌<◌, ◌+◌, refl, sym, ap, subst, ◌∙◌, ℕ, zero, suc, T, List, [], ◌∷◌, ◌++◌, length, take, map as each, Option, Some, None, All, option_map, slice_get, arith}
use Rattle.std.proofs.lemmas.List.Elements.{All-filter, All-from_recursion, All-head, All-tail, All-take}
use Rattle.std.proofs.lemmas.List.Folds.{flat_map-map}
use Rattle.std.proofs.lemmas.Option.{slice_get-map, same_Some}
use Rattle.std.specs.Cmp.{tied_itself}
use Rattle.std.specs.FinMap as map
use Rattle.std.specs.FinMap.Entries.{below_all, is_sorted}
use Rattle.std.specs.List.{last_or}
use Rattle.std.specs.Ordering.{is_lt}
use Rattle.std.specs.Prelude.{not}
use Rattle.alt_base.proofs.Bools.{first_holds, second_holds}
use Rattle.alt_cells.specs.Batches.{is_distinct}
use Rattle.alt_cells.specs.declared.batch.RowChange.{RowChange}
use Rattle.alt_disk.specs.Disk.{DiskState}
use Rattle.alt_machine.specs.Building.{built_after, building_in, described_so_far, left_part, reaches, with_built}
use Rattle.alt_machine.specs.Indexed.{index_entry}
use Rattle.alt_machine.specs.Lists.{key_attributes}
use Rattle.alt_machine.specs.Ops.UpdateTable.{redescribed}
use Rattle.alt_machine.specs.State.{State, Table, families_of}
use Rattle.alt_machine.specs.Valid.{IsValid}
use Rattle.alt_machine.specs.declared.TheConstants.{NUMBERS_END}
use Rattle.alt_machine.proofs.BuildParts.{Placed, in_order, sorted_taken}
use Rattle.alt_machine.proofs.BuildSteps.{all_stored, families_same}
use Rattle.alt_machine.proofs.Entries.{each_entry}
use Rattle.alt_machine.proofs.Indexing.{index_apart}
use Rattle.alt_schemabytes.specs.Held.{IsHeld}
use Rattle.alt_schema.specs.declared.schema.Built.{Built}
use Rattle.alt_schema.specs.declared.schema.Built.TheVariants.{Whole, UpTo}
use Rattle.alt_schema.specs.declared.schema.IndexSchema.{IndexSchema}
use Rattle.alt_schema.specs.declared.schema.TableSchema.{TableSchema}
use Rattle.alt_value.specs.Members.{text_order}
use Rattle.alt_value.specs.Tree.{Pair}
use Rattle.alt_value.proofs.Texts.{text_total}
use Rattle.alt_views.specs.IndexRows.{moves_in}
use Rattle.alt_rowchanges.specs.OpeningOpened.{EngineHoldsState}
use Rattle.alt_rowchanges.proofs.OpeningOverEngine.{stands_past}
use Rattle.alt_rowchanges.proofs.OpeningLiveLaws.{live_alike}
use Rattle.alt_rowchanges.proofs.OpeningTrimmedLaws.{trimmed-stay}
use Rattle.alt_tables.specs.Foreseen.{Foresees}
use Rattle.alt_rowchanges.specs.Fronts.{AreFronts}
use Rattle.alt_rowchanges.specs.RowChanges.{Turns, changed_rows, step_changes}
use Rattle.alt_tables.specs.Stands.{HasRows, Stands, catalog_of, fronts_of, next_write_of_tables, trimmed_of}
use Rattle.alt_tables.specs.declared.tables.Tables.{Tables}
use Rattle.alt_rowchanges.specs.Steps.{AreApartIn, step_row_changes}
use Rattle.alt_tables.proofs.Altered.{fronts_described}
use Rattle.alt_rowchanges.proofs.BuildLaws.{low, of_stream, others_built, step_turns}
use Rattle.alt_tables.proofs.BuildReads.{item_in, taken_built, taken_items}
use Rattle.alt_rowchanges.proofs.ChangeLaws.{AreOthers}
use Rattle.alt_rowchanges.proofs.Elsewhere.{shown_elsewhere}
use Rattle.alt_tables.proofs.Foreseen.{foresees_redescribed}
use Rattle.alt_rowchanges.proofs.FrontLaws.{fronts_alike}
use Rattle.alt_tables.proofs.Making.{fronts_of_rows}
use Rattle.alt_tables.proofs.Standing.{descriptions-insert, known, still_live, still_trimmed}
use Rattle.alt_rowchanges.proofs.WriteLaws.{stream_within}
use Rattle.alt_tables.proofs.Sizing.{each_alike, largest_is}
use Rattle.alt_value.specs.Size.{item_size}

-- ---- items in order

-- a place below all is below the one at each place of the list
below_at : (q : List ℕ) (es : Placed) (n : ℕ) (e : List ℕ × List Pair)
    → T (below_all text_order q es) → slice_get es n ≡ Some e → q ≢ e.0
below_at q [] n e below at same = absurd (let no : None ≡ Some e = at in cc no)
below_at q (x ∷ xs) zero e below at same =
    let there : T (is_lt (text_order q x.0)) = first_holds (is_lt (text_order q x.0)) _ below in
    subst (λ o. T (is_lt o)) (tied_itself text_total q)
    (subst (λ p. T (is_lt (text_order q p)))
    (ap (λ (y : List ℕ × List Pair). y.0) (same_Some x e at) ∙ sym same) there)
below_at q (x ∷ xs) (suc n) e below at same =
    below_at q xs n e (second_holds (is_lt (text_order q x.0)) _ below) at same

-- so in a list in order one place stands once
sorted_at : (es : Placed) → T (is_sorted text_order es) → (n m : ℕ)
    (e f : List ℕ × List Pair) → slice_get es n ≡ Some e → slice_get es m ≡ Some f → e.0 ≡ f.0
    → n ≡ m
sorted_at [] sorted n m e f at_e at_f same = absurd (let no : None ≡ Some e = at_e in cc no)
sorted_at (x ∷ xs) sorted zero zero e f at_e at_f same = refl
sorted_at (x ∷ xs) sorted zero (suc m) e f at_e at_f same =
    absurd (below_at x.0 xs m f (first_holds (below_all text_order x.0 xs) _ sorted) at_f
    (ap (λ (y : List ℕ × List Pair). y.0) (same_Some x e at_e) ∙ same))
sorted_at (x ∷ xs) sorted (suc n) zero e f at_e at_f same =
    absurd (below_at x.0 xs n e (first_holds (below_all text_order x.0 xs) _ sorted) at_e
    (ap (λ (y : List ℕ × List Pair). y.0) (same_Some x f at_f) ∙ sym same))
sorted_at (x ∷ xs) sorted (suc n) (suc m) e f at_e at_f same = ap suc
    (sorted_at xs (second_holds (below_all text_order x.0 xs) _ sorted) n m e f at_e at_f same)

-- what holds of each holds of the one at a place
each_at : (P : List ℕ × List Pair → Type 0) (es : Placed) (n : ℕ) (e : List ℕ × List Pair)
    → All P es → slice_get es n ≡ Some e → P e
each_at P [] n e all at = absurd (let no : None ≡ Some e = at in cc no)
each_at P (x ∷ xs) zero e all at = subst P (same_Some x e at) (All-head P x xs all)
each_at P (x ∷ xs) (suc n) e all at = each_at P xs n e (All-tail P x xs all) at

-- what stands without its place stands with one
with_place : (es : Placed) (n : ℕ) (x : List Pair) → slice_get (each item_in es) n ≡ Some x
    → (e : List ℕ × List Pair) × (slice_get es n ≡ Some e) × (e.1 ≡ x)
with_place es n x at = by (slice_get es n) refl (sym (slice_get-map item_in es n) ∙ at)
  where
    by : (o : Option (List ℕ × List Pair)) → slice_get es n ≡ o → option_map item_in o ≡ Some x
        → (e : List ℕ × List Pair) × (slice_get es n ≡ Some e) × (e.1 ≡ x)
    by None here is = absurd (let no : None ≡ Some x = is in cc no)
    by (Some e) here is = (e, here, same_Some e.1 x is)

-- ---- the step

module _ (before : DiskState) (old : Tables) (s : State) (stands : Stands before old s)
    (name : List ℕ) (t : Table) (at : map.get s.tables name ≡ Some t) (i : IndexSchema)
    (building : building_in t.description ≡ Some i) (most : ℕ) (one : 1 ≤ most) where
  abbrev more : Placed
  more = left_part t.description i.built t.items

  abbrev es : Placed
  es = take most more

  abbrev e : TableSchema
  e = described_so_far (built_after t.description most more) t.description

  sorted : T (is_sorted text_order es)
  sorted = sorted_taken most more (in_order t.description i.built t.items most one
      (all_stored s name t (stands.valid.tables name t at)))

  abbrev There : List ℕ × List Pair → Type 0
  There x = map.get t.items x.0 ≡ Some x.1

  -- each of them stands among the items
  are_there : All There es
  are_there = All-take There most more
      (All-filter (λ (x : List ℕ × List Pair). not (reaches t.description i.built x.0)) There
      (map.entries t.items)
      (All-from_recursion There (map.entries t.items)
      (each_entry (λ place item. map.get t.items place ≡ Some item) t.items
      (λ place item here. here))))

  -- so no two of them have one key in the index
  pub step_apart : AreApartIn t.description i (each item_in es)
  step_apart n m x y key v w at_x at_y entry_x entry_y =
      let (a, at_a, is_x) = with_place es n x at_x in
      let (b, at_b, is_y) = with_place es m y at_y in
      sorted_at es sorted n m a b at_a at_b
      (index_apart t.description i t.items (λ place item here. (
        (stands.valid.tables name t at).items place item here,
        stands.rows.held.items.items name place t item at here,
      ))
      a.0 b.0 a.1 b.1 key v w (each_at There es n a are_there at_a)
      (each_at There es m b are_there at_b) (ap (index_entry t.description i) is_x ∙ entry_x)
      (ap (index_entry t.description i) is_y ∙ entry_y))

  -- what was read and taken of them makes that step
  module _ (d : TableSchema) (described : map.get (catalog_of old) name ≡ Some d) (taken : ℕ)
      (items : List (List Pair)) (read : items ≡ take (most + 1) (each item_in more))
      (all : length items ≤ most → taken ≡ length items) (fewer : most < length items → taken ≡ most)
      (b : Built) (later : TableSchema) (so_far : later ≡ described_so_far b d) where
    own : t.description ≡ d
    own = same_Some _ _ (sym (known before old s name t stands at) ∙ described)

    pub later_is : (taken ≡ length items → b ≡ Whole)
        → (taken < length items → 1 ≤ taken
        → b ≡ UpTo (last_or None (each (key_attributes d None) (take taken items))))
        → later ≡ e
    later_is whole up_to = so_far
        ∙ ap (λ x. described_so_far x d) (taken_built most taken one more items read all fewer d b
        whole up_to)
        ∙ (λ j. described_so_far (built_after (sym own j) most more) (sym own j))

    pub batch_of : (batch : List RowChange)
        → ((j : IndexSchema) → building_in d ≡ Some j → 1 ≤ j.family
        → AreApartIn d j (take taken items) → batch ≡ step_row_changes d later j (take taken items))
        → batch ≡ step_row_changes d later i (each item_in es)
    batch_of batch stepped =
        let same : take taken items ≡ each item_in es =
        taken_items most taken one more items read all fewer in
        stepped i (ap building_in (sym own) ∙ building)
        (low s stands.valid stands.rows.held name t at i building most one).0
        (subst (λ xs. AreApartIn d i xs) (sym same)
        (subst (λ x. AreApartIn x i (each item_in es)) own step_apart))
        ∙ ap (step_row_changes d later i) same

  module _ (d : TableSchema) (described : map.get (catalog_of old) name ≡ Some d)
      (later : TableSchema) (is_later : later ≡ e) (batch : List RowChange)
      (is : batch ≡ step_row_changes d later i (each item_in es)) where
    same : t.description ≡ d
    same = same_Some _ _ (sym (known before old s name t stands at) ∙ described)

    -- its row changes are those of the step
    batch_is : batch ≡ step_changes t.description e i es
    batch_is = is ∙ (λ j. step_row_changes (sym same j) (is_later j) i (each item_in es))
        ∙ ap (λ cs. step_row_changes t.description e i [] ++ cs)
        (flat_map-map (λ x. moves_in t.description None (Some x) i) item_in es)

    abbrev r : State
    r = with_built s most name t i

    -- they turn the state into the one with it
    pub step_turned : next_write_of_tables old < NUMBERS_END → IsHeld later → Turns batch s r
    step_turned room held = subst (λ cs. Turns cs s r) (sym batch_is)
        (step_turns s stands.valid stands.rows.held name t at i building most one
        (omega (arith, room, stands.number)) (subst IsHeld is_later held))

    -- the fronts of streams stay
    step_fronts : T (is_distinct batch)
        → AreFronts (changed_rows stands.rows.layout batch) s.tables (fronts_of old)
    step_fronts distinct = fronts_alike stands.rows.layout (changed_rows stands.rows.layout batch)
        s.tables (fronts_of old)
        (λ q v family at_v stream. shown_elsewhere stands.rows.layout batch distinct
        (stands_past before old.engine stands.rows.layout stands.rows.is) family
        (subst (AreOthers family) (sym batch_is) (
          λ own. let low = (stream_within s q v (stands.valid.tables q v at_v) family stream).0 in
              omega (arith, low, own),
          others_built s stands.valid stands.rows.held name t at i building most one family
              (of_stream s stands.valid stands.rows.held name t at i building most one q v family
              at_v stream) es,
        )))
        (stands.fronts stands.rows.layout stands.rows.is)

    -- The tables stand for it.
    pub step_stands : (now : DiskState) (new : Tables) → EngineHoldsState now new.engine r → IsValid r
        → later.name ≡ name → new.catalog ≡ map.insert old.catalog later.name later
        → new.live ≡ old.live → new.family ≡ old.family → new.trimmed ≡ old.trimmed
        → new.fronts ≡ old.fronts → new.due ≡ old.due → new.largest ≡ old.largest
        → new.builds ≡ old.builds
        → next_write_of_tables new ≡ next_write_of_tables old + 1 → T (is_distinct batch)
        → HasRows now new (changed_rows stands.rows.layout batch) → Stands now new r
    step_stands now new holds valid named catalog live family trimmed fronts due largest builds number
        distinct rows = record {
          catalog = catalog
              ∙ (λ j. map.insert (stands.catalog j) (named j) (is_later j))
              ∙ sym (descriptions-insert s.tables name (redescribed e t));
          number = number ∙ ap (λ n. n + 1) stands.number;
          family = family ∙ stands.family;
          live = still_live (map.insert old.catalog name later) new.catalog old.live new.live
              (catalog ∙ ap (λ n. map.insert old.catalog n later) named) live
              (live_alike old.catalog old.live stands.live d name later described
              (ap families_of is_later
              ∙ families_same (built_after t.description most more) t.description
              ∙ ap families_of same));
          trimmed = still_trimmed (map.insert s.tables name (redescribed e t)) old new trimmed
              (trimmed-stay s.tables name (trimmed_of old) stands.trimmed t (redescribed e t) at refl);
          rows = holds;
          fronts = fronts_of_rows now new (changed_rows stands.rows.layout batch)
              (map.insert s.tables name (redescribed e t)) rows
              (subst (λ known. AreFronts (changed_rows stands.rows.layout batch)
              (map.insert s.tables name (redescribed e t)) known.items) (sym fronts)
              (fronts_described (changed_rows stands.rows.layout batch) s.tables (fronts_of old) name
              t e refl at (step_fronts distinct)));
          due = subst (Foresees (map.insert s.tables name (redescribed e t))) (sym due)
              (foresees_redescribed s.tables name old.due stands.due t at e refl);
          sized = largest_is (map.insert s.tables name (redescribed e t)) old.largest new.largest largest
              (each_alike (λ item. item_size item ≤ old.largest) s.tables name stands.sized t
              (redescribed e t) at refl);
          builds = λ none. absurd (let no : None ≡ Some i =
              sym (stands.builds (sym builds ∙ none) name t.description
              (known before old s name t stands at)) ∙ building in cc no);
          valid = valid;
        }
