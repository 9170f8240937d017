-- The rows of the items in a range of places, and the items that are read from them.
use Rattle.std.proofs.Common.{◌≡◌, refl, sym, ap, subst, ◌∙◌, ℕ, zero, suc, Bool, true, false, cond, T, List, [], ◌∷◌, ◌++◌, map, take, Option, Some, None, Result, Ok, Err, IfErr, IsTrue, option_map, All}
use Rattle.std.proofs.lemmas.List.{take-map}
use Rattle.std.proofs.lemmas.List.Elements.{All-nil, All-cons, All-head, All-tail, All-map, All-take, All-filter}
use Rattle.std.proofs.lemmas.Option.{same_Some}
use Rattle.std.specs.BTreeMap.Range.{entries_between, range_contains}
use Rattle.std.specs.FinMap as finite
use Rattle.std.specs.FinMap.Entries.{below_all, find, is_sorted, same_entries}
use Rattle.std.specs.Prelude.{option_and_then}
use Rattle.std.specs.Ordering.{eq_by_cmp}
use Rattle.std.specs.declared.ops.Bound.TheVariants.{Included}
use Rattle.alt_base.proofs.Bools.{first_holds, second_holds}
use Rattle.alt_cells.specs.Changes.{Columns}
use Rattle.alt_cells.specs.Keys.{key_cmp}
use Rattle.alt_cells.specs.Walks.{turned as rows_turned}
use Rattle.alt_cells.proofs.CellLaws.{key_total, key_exact}
use Rattle.alt_cells.proofs.Entries.{find_below}
use Rattle.alt_cells.proofs.SameKeys.{key_itself, one_key}
use Rattle.alt_disk.specs.Disk.{DiskState}
use Rattle.alt_disk.proofs.Runs.{tells_of}
use Rattle.alt_rowchanges.specs.OpeningEngineInHand.{ReadsLayout as EngineReads}
use Rattle.alt_layout.specs.Layout.{Layout, rows_between, shown, shown_of, shown_rows, end_bound as rows_end}
use Rattle.alt_layout.proofs.ShownLaws.{find-shown, is_sorted-shown, shown-filter, shown-turned, get-shown_rows}
use Rattle.alt_machine.specs.Building.{built_part}
use Rattle.alt_machine.specs.Indexed.{index_items}
use Rattle.alt_machine.specs.Sources.{index_at}
use Rattle.alt_machine.specs.State.{State, Table, Texts}
use Rattle.alt_machine.specs.Walks.{end_bound, items_between, turned}
use Rattle.alt_machine.proofs.Building.{built_part-whole}
use Rattle.alt_machine.proofs.Indexing.{all_index}
use Rattle.alt_schema.specs.Bare.{is_whole}
use Rattle.alt_schema.proofs.BareLaws.{whole_is}
use Rattle.alt_schema.specs.declared.schema.IndexSchema.{IndexSchema}
use Rattle.alt_schema.specs.declared.schema.TableSchema.{TableSchema}
use Rattle.alt_rowchanges.specs.OpeningHandFaults.{told_by_engine}
use Rattle.alt_faults.specs.Faults.{IsOutside}
use Rattle.alt_faults.proofs.Telling.{memory-outside, outside-neither}
use Rattle.alt_machine.proofs.Turned.{All-turned}
use Rattle.alt_rowchanges.specs.Faults.{IsFindFault, IsReadFault, told_by_tables}
use Rattle.alt_views.specs.ItemRows.{IsReadItem, item_columns}
use Rattle.alt_rowchanges.specs.Pages.{AreItemsOf, AreKept, ArePut}
use Rattle.alt_tables.specs.Stands.{Stands, catalog_of}
use Rattle.alt_rowchanges.specs.declared.faults.TableFault.{TableFault}
use Rattle.alt_tables.specs.declared.tables.Tables.{Tables}
use Rattle.alt_rowchanges.specs.OpeningStateRows.{index_rows}
use Rattle.alt_views.specs.IndexRows.{index_columns}
use Rattle.alt_views.specs.Read.{IsKeptAt}
use Rattle.alt_views.proofs.Keeping.{kept_at}
use Rattle.alt_rowchanges.proofs.OpeningOneState.{has_whole}
use Rattle.alt_rowchanges.proofs.PageRows.{same_items}
use Rattle.alt_tables.proofs.Standing.{known}
use Rattle.alt_value.specs.Members.{text_order}
use Rattle.alt_rowchanges.specs.OpeningHandOpened.{EngineFaultIsUndamaged, EngineFaultIsUnspent}
use Rattle.alt_rowchanges.specs.OpeningHandDeclaredEngineFault.{EngineFault}
use Rattle.alt_value.specs.Tree.{Pair}

-- ---- entries of items as those of rows

module _ {X : Type 0} (columns : X → Columns) where
  -- the row of an item is shown
  abbrev pub as_row : X → Option Columns
  as_row item = Some (columns item)

  -- the row of an item at its place
  abbrev pub row_at : List ℕ × X → List ℕ × Columns
  row_at e = (e.0, columns e.1)

  -- the rows that are shown are those of all
  pub shown_of-rows : (es : List (List ℕ × X)) → shown_of as_row es ≡ map row_at es
  shown_of-rows [] = refl
  shown_of-rows (e ∷ es) = ap (λ rows. row_at e ∷ rows) (shown_of-rows es)

  -- their columns
  columns-rows : (es : List (List ℕ × X))
      → map (λ (e : List ℕ × Columns). e.1) (map row_at es) ≡ map columns (map (λ e. e.1) es)
  columns-rows [] = refl
  columns-rows (e ∷ es) = ap (λ cs. columns e.1 ∷ cs) (columns-rows es)

  -- the row of an item that may not be there
  pub row_of : (o : Option X) → option_map columns o ≡ option_and_then as_row o
  row_of None = refl
  row_of (Some item) = refl

-- a walk over rows goes as one over items
same_turned : {A : Type 0} (forward : Bool) (xs : List A)
    → rows_turned forward xs ≡ turned forward xs
same_turned true xs = refl
same_turned false xs = refl

-- and ends where that does
pub same_end : (to : Option (List ℕ)) → rows_end to ≡ end_bound to
same_end None = refl
same_end (Some to) = refl

-- ---- what holds of each item

-- of each that is found, so of each entry
each_found : {X : Type 0} (P : List ℕ × X → Type 0) (es : List (List ℕ × X))
    → T (is_sorted key_cmp es)
    → ((place : List ℕ) (item : X) → find key_cmp place es ≡ Some item → P (place, item))
    → All P es
each_found P [] sorted found = All-nil P
each_found {X = X} P (e ∷ es) sorted found = All-cons P e es
    (found e.0 e.1 (ap (λ b. cond b (Some e.1) (find key_cmp e.0 es)) (key_itself e.0)))
    (each_found P es (second_holds (below_all key_cmp e.0 es) _ sorted)
    (λ place item at. found place item (later place item at (eq_by_cmp key_cmp place e.0) refl)))
  where
    later : (place : List ℕ) (item : X) → find key_cmp place es ≡ Some item → (b : Bool)
        → eq_by_cmp key_cmp place e.0 ≡ b → find key_cmp place (e ∷ es) ≡ Some item
    later place item at true same = absurd (let no : None ≡ Some item =
        sym (find_below key_cmp key_total e.0 es (first_holds _ (is_sorted key_cmp es) sorted))
        ∙ ap (λ q. find key_cmp q es) (sym (one_key place e.0 same)) ∙ at in cc no)
    later place item at false differs =
        ap (λ b. cond b (Some e.1) (find key_cmp place es)) differs ∙ at

-- the item of an entry can be read
abbrev CanBeRead : List ℕ × List Pair → Type 0
CanBeRead e = IsReadItem e.1

-- ---- the rows of a family

module _ {X : Type 0} (columns : X → Columns) (l : Layout) (family : ℕ) (items : Texts X)
    (shows : (key : List ℕ) → shown l family key ≡ option_map columns (finite.get items key)) where
  -- the rows that the family shows
  abbrev rows : finite.FinMap key_cmp Columns
  rows = shown_rows l family

  -- are those of its items, in the order of their places
  entries-rows : finite.entries rows ≡ shown_of (as_row columns) (finite.entries items)
  entries-rows = same_entries key_cmp key_total key_exact _ _ (finite.entries_sorted rows)
      (is_sorted-shown (as_row columns) (finite.entries items) (finite.entries_sorted items))
      (λ q. sym (finite.get-entries rows q) ∙ get-shown_rows l family q
      ∙ shows q ∙ row_of columns (finite.get items q)
      ∙ ap (option_and_then (as_row columns)) (finite.get-entries items q)
      ∙ sym (find-shown (as_row columns) q (finite.entries items) (finite.entries_sorted items)))

  -- and so they are in a range
  pub rows_between-items : (from : List ℕ) (to : Option (List ℕ)) (forward : Bool)
      → rows_between l family from to forward ≡ map (row_at columns) (turned forward
      (entries_between text_order (Included from) (end_bound to) (finite.entries items)))
  rows_between-items from to forward =
      let within : List (List ℕ × X) =
      entries_between text_order (Included from) (end_bound to) (finite.entries items) in
      ap (λ end. rows_turned forward (entries_between key_cmp (Included from) end
      (finite.entries rows))) (same_end to)
      ∙ ap (λ es. rows_turned forward (entries_between key_cmp (Included from) (end_bound to) es))
      entries-rows
      ∙ ap (rows_turned forward) (sym (shown-filter (as_row columns) (range_contains key_cmp
      (Included from) (end_bound to)) (finite.entries items)))
      ∙ sym (shown-turned (as_row columns) forward within)
      ∙ shown_of-rows columns (rows_turned forward within)
      ∙ ap (map (row_at columns)) (same_turned forward within)

-- ---- the rows that a walk gave

-- the items of a range with their places
abbrev pub placed_between : {X : Type 0} → Texts X → List ℕ → Option (List ℕ) → Bool
    → List (List ℕ × X)
placed_between items from to forward = turned forward
    (entries_between text_order (Included from) (end_bound to) (finite.entries items))

-- what holds of each item that is found holds of each of a range
All-placed : (P : List ℕ × List Pair → Type 0) (items : Texts (List Pair)) (from : List ℕ)
    (to : Option (List ℕ)) (forward : Bool)
    → ((place : List ℕ) (item : List Pair) → finite.get items place ≡ Some item → P (place, item))
    → All P (placed_between items from to forward)
All-placed P items from to forward found =
    All-turned P forward (entries_between text_order (Included from) (end_bound to)
    (finite.entries items))
    (All-filter (λ (e : List ℕ × List Pair). range_contains text_order (Included from)
    (end_bound to) e.0) P (finite.entries items)
    (each_found P (finite.entries items) (finite.entries_sorted items)
    (λ place item at. found place item (finite.get-entries items place ∙ at))))

-- the rows of an index that is whole are those of all items
pub whole_rows : (t : Table) (i : IndexSchema) → is_whole i.built ≡ true → (key : List ℕ)
    → index_rows t i key ≡ option_map (index_columns t.description i)
    (finite.get (index_items t.description i t.items) key)
whole_rows t i whole key = ap (λ m. option_map (index_columns t.description i)
    (finite.get (index_items t.description i m) key))
    (ap (λ b. built_part t.description b t.items) (whole_is i.built whole)
    ∙ built_part-whole t.description t.items)

-- the description that is known is that of the table
pub same_table : (disk : DiskState) (tables : Tables) (s : State) (name : List ℕ) (t : Table)
    (d : TableSchema) → Stands disk tables s → finite.get s.tables name ≡ Some t
    → finite.get (catalog_of tables) name ≡ Some d → d ≡ t.description
same_table disk tables s name t d stands at known_as =
    same_Some _ _ (sym known_as ∙ known disk tables s name t stands at)

module _ (disk : DiskState) (tables : Tables) (s : State) (name : List ℕ) (t : Table)
    (d : TableSchema) (stands : Stands disk tables s) (at : finite.get s.tables name ≡ Some t)
    (known_as : finite.get (catalog_of tables) name ≡ Some d) (from : List ℕ)
    (to : Option (List ℕ)) (forward : Bool) (most : ℕ) (before page : List (List ℕ × Columns))
    (empty : before ≡ []) where
  -- the description is that of the table
  same : d ≡ t.description
  same = same_table disk tables s name t d stands at known_as

  -- the rows of a walk over a family are those of the items there
  pub page_rows : {X : Type 0} (family : ℕ)
      → (IsTrue disk.tells → (l : Layout) → EngineReads disk tables.engine l
      → page ≡ before ++ take most (rows_between l family from to forward))
      → (columns : X → Columns) (items : Texts X)
      → ((key : List ℕ) → shown stands.rows.layout family key
      ≡ option_map columns (finite.get items key))
      → page ≡ take most (map (row_at columns) (placed_between items from to forward))
  page_rows family walked columns items shows =
      let l = stands.rows.layout in
      walked (tells_of disk stands.rows.trusted) l stands.rows.is.hand.reads
      ∙ ap (λ (rows : List (List ℕ × Columns)). rows
      ++ take most (rows_between l family from to forward)) empty
      ∙ ap (take most) (rows_between-items columns l family items shows from to forward)

  -- ---- of a table

  -- an item of the table can be read
  read_item : (place : List ℕ) (item : List Pair) → finite.get t.items place ≡ Some item
      → IsReadItem item
  read_item place item here = record {
    whole = has_whole s stands.valid stands.rows.held name t at place item here;
    depth = ((stands.valid.tables name t at).items place item here).depth;
  }

  module _ (walked : IsTrue disk.tells → (l : Layout) → EngineReads disk tables.engine l
      → page ≡ before ++ take most (rows_between l d.family from to forward)) where
    -- the rows are those of the items that are to be given
    pub page_reads : AreItemsOf page (take most (items_between t None from to forward))
    page_reads =
        let placed = placed_between t.items from to forward in
        record {
          read = All-take IsReadItem most (items_between t None from to forward)
              (All-map IsReadItem (λ (e : List ℕ × List Pair). e.1) placed
              (All-placed CanBeRead t.items from to forward read_item));
          rows = ap (map (λ (e : List ℕ × Columns). e.1))
              (page_rows d.family walked item_columns t.items (λ key.
              ap (λ (x : TableSchema). shown stands.rows.layout x.family key) same
              ∙ stands.rows.shows.items name t at key))
              ∙ sym (take-map (λ (e : List ℕ × Columns). e.1) most
              (map (row_at item_columns) placed))
              ∙ ap (take most) (columns-rows item_columns placed)
              ∙ take-map item_columns most (map (λ (e : List ℕ × List Pair). e.1) placed);
        }

    -- so what was read of them are these items
    pub page_items : (old new : List (List Pair)) → ArePut page old new
        → new ≡ old ++ take most (items_between t None from to forward)
    page_items old new put = put.put ∙ ap (λ items. old ++ items)
        (same_items put.items _ put.are.read page_reads.read
        (sym put.are.rows ∙ page_reads.rows))

  -- ---- of an index

  module _ (number : ℕ) (i : IndexSchema) (at_index : index_at d (Some number) ≡ Some i)
      (whole : is_whole i.built ≡ true)
      (walked : IsTrue disk.tells → (l : Layout) → EngineReads disk tables.engine l
      → page ≡ before ++ take most (rows_between l i.family from to forward)) where
    at_own : index_at t.description (Some number) ≡ Some i
    at_own = ap (λ (x : TableSchema). index_at x (Some number)) (sym same) ∙ at_index

    -- what the index keeps of an item is read from its row
    is_kept : (key : List ℕ) (row : List Pair)
        → finite.get (index_items t.description i t.items) key ≡ Some row
        → IsKeptAt d i row key (index_columns t.description i row)
    is_kept key row found =
        let indexes = all_index s name t number i stands.valid stands.rows.held.items at at_own in
        let (place, item, here, entry) = indexes.alone key row found in
        subst (λ (x : TableSchema). IsKeptAt x i row key (index_columns t.description i row))
        (sym same)
        (kept_at t.description number i item key row (stands.valid.tables name t at).made
        at_own (read_item place item here) entry)

    -- Each row is that of what the index keeps of the items that are to be given.
    pub page_kept : AreKept d i page (take most (items_between t (Some i) from to forward))
    page_kept =
        let items = index_items t.description i t.items in
        let columns = index_columns t.description i in
        let placed = placed_between items from to forward in
        subst (λ rows. AreKept d i rows (take most (map (λ e. e.1) placed)))
        (sym (page_rows i.family walked columns items
        (λ key. stands.rows.shows.indexes name t number i at at_own key ∙ whole_rows t i whole key)))
        (kept-take most placed
        (All-placed (λ e. IsKeptAt d i e.1 e.0 (columns e.1)) items from to forward is_kept))
      where
        kept-take : (n : ℕ) (es : List (List ℕ × List Pair))
            → All (λ e. IsKeptAt d i e.1 e.0 (index_columns t.description i e.1)) es
            → AreKept d i (take n (map (row_at (index_columns t.description i)) es))
            (take n (map (λ e. e.1) es))
        kept-take zero es all = tt
        kept-take (suc n) [] all = tt
        kept-take (suc n) (e ∷ es) all = (
          All-head (λ e. IsKeptAt d i e.1 e.0 (index_columns t.description i e.1)) e es all,
          kept-take n es
              (All-tail (λ e. IsKeptAt d i e.1 e.0 (index_columns t.description i e.1)) e es all),
        )

-- ---- the answer of a walk

-- want of memory is a fault of a call that reads rows
pub find_fault : {A : Type 0} (r : Result A TableFault) → IfErr r IsReadFault
    → IfErr r IsFindFault
find_fault (Ok x) h = h
find_fault (Err fault) h = memory-outside (told_by_tables fault) h

-- so is a fault of an engine that reads, passed on
pub engine_fault : (given : EngineFault) (fault : TableFault)
    → told_by_tables fault ≡ told_by_engine given → EngineFaultIsUnspent given → EngineFaultIsUndamaged given
    → IsFindFault fault
engine_fault given fault same unspent whole =
    subst IsOutside (sym same) (outside-neither (told_by_engine given) unspent whole)
