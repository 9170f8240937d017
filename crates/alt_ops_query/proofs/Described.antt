-- The table that is walked: its items stand at their places, what is walked is no larger than they are, and its description is the one at hand.
use Rattle.std.proofs.Common.{◌≡◌, ◌<◌, ◌≤◌, refl, sym, ap, subst, ◌∙◌, ℕ, Bool, true, false, List, length, slice_get, Option, Some, None, option_map, IfSome, arith}
use Rattle.std.proofs.lemmas.Option.{same_Some}
use Rattle.std.specs.Prelude.{if◌then◌else◌}
use Rattle.std.specs.FinMap as finite
use Rattle.alt_disk.specs.Disk.{DiskState}
use Rattle.alt_machine.specs.Sources.{index_at, items_of}
use Rattle.alt_machine.specs.State.{State, Table}
use Rattle.alt_machine.proofs.Descriptions.{get-descriptions}
use Rattle.alt_machine.proofs.Indexing.{all_index, is_entry}
use Rattle.alt_ops_query.specs.Places.{MayStand, place_in_source}
use Rattle.alt_views.proofs.Taken.{none_past}
use Rattle.alt_request.proofs.Named.{table_found}
use Rattle.alt_schema.specs.Indexes.{cut, index_row, indexes, is_in_index, is_projected}
use Rattle.alt_schema.specs.declared.schema.IndexSchema.{IndexSchema}
use Rattle.alt_schema.specs.declared.schema.TableSchema.{TableSchema}
use Rattle.alt_request.specs.TablesStands.{KeepsCatalog, Stands, catalog_of}
use Rattle.alt_request.specs.TablesDeclaredTables.{Tables}
use Rattle.alt_value.specs.Size.{item_size}
use Rattle.alt_value.specs.Tree.{Pair}
use Rattle.alt_views.proofs.Keeping.{entry_place}
use Rattle.alt_views.proofs.Parts.{size-where}
use Rattle.alt_views.specs.Readable.{CanRead}

-- what an index keeps of an item is no larger than the item
cut_size : (d : TableSchema) (i : IndexSchema) (item row : List Pair)
    → index_row d item i ≡ Some row → item_size row ≤ item_size item
cut_size d i item row e = by (is_in_index i item) e
  where
    by : (b : Bool) → (if b then Some (cut d i item) else None) ≡ Some row
        → item_size row ≤ item_size item
    by true e = subst (λ r. item_size r ≤ item_size item) (same_Some (cut d i item) row e)
        (size-where (is_projected d i) item)
    by false e = absurd (let no : None ≡ Some row = e in cc no)

module _ (disk : DiskState) (tables : Tables) (s : State) (stands : Stands disk tables s)
    (name : List ℕ) (t : Table) (at : finite.get s.tables name ≡ Some t) where
  -- an index that can be read is one of the table's
  index_there : (number : ℕ) → ((d : TableSchema) → finite.get (catalog_of tables) name ≡ Some d
      → CanRead d number) → number < length (indexes t.description)
  index_there number within = (within t.description (ap (λ m. finite.get m name) stands.catalog
      ∙ get-descriptions s.tables name
      ∙ ap (option_map (λ (x : Table). x.description)) at)).0

  -- what stands at a place of the table, or of its index of that number, may stand there
  pub may_stand : (index : Option ℕ)
      → ((d : TableSchema) → finite.get (catalog_of tables) name ≡ Some d
      → IfSome index (λ n. CanRead d n))
      → (place : List ℕ) (item : List Pair)
      → finite.get (items_of t (index_at t.description index)) place ≡ Some item
      → MayStand t.description (index_at t.description index) place item
  may_stand None within place item found = (
    (stands.valid.tables name t at).items place item found,
    stands.rows.held.items.items name place t item at found,
  )
  may_stand (Some number) within place item found =
      by (slice_get (indexes t.description) number) refl found
    where
      by : (o : Option IndexSchema) → slice_get (indexes t.description) number ≡ o
          → finite.get (items_of t o) place ≡ Some item → MayStand t.description o place item
      by None past found = absurd (none_past (indexes t.description) number
          (index_there number within) past)
      by (Some i) is found =
          let has = all_index s name t number i stands.valid stands.rows.held.items at is in
          let (p, x, here, entry) = has.alone place item found in (
            p,
            x,
            (stands.valid.tables name t at).items p x here,
            stands.rows.held.items.items name p t x at here,
            entry,
          )

  -- and has that place
  pub stored_at : (index : Option ℕ)
      → ((d : TableSchema) → finite.get (catalog_of tables) name ≡ Some d
      → IfSome index (λ n. CanRead d n))
      → (place : List ℕ) (item : List Pair)
      → finite.get (items_of t (index_at t.description index)) place ≡ Some item
      → place_in_source t.description (index_at t.description index) item ≡ Some place
  stored_at index within place item found =
      by (index_at t.description index) (may_stand index within place item found)
    where
      by : (i : Option IndexSchema) → MayStand t.description i place item
          → place_in_source t.description i item ≡ Some place
      by None may = may.0.stands
      by (Some i) may = entry_place t.description i may.1 place item may.4

  -- and is no larger than the items of the table
  pub sized_at : (largest : ℕ) → ((place : List ℕ) (item : List Pair)
      → finite.get t.items place ≡ Some item → item_size item ≤ largest) → (index : Option ℕ)
      → ((d : TableSchema) → finite.get (catalog_of tables) name ≡ Some d
      → IfSome index (λ n. CanRead d n))
      → (place : List ℕ) (item : List Pair)
      → finite.get (items_of t (index_at t.description index)) place ≡ Some item
      → item_size item ≤ largest
  sized_at largest small None within place item found = small place item found
  sized_at largest small (Some number) within place item found =
      by (slice_get (indexes t.description) number) refl found
    where
      by : (o : Option IndexSchema) → slice_get (indexes t.description) number ≡ o
          → finite.get (items_of t o) place ≡ Some item → item_size item ≤ largest
      by None past found = absurd (none_past (indexes t.description) number
          (index_there number within) past)
      by (Some i) is found =
          let has = all_index s name t number i stands.valid stands.rows.held.items at is in
          let (p, x, here, entry) = has.alone place item found in
          let own = small p x here in
          let less = cut_size t.description i x item
          (is_entry t.description i x place item entry).kept in
          omega (arith, own, less)

  -- the description at hand is that of the table that is walked
  pub described : (now : Tables) (d : TableSchema) → KeepsCatalog tables now
      → Some d ≡ finite.get (catalog_of now) name → d ≡ t.description
  described now d keeps e =
      let (found, there, is) = table_found s (catalog_of tables) (sym stands.catalog) name d
      (sym (e ∙ ap (λ m. finite.get m name) keeps.catalog)) in
      sym (ap (λ (x : Table). x.description) (same_Some t found (sym at ∙ there)) ∙ is)
