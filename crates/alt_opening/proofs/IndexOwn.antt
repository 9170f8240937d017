-- Whether a row that an index shows is that of an item of its table: the item is found by what the index keeps of it.
use Rattle.std.proofs.Common.{◌≡◌, sym, ap, subst, ◌∙◌, ℕ, Bool, List, Option, Some, None, option_map, IsTrue}
use Rattle.std.proofs.lemmas.Option.{same_Some}
use Rattle.std.specs.Prelude.{◌↔◌}
use Rattle.alt_cells.specs.Changes.{Columns}
use Rattle.alt_layout.specs.Layout.{Layout, shown}
use Rattle.alt_machine.specs.Keys.{place_of}
use Rattle.alt_machine.specs.Sources.{index_at}
use Rattle.alt_machine.specs.Valid.{IsMade}
use Rattle.alt_machine.proofs.Indexing.{is_entry}
use Rattle.alt_schema.specs.declared.schema.IndexSchema.{IndexSchema}
use Rattle.alt_schema.specs.declared.schema.TableSchema.{TableSchema}
use Rattle.alt_opening.specs.private.IndexScans.{HasRow, TellsMissingOf}
use Rattle.alt_opening.specs.Scans.{ItemsRead}
use Rattle.alt_opening.proofs.IndexRead.{inside, row_of}
use Rattle.alt_schema.proofs.CutRows.{is_cut}
use Rattle.alt_value.specs.Tree.{Pair}
use Rattle.alt_tablerows.specs.IndexRows.{built_row}
use Rattle.alt_tablerows.specs.ItemRows.{IsReadItem, item_columns}
use Rattle.alt_tablerows.specs.Read.{IsKeptAt, row_at}
use Rattle.alt_tablerows.specs.DeclaredIndexRow.{IndexRow}
use Rattle.alt_tablerows.proofs.Keeping.{kept_at, own_place-cut}

-- ---- the place of what is kept

module _ (l : Layout) (d : TableSchema) (number : ℕ) (i : IndexSchema) (made : IsMade d)
    (at : index_at d (Some number) ≡ Some i) (key : List ℕ) (columns : Columns) where
  -- what the index keeps of the item that has a row
  kept_there : (has : HasRow l d i key columns) → (kept : List Pair) × IsKeptAt d i kept key columns
      × (place_of d kept ≡ Some has.place)
  kept_there has =
      let r = row_of d i has.item key columns (inside d i has.item _ has.row).1 in
      let e = is_entry d i has.item key r.kept r.entry in (
        r.kept,
        subst (λ c. IsKeptAt d i r.kept key c) (sym r.is)
            (kept_at d number i has.item key r.kept made at has.there.read r.entry),
        ap (place_of d) (sym (is_cut d i has.item r.kept e.kept)) ∙ own_place-cut d i has.item
            ∙ has.there.stored.stands,
      )

  module _ (place : Option (List ℕ))
      (told : (kept : List Pair) → IsKeptAt d i kept key columns → place ≡ place_of d kept) where
    -- so it is found at its place
    placed : (has : HasRow l d i key columns) → place ≡ Some has.place
    placed has = let (kept, is, at_place) = kept_there has in told kept is ∙ at_place

    -- and no item has the row where no place is told
    pub unplaced : place ≡ None → HasRow l d i key columns → ⊥
    unplaced none has = let no : None ≡ Some has.place = sym none ∙ placed has in cc no

    -- or no item is there
    pub unshown : (p : List ℕ) → place ≡ Some p → shown l d.family p ≡ None
        → HasRow l d i key columns → ⊥
    unshown p is none has =
        let no : None ≡ Some (item_columns has.item) = sym none
        ∙ ap (shown l d.family) (same_Some _ _ (sym is ∙ placed has)) ∙ has.there.shows in cc no

    -- and else exactly where the item there has it
    pub own_is : ItemsRead l d → (p : List ℕ) → place ≡ Some p → (row : Columns)
        → shown l d.family p ≡ Some row → (is : Bool)
        → ((item : List Pair) → IsReadItem item → row ≡ item_columns item
        → IsTrue is ↔ (built_row d i item ≡ Some (key, columns)))
        → IsTrue is ↔ HasRow l d i key columns
    own_is read p is_p row shows is tells = (
      λ yes.
          let (item, there) = read p row tt shows in
          record {
            place = p;
            item = item;
            there = record {
              shows = shows ∙ ap (λ c. Some c) there.row;
              stored = there.stored;
              read = there.read;
            };
            row = (tells item there.read there.row).0 yes;
          },
      λ has. (tells has.item has.there.read
          (same_Some _ _ (sym shows ∙ ap (shown l d.family) (same_Some _ _ (sym is_p ∙ placed has))
          ∙ has.there.shows))).1 has.row,
    )

-- ---- the row of an item, where it has one

module _ (l : Layout) (d : TableSchema) (i : IndexSchema) (row : Columns) (own : Option IndexRow)
    (told : (item : List Pair) → IsReadItem item → row ≡ item_columns item
    → option_map row_at own ≡ built_row d i item) where
  -- none is missing where it has none
  pub none_missing : own ≡ None → TellsMissingOf l d i row None
  none_missing none item read of_item key columns has =
      absurd (let no : None ≡ Some (key, columns) =
      ap (option_map row_at) (sym none) ∙ told item read of_item ∙ has in cc no)

  module _ (r : IndexRow) (is : own ≡ Some r) where
    has_it : (item : List Pair) → IsReadItem item → row ≡ item_columns item
        → built_row d i item ≡ Some (r.key, r.columns)
    has_it item read of_item = sym (told item read of_item) ∙ ap (option_map row_at) is

    -- and else it is
    pub is_missing : (shown l i.family r.key ≡ Some r.columns → ⊥)
        → TellsMissingOf l d i row (Some r.key)
    is_missing none item read of_item = record {
      columns = r.columns;
      row = has_it item read of_item;
      missing = none;
    }
