-- What each key of an index shows, and what a state's items give the index there.
use Rattle.std.proofs.Common.{◌≡◌, refl, sym, ap, ◌∙◌, ℕ, Bool, true, false, cond, List, Option, Some, None, option_map}
use Rattle.std.proofs.lemmas.Option.{same_Some}
use Rattle.std.specs.Option.{option_map_or}
use Rattle.std.specs.Prelude.{if◌then◌else◌}
use Rattle.std.specs.FinMap as map
use Rattle.alt_cells.specs.Changes.{Columns}
use Rattle.alt_layout.specs.Layout.{Layout, shown}
use Rattle.alt_machine.specs.Building.{built_part, is_built_of_item, reaches}
use Rattle.alt_machine.specs.Indexed.{index_entry, index_items}
use Rattle.alt_machine.specs.Keys.{place_of}
use Rattle.alt_machine.specs.State.{State, Table, Texts}
use Rattle.alt_machine.proofs.Building.{get-built_part}
use Rattle.alt_machine.proofs.Indexing.{index_apart}
use Rattle.alt_machine.proofs.Rekeying.{AreApart, given_by, gives}
use Rattle.alt_schema.specs.Bare.{is_whole}
use Rattle.alt_schema.specs.declared.schema.Built.{Built}
use Rattle.alt_schema.specs.declared.schema.IndexSchema.{IndexSchema}
use Rattle.alt_schema.specs.declared.schema.TableSchema.{TableSchema}
use Rattle.alt_opening.specs.private.IndexScans.{HasRow, IsItemThere, IsRightAt}
use Rattle.alt_opening.specs.Recovery.{AgreesWhole}
use Rattle.alt_opening.specs.StateRows.{index_rows}
use Rattle.alt_opening.proofs.OneState.{has_whole}
use Rattle.alt_value.specs.Tree.{Pair}
use Rattle.alt_tablerows.specs.IndexRows.{KeyedRow, built_row, index_columns, row_in_index}
use Rattle.alt_tablerows.specs.ItemRows.{item_columns}
use Rattle.alt_tablerows.proofs.ItemRowLaws.{item_columns-one}

-- what an index keeps of an item that has a row there
pub record IsRowOf (d : TableSchema) (i : IndexSchema) (item : List Pair) (key : List ℕ)
    (columns : Columns) : Type 0 where
  pub kept : List Pair
  pub entry : index_entry d i item ≡ Some (key, kept)
  pub is : columns ≡ index_columns d i kept

-- a row that the index has of an item is a row of it at that key, with these columns
pub row_of : (d : TableSchema) (i : IndexSchema) (item : List Pair) (key : List ℕ)
    (columns : Columns) → row_in_index d i item ≡ Some (key, columns)
    → IsRowOf d i item key columns
row_of d i item key columns has = by (index_entry d i item) refl has
  where
    by : (o : Option (List ℕ × List Pair)) → index_entry d i item ≡ o
        → option_map {U = List ℕ × Columns} (λ e. (e.0, index_columns d i e.1)) o
        ≡ Some (key, columns)
        → IsRowOf d i item key columns
    by None is has = absurd (let no : None ≡ Some (key, columns) = has in cc no)
    by (Some e) is has =
        let one : (e.0, index_columns d i e.1) ≡ (key, columns) = same_Some _ _ has in
        record {
          kept = e.1;
          entry = is ∙ ap (λ (r : List ℕ × Columns). Some (r.0, e.1)) one;
          is = sym (ap (λ (r : List ℕ × Columns). r.1) one);
        }

-- a row of an item of which the index is built is one of the item
pub inside : (d : TableSchema) (i : IndexSchema) (item : List Pair) (r : KeyedRow)
    → built_row d i item ≡ Some r
    → (is_built_of_item d i.built item ≡ true) × (row_in_index d i item ≡ Some r)
inside d i item r e = by (is_built_of_item d i.built item) refl e
  where
    by : (b : Bool) → is_built_of_item d i.built item ≡ b
        → (if b then row_in_index d i item else None) ≡ Some r
        → (is_built_of_item d i.built item ≡ true) × (row_in_index d i item ≡ Some r)
    by true is f = (is, f)
    by false is f = absurd (let no : None ≡ Some r = f in cc no)

-- an item at a place, by the place
reached_at : (d : TableSchema) (b : Built) (item : List Pair) (place : List ℕ)
    → place_of d item ≡ Some place → is_built_of_item d b item ≡ reaches d b place
reached_at d b item place at = ap (λ o. option_map_or (reaches d b) o (is_whole b)) at

module _ (l : Layout) (s : State) (agrees : AgreesWhole l s) (name : List ℕ) (t : Table)
    (at : map.get s.tables name ≡ Some t) where
  -- ---- the items of a table

  -- each is there
  item_there : (place : List ℕ) (item : List Pair) → map.get t.items place ≡ Some item
      → IsItemThere l t.description place item
  item_there place item here = record {
    shows = agrees.rows.items name t at place tt ∙ ap (option_map item_columns) here;
    stored = (agrees.rows.valid.tables name t at).items place item here;
    read = record {
      whole = has_whole s agrees.rows.valid agrees.rows.held name t at place item here;
      depth = ((agrees.rows.valid.tables name t at).items place item here).depth;
    };
  }

  -- and no other is
  there_item : (place : List ℕ) (item : List Pair) → IsItemThere l t.description place item
      → map.get t.items place ≡ Some item
  there_item place item there = by (map.get t.items place) refl
    where
      by : (o : Option (List Pair)) → map.get t.items place ≡ o → o ≡ Some item
      by None e = absurd (let no : None ≡ Some (item_columns item) =
          sym (agrees.rows.items name t at place tt ∙ ap (option_map item_columns) e)
          ∙ there.shows in
          cc no)
      by (Some x) e = ap (λ y. Some y) (item_columns-one x item (item_there place x e).read.whole
          there.read.whole
          (same_Some _ _
          (sym (agrees.rows.items name t at place tt ∙ ap (option_map item_columns) e)
          ∙ there.shows)))

  -- ---- an index of it

  module _ (i : IndexSchema) where
    -- the items of which it is built
    abbrev part : Texts (List Pair)
    part = built_part t.description i.built t.items

    -- each is one of the table's, at a place that it reaches
    of_part : (place : List ℕ) (item : List Pair) → map.get part place ≡ Some item
        → (map.get t.items place ≡ Some item) × (reaches t.description i.built place ≡ true)
    of_part place item here = by (reaches t.description i.built place) refl
        (sym (get-built_part t.description i.built t.items place) ∙ here)
      where
        by : (b : Bool) → reaches t.description i.built place ≡ b
            → cond b (map.get t.items place) None ≡ Some item
            → (map.get t.items place ≡ Some item) × (reaches t.description i.built place ≡ true)
        by true is e = (e, is)
        by false is e = absurd (let no : None ≡ Some item = e in cc no)

    apart : AreApart (index_entry t.description i) part
    apart = index_apart t.description i part (λ place item here. (
      (agrees.rows.valid.tables name t at).items place item (of_part place item here).0,
      agrees.rows.held.items.items name place t item at (of_part place item here).0,
    ))

    -- a row that an item has is that of the index's items
    gives_row : (key : List ℕ) (columns : Columns) → HasRow l t.description i key columns
        → index_rows t i key ≡ Some columns
    gives_row key columns has =
        let r = inside t.description i has.item (key, columns) has.row in
        let e = row_of t.description i has.item key columns r.1 in
        let reached : reaches t.description i.built has.place ≡ true =
        sym (reached_at t.description i.built has.item has.place has.there.stored.stands) ∙ r.0 in
        ap (option_map (index_columns t.description i))
        (gives (index_entry t.description i) part apart key e.kept (
          has.place,
          (
            has.item,
            (
              get-built_part t.description i.built t.items has.place
                  ∙ ap (λ b. cond b (map.get t.items has.place) None) reached
                  ∙ there_item has.place has.item has.there,
              e.entry,
            ),
          ),
        ))
        ∙ ap (λ c. Some c) (sym e.is)

    -- and the other way round
    has_row : (key : List ℕ) (columns : Columns) → index_rows t i key ≡ Some columns
        → HasRow l t.description i key columns
    has_row key columns is = by (map.get (index_items t.description i part) key) refl is
      where
        by : (o : Option (List Pair)) → map.get (index_items t.description i part) key ≡ o
            → option_map (index_columns t.description i) o ≡ Some columns
            → HasRow l t.description i key columns
        by None e is = absurd (let no : None ≡ Some columns = is in cc no)
        by (Some kept) e is =
            let g = given_by (index_entry t.description i) part key kept e in
            let of = of_part g.0 g.1.0 g.1.1.0 in
            let there = item_there g.0 g.1.0 of.0 in
            record {
              place = g.0;
              item = g.1.0;
              there = there;
              row = ap (λ b. if b then row_in_index t.description i g.1.0 else None)
                  (reached_at t.description i.built g.1.0 g.0 there.stored.stands ∙ of.1)
                  ∙ ap (option_map {U = List ℕ × Columns}
                  (λ e. (e.0, index_columns t.description i e.1))) g.1.1.1
                  ∙ ap (λ c. Some (key, c)) (same_Some _ _ is);
            }

    -- So a key is right exactly where the index shows what the items give.
    pub right_agrees : (key : List ℕ) → IsRightAt l t.description i key
        → shown l i.family key ≡ index_rows t i key
    right_agrees key right = by (shown l i.family key) refl (index_rows t i key) refl
      where
        by : (o : Option Columns) → shown l i.family key ≡ o → (p : Option Columns)
            → index_rows t i key ≡ p → o ≡ p
        by (Some c) e p f = sym (gives_row key c (right.own c e)) ∙ f
        by None e None f = refl
        by None e (Some c) f = sym e ∙ right.each c (has_row key c f)

    pub agrees_right : (key : List ℕ) → shown l i.family key ≡ index_rows t i key
        → IsRightAt l t.description i key
    agrees_right key same = record {
      own = λ c shows. has_row key c (sym same ∙ shows);
      each = λ c has. same ∙ gives_row key c has;
    }
