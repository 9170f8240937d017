-- Rows stand for one state at most.
use Rattle.std.proofs.Common.{subst, arith, ◌≡◌, ◌<◌, ◌^◌, ℕ, Bool, true, List, [], ◌∷◌, Option, Some, None, refl, sym, ap, ◌∙◌}
use Rattle.std.specs.Prelude.{option_map}
use Rattle.std.proofs.lemmas.Bool.{false≢true}
use Rattle.std.proofs.lemmas.Option.{same_Some}
use Rattle.std.specs.Ordering.{eq_by_cmp}
use Rattle.std.specs.FinMap as map
use Rattle.alt_cells.specs.Keys.{key_cmp}
use Rattle.alt_cells.proofs.CellLaws.{key_total, key_exact}
use Rattle.alt_layout.specs.Layout.{Layout, shown}
use Rattle.alt_layout.proofs.OneLayout.{one_layout}
use Rattle.alt_machine.specs.State.{State, Table}
use Rattle.alt_machine.specs.Valid.{IsTable, IsValid}
use Rattle.alt_machine.proofs.Trimming.{Above}
use Rattle.alt_schema.specs.Rules.{is_name}
use Rattle.alt_schema.specs.declared.schema.TableSchema.{TableSchema}
use Rattle.alt_opening.specs.Images.{StandsFor}
use Rattle.alt_opening.specs.Recovery.{LayoutAgreesAt, AgreesWhole}
use Rattle.alt_tablerows.specs.ItemRows.{item_columns}
use Rattle.alt_opening.proofs.OneStream.{ShowsStream, one_stream, one_trimmed}
use Rattle.alt_opening.proofs.KeptChanges.{are_kept, are_small, trimmed_small}
use Rattle.alt_tablerows.proofs.NextFamily.{next_row-one}
use Rattle.alt_tablerows.proofs.OneDescription.{one_table_row}
use Rattle.alt_opening.specs.StateRows.{Shows, IsHeldWhole, item_rows, table_row}
use Rattle.alt_tablerows.proofs.ItemRowLaws.{item_columns-one}
use Rattle.alt_value.specs.Tree.{Pair}
use Rattle.alt_value.specs.Values.{IsWholeItem}

-- each item is one that can be written and read again
abbrev pub HasWhole : Table → Type 0
HasWhole t = (place : List ℕ) (item : List Pair) → map.get t.items place ≡ Some item
    → IsWholeItem item

-- items are those of their rows
items-one : (t u : Table) → HasWhole t → HasWhole u
    → ((key : List ℕ) → item_rows t key ≡ item_rows u key) → t.items ≡ u.items
items-one t u held_t held_u same = map.same_map key_total key_exact _ _ (λ key.
    at_key (map.get t.items key) (map.get u.items key) (held_t key) (held_u key) (same key))
  where
    at_key : (o p : Option (List Pair)) → ((item : List Pair) → o ≡ Some item → IsWholeItem item)
        → ((item : List Pair) → p ≡ Some item → IsWholeItem item)
        → option_map item_columns o ≡ option_map item_columns p → o ≡ p
    at_key None None h k e = refl
    at_key None (Some b) h k e = let no : None ≡ Some (item_columns b) = e in cc no
    at_key (Some a) None h k e = let no : Some (item_columns a) ≡ None = e in cc no
    at_key (Some a) (Some b) h k e =
        ap (λ x. Some x) (item_columns-one a b (h a refl) (k b refl) (same_Some _ _ e))

-- so is each item of a valid state that is held
pub has_whole : (s : State) → IsValid s → IsHeldWhole s → (name : List ℕ) (t : Table)
    → map.get s.tables name ≡ Some t → HasWhole t
has_whole s valid held name t at place item here =
    (held.items.items name place t item at here, ((valid.tables name t at).items place item here).full)

module _ (l : Layout) (s r : State) (agrees_s : AgreesWhole l s) (agrees_r : AgreesWhole l r)
    (named_s : map.get s.tables [] ≡ None) (named_r : map.get r.tables [] ≡ None)
    (small_s : s.next_family < 2 ^ 32) (small_r : r.next_family < 2 ^ 32) where
  -- both states have the same next family
  next_families : s.next_family ≡ r.next_family
  next_families = next_row-one s.next_family r.next_family small_s small_r
      (sym (agrees_s.rows.catalog [] tt) ∙ agrees_r.rows.catalog [] tt)

  -- the changes of tables of one description, and what was trimmed of them, are those of their rows
  same_changes : (name : List ℕ) (t u : Table) → map.get s.tables name ≡ Some t
      → map.get r.tables name ≡ Some u → t.description ≡ u.description → (o : Option ℕ)
      → t.description.stream_family ≡ o → (t.trimmed ≡ u.trimmed) × (t.changes ≡ u.changes)
  same_changes name t u at_t at_u descriptions None none =
      let none_t = (agrees_s.rows.valid.tables name t at_t).changes.none none in
      let none_u = (agrees_r.rows.valid.tables name u at_u).changes.none
      (ap (λ (d : TableSchema). d.stream_family) (sym descriptions) ∙ none) in
      (none_t.1 ∙ sym none_u.1, none_t.0 ∙ sym none_u.0)
  same_changes name t u at_t at_u descriptions (Some f) stream =
      let list_t = (agrees_s.rows.valid.tables name t at_t).changes in
      let list_u = (agrees_r.rows.valid.tables name u at_u).changes in
      let shows_t : ShowsStream (shown l f) t.trimmed t.changes =
      agrees_s.changes name t f at_t stream in
      let shows_u : ShowsStream (shown l f) u.trimmed u.changes = agrees_r.changes name u f at_u
      (ap (λ (d : TableSchema). d.stream_family) (sym descriptions) ∙ stream) in
      let trimmed : t.trimmed ≡ u.trimmed =
      one_trimmed (shown l f) t.trimmed u.trimmed t.changes u.changes
      (trimmed_small s agrees_s.rows.valid name t at_t)
      (trimmed_small r agrees_r.rows.valid name u at_u) shows_t shows_u in (
        trimmed,
        one_stream (shown l f) t.trimmed t.changes u.changes
            (are_kept s agrees_s.rows.valid agrees_s.rows.held name t at_t)
            (are_kept r agrees_r.rows.valid agrees_r.rows.held name u at_u)
            (are_small t.description s.next_number t.trimmed t.changes
            (let last = agrees_s.rows.valid.next_number.1 in omega (arith, last)) list_t)
            (are_small u.description r.next_number u.trimmed u.changes
            (let last = agrees_r.rows.valid.next_number.1 in omega (arith, last)) list_u)
            list_t.rise list_u.rise list_t.above
            (subst (λ n. Above n u.changes) (sym trimmed) list_u.above) shows_t
            (subst (λ n. ShowsStream (shown l f) n u.changes) (sym trimmed) shows_u),
      )

  -- tables of one name are one
  one_table : (name : List ℕ) (t u : Table) → map.get s.tables name ≡ Some t
      → map.get r.tables name ≡ Some u
      → table_row t.description ≡ table_row u.description → t ≡ u
  one_table name t u at_t at_u same =
      let is_t : IsTable s name t = agrees_s.rows.valid.tables name t at_t in
      let is_u : IsTable r name u = agrees_r.rows.valid.tables name u at_u in
      let descriptions : t.description ≡ u.description = one_table_row t.description u.description
      is_t.made.whole (agrees_s.rows.held.descriptions name t at_t) is_t.made.built is_t.differ
      is_u.made.whole (agrees_r.rows.held.descriptions name u at_u) is_u.made.built same in
      let items : t.items ≡ u.items = items-one t u
      (has_whole s agrees_s.rows.valid agrees_s.rows.held name t at_t)
      (has_whole r agrees_r.rows.valid agrees_r.rows.held name u at_u)
      (λ key. sym (agrees_s.rows.items name t at_t key tt)
      ∙ ap (λ d. shown l d.family key) descriptions ∙ agrees_r.rows.items name u at_u key tt) in
      let streams = same_changes name t u at_t at_u descriptions t.description.stream_family refl in
      λ i. record {
        description = descriptions i;
        items = items i;
        changes = streams.1 i;
        trimmed = streams.0 i;
      }

  at_name : (name : List ℕ) (o p : Option Table) → map.get s.tables name ≡ o
      → map.get r.tables name ≡ p
      → option_map (λ t. table_row t.description) o ≡ option_map (λ t. table_row t.description) p
      → o ≡ p
  at_name name None None e f same = refl
  at_name name None (Some u) e f same =
      let no : None ≡ Some (table_row u.description) = same in cc no
  at_name name (Some t) None e f same =
      let no : Some (table_row t.description) ≡ None = same in cc no
  at_name name (Some t) (Some u) e f same = ap (λ x. Some x)
      (one_table name t u e f (same_Some _ _ same))

  by_name : (name : List ℕ) (b : Bool) → eq_by_cmp key_cmp name [] ≡ b
      → map.get s.tables name ≡ map.get r.tables name
  by_name [] b e = named_s ∙ sym named_r
  by_name (c ∷ cs) b e = at_name (c ∷ cs) _ _ refl refl
      (sym (agrees_s.rows.catalog (c ∷ cs) tt) ∙ agrees_r.rows.catalog (c ∷ cs) tt)

  -- the rows show one state at most
  one_shown : s ≡ r
  one_shown =
      let tables : s.tables ≡ r.tables =
      map.same_map key_total key_exact _ _ (λ name. by_name name _ refl) in
      let numbers : s.next_number ≡ r.next_number = sym agrees_s.rows.number
      ∙ agrees_r.rows.number in
      λ i. record { tables = tables i; next_number = numbers i; next_family = next_families i }

-- no table of a valid state has the empty name
pub nameless : (s : State) → IsValid s → map.get s.tables [] ≡ None
nameless s valid = by_table (map.get s.tables []) refl
  where
    by_table : (o : Option Table) → map.get s.tables [] ≡ o → o ≡ None
    by_table None at = refl
    by_table (Some t) at =
        let table : IsTable s [] t = valid.tables [] t at in
        let spelled : is_name [] ≡ true = ap is_name (sym table.named) ∙ table.made.spelled in
        absurd (false≢true spelled)

-- Rows of the catalog, of tables and of streams are those of one valid state at most.
pub one_agrees : (l : Layout) (s r : State) → AgreesWhole l s → AgreesWhole l r → s ≡ r
one_agrees l s r agrees_s agrees_r =
    one_shown l s r agrees_s agrees_r (nameless s agrees_s.rows.valid)
    (nameless r agrees_r.rows.valid)
    (let last = agrees_s.rows.valid.next_family.1 in omega (arith, last))
    (let last = agrees_r.rows.valid.next_family.1 in omega (arith, last))

-- where rows show a state, those of some places are its rows
pub agrees_all : (Here : ℕ → List ℕ → Type 0) (l : Layout) (s : State) → Shows l s → IsValid s
    → IsHeldWhole s → LayoutAgreesAt Here l s
agrees_all Here l s shows valid held = record {
  number = shows.number;
  catalog = λ key here. shows.catalog key;
  items = λ name t at key here. shows.items name t at key;
  beyond = λ family key high here. shows.beyond family key high;
  valid = valid;
  held = held;
}

-- and so are all, with those of streams
pub agrees_whole : (l : Layout) (s : State) → Shows l s → IsValid s → IsHeldWhole s
    → AgreesWhole l s
agrees_whole l s shows valid held = record {
  rows = agrees_all (λ f k. Unit {0}) l s shows valid held;
  changes = shows.changes;
}

-- So rows show one valid state at most.
pub one_state : (l : Layout) (s r : State) → Shows l s → Shows l r → IsValid s → IsValid r
    → IsHeldWhole s → IsHeldWhole r → s ≡ r
one_state l s r shows_s shows_r valid_s valid_r held_s held_r = one_agrees l s r
    (agrees_whole l s shows_s valid_s held_s) (agrees_whole l r shows_r valid_r held_r)

-- An image stands for at most one state.
pub one_state_of_image : (image : ℕ → Option (List ℕ)) (s r : State) → StandsFor image s
    → StandsFor image r → s ≡ r
one_state_of_image image s r a b = one_state a.layout s r a.shows
    (subst (λ l. Shows l r) (one_layout image b.layout a.layout b.is a.is) b.shows)
    a.valid b.valid a.held b.held
