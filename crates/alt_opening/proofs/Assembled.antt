-- Where every row of the catalog and of the tables can be read, there is a state whose rows they are, with whatever changes its
-- tables may have.
use Rattle.std.proofs.Common.{◌≡◌, ◌<◌, ◌≤◌, ℕ, Bool, true, false, cond, List, [], ◌∷◌, Option, Some, None, All, refl, sym, ap, subst, ◌∙◌, arith}
use Rattle.std.proofs.lemmas.Bool.{false≢true}
use Rattle.std.proofs.lemmas.List.Elements.{All-nil}
use Rattle.std.proofs.lemmas.Option.{same_Some as some}
use Rattle.std.specs.Prelude.{if◌then◌else◌, option_and_then, option_map}
use Rattle.std.specs.Ordering.{eq_by_cmp}
use Rattle.std.specs.FinMap as map
use Rattle.alt_cells.specs.Changes.{Columns}
use Rattle.alt_cells.specs.Keys.{key_cmp}
use Rattle.alt_cells.specs.Shown.{row_shown}
use Rattle.alt_cells.proofs.CellLaws.{key_total}
use Rattle.alt_cells.proofs.SameKeys.{key_itself, one_key}
use Rattle.alt_layout.specs.Layout.{Layout, shown}
use Rattle.alt_machine.specs.declared.TheConstants.{NUMBERS_END}
use Rattle.alt_machine.specs.State.{Change, State, Table, Texts, descriptions}
use Rattle.alt_machine.specs.Valid.{AreChanges, IsChange, IsChangeOfValues, IsStored, IsTable, IsValid}
use Rattle.alt_machine.proofs.Descriptions.{get-descriptions, len-descriptions}
use Rattle.alt_schema.specs.Rules.{is_name}
use Rattle.alt_schema.specs.declared.schema.TableSchema.{TableSchema}
use Rattle.alt_tablerows.specs.ItemRows.{item_columns, IsReadItem}
use Rattle.alt_opening.specs.private.Opening.{IsCatalog, ShareNoFamily}
use Rattle.alt_tablerows.specs.Good.{IsGood}
use Rattle.alt_opening.specs.Recovery.{LayoutAgreesAt}
use Rattle.alt_opening.specs.Scans.{IsItemAt, ItemsRead}
use Rattle.alt_opening.specs.StateRows.{HasMoment, catalog_family, table_row, next_row}
use Rattle.alt_opening.proofs.ChosenLaws.{AllRead, IsRead, map_read}
use Rattle.alt_opening.proofs.Maps.{same_texts}
use Rattle.alt_value.specs.Tree.{Pair}

-- A state whose rows of the catalog and of tables these are, and whose tables are those of the catalog.
pub record AssembledRows (l : Layout) (next : ℕ) (known : Texts TableSchema)
    (s : State) : Type 0 where
  pub agrees : LayoutAgreesAt (λ f k. Unit {0}) l s
  pub catalog : descriptions s.tables ≡ known
  pub family : s.next_family ≡ next

-- no name of a good description is empty
pub not_empty : (number family : ℕ) (name : List ℕ) (d : TableSchema)
    → IsGood number family name d → eq_by_cmp key_cmp name [] ≡ false
not_empty number family [] d good =
    let f : false ≡ true = ap is_name (sym good.named) ∙ good.made.spelled in
    absurd (false≢true f)
not_empty number family (c ∷ cs) d good = refl

-- changes that a table may have, where those up to a number were trimmed
pub record MayHave (next : ℕ) (d : TableSchema) (trimmed : ℕ) (changes : List Change)
    : Type 0 where
  pub are : AreChanges d next trimmed changes
  pub held : All IsChangeOfValues changes
  pub moments : All HasMoment changes

-- each may have none
pub none_had : (next : ℕ) (d : TableSchema) → 0 < next → MayHave next d 0 []
none_had next d some = record {
  are = record {
    each = All-nil (IsChange d next);
    rise = λ i j x less within. absurd (omega (arith, within));
    above = All-nil (λ (c : Change). 0 < c.number);
    trimmed_before = some;
    none = λ e. (refl, refl);
  };
  held = All-nil IsChangeOfValues;
  moments = All-nil HasMoment;
}

module _ (l : Layout) (family : ℕ) (catalog : Texts TableSchema)
    (read : IsCatalog l family catalog)
    (items : (name : List ℕ) (d : TableSchema) → map.get catalog name ≡ Some d → ItemsRead l d)
    (beyond : (f : ℕ) (key : List ℕ) → family ≤ f → shown l f key ≡ None)
    (number : (1 ≤ l.next_number) × (l.next_number ≤ NUMBERS_END))
    (Has : TableSchema → ℕ → List Change → Type 0)
    (list : (name : List ℕ) (d : TableSchema) → map.get catalog name ≡ Some d
    → (trimmed : ℕ) × (cs : List Change) × MayHave l.next_number d trimmed cs
    × Has d trimmed cs) where
  -- ---- the items of a table

  abbrev IsRow : TableSchema → List ℕ → Columns → List Pair → Type 0
  IsRow d key row item = IsItemAt d key row item

  -- a map of items, of which each stands where its row does
  abbrev HasItems : TableSchema → Texts (List Pair) → Type 0
  HasItems d m = ((key : List ℕ) → shown l d.family key ≡ option_map item_columns (map.get m key))
      × ((key : List ℕ) (item : List Pair) → map.get m key ≡ Some item
      → IsStored d key item × IsReadItem item)

  items_of : (d : TableSchema) → ItemsRead l d → (m : Texts (List Pair)) × HasItems d m
  items_of d all =
      let chosen = map_read row_shown (IsRow d) (l.rows d.family)
      (λ key row at. all key row tt at) in (
        chosen.0,
        (
          λ key. row key (shown l d.family key) (map.get chosen.0 key) (chosen.1 key),
          λ key item at. each key (shown l d.family key) (map.get chosen.0 key) (chosen.1 key)
              item at,
        ),
      )
    where
      row : (key : List ℕ) (c : Option Columns) (o : Option (List Pair))
          → IsRead row_shown (IsRow d) c o key → c ≡ option_map item_columns o
      row key None o is = sym (ap (option_map item_columns) is)
      row key (Some c) o is = ap (λ x. Some x) is.1.1.row
          ∙ sym (ap (option_map item_columns) is.1.0)

      each : (key : List ℕ) (c : Option Columns) (o : Option (List Pair))
          → IsRead row_shown (IsRow d) c o key → (item : List Pair) → o ≡ Some item
          → IsStored d key item × IsReadItem item
      each key None o is item at = absurd (let none : None ≡ Some item = sym is ∙ at in cc none)
      each key (Some c) o is item at =
          subst (λ i. IsStored d key i × IsReadItem i)
          (some _ _ (sym is.1.0 ∙ at)) (is.1.1.stored, is.1.1.read)

  -- ---- the tables

  -- a row of the catalog is that of this table, whose family shows its items, and whose changes are those of its list
  record IsTableOf (name : List ℕ) (columns : Columns) (t : Table) : Type 0 where
    row : columns ≡ table_row t.description
    known : map.get catalog name ≡ Some t.description
    has : HasItems t.description t.items
    may : MayHave l.next_number t.description t.trimmed t.changes
    listed : Has t.description t.trimmed t.changes

  tables_read : AllRead row_shown IsTableOf (map.get (map.remove (l.rows catalog_family) []))
  tables_read name row at = by (eq_by_cmp key_cmp name []) refl
      (sym (ap (option_and_then row_shown)
      (map.get-remove key_total (l.rows catalog_family) [] name)) ∙ at)
    where
      by : (b : Bool) → eq_by_cmp key_cmp name [] ≡ b
          → option_and_then row_shown (cond b None (map.get (l.rows catalog_family) name))
          ≡ Some row
          → (t : Table) × IsTableOf name row t
      by true e at = absurd (let none : None ≡ Some row = at in cc none)
      by false e at =
          let (d, is) = read.read name row tt (λ none. false≢true
          (sym e ∙ ap (λ k. eq_by_cmp key_cmp k []) none ∙ key_itself [])) at in
          let m = items_of d (items name d is) in
          let c = list name d is in (
            record { description = d; items = m.0; changes = c.1; trimmed = c.0 },
            record {
              row = some _ _ (sym at ∙ (read.stands name d is).1);
              known = is;
              has = m.1;
              may = c.2;
              listed = c.3;
            },
          )

  chosen : (n : Texts Table) × ((name : List ℕ)
      → IsRead row_shown IsTableOf (option_and_then row_shown
      (map.get (map.remove (l.rows catalog_family) []) name)) (map.get n name) name)
  chosen = map_read row_shown IsTableOf (map.remove (l.rows catalog_family) []) tables_read

  abbrev assembled_state : State
  assembled_state = record {
    tables = chosen.0;
    next_number = l.next_number;
    next_family = family;
  }

  -- the row of a name that isn't the empty one
  row_of : (name : List ℕ) → eq_by_cmp key_cmp name [] ≡ false
      → option_and_then row_shown (map.get (map.remove (l.rows catalog_family) []) name)
      ≡ shown l catalog_family name
  row_of name e = ap (option_and_then row_shown)
      (map.get-remove key_total (l.rows catalog_family) [] name
      ∙ ap (λ b. cond b None (map.get (l.rows catalog_family) name)) e)

  -- at a name stands the table of its row
  abbrev At : List ℕ → Option Columns → Type 0
  At name c = IsRead row_shown IsTableOf c (map.get chosen.0 name) name

  table_here : (name : List ℕ) (t : Table) → map.get chosen.0 name ≡ Some t
      → (row : Columns) × ((option_and_then row_shown
      (map.get (map.remove (l.rows catalog_family) []) name) ≡ Some row) × IsTableOf name row t)
  table_here name t at = by _ refl (chosen.1 name)
    where
      by : (c : Option Columns) → option_and_then row_shown
          (map.get (map.remove (l.rows catalog_family) []) name) ≡ c
          → IsRead row_shown IsTableOf c (map.get chosen.0 name) name
          → (row : Columns) × ((option_and_then row_shown
          (map.get (map.remove (l.rows catalog_family) []) name) ≡ Some row)
          × IsTableOf name row t)
      by None e is = absurd (let none : None ≡ Some t = sym is ∙ at in cc none)
      by (Some row) e is = (
        row,
        (
          e,
          subst (IsTableOf name row)
              (some _ _ (sym is.1.0 ∙ at)) is.1.1,
        ),
      )

  table_is : (name : List ℕ) (t : Table) → map.get chosen.0 name ≡ Some t
      → HasItems t.description t.items × (map.get catalog name ≡ Some t.description)
  table_is name t at = let (row, (e, is)) = table_here name t at in (is.has, is.known)

  -- its changes may stand there
  may_have : (name : List ℕ) (t : Table) → map.get chosen.0 name ≡ Some t
      → MayHave l.next_number t.description t.trimmed t.changes
  may_have name t at = let (row, (e, is)) = table_here name t at in is.may

  -- a table that is known stands there
  known_there : (name : List ℕ) (d : TableSchema) → map.get catalog name ≡ Some d
      → option_map (λ (t : Table). t.description) (map.get chosen.0 name) ≡ Some d
  known_there name d is = by _ refl (chosen.1 name)
    where
      apart : eq_by_cmp key_cmp name [] ≡ false
      apart = not_empty l.next_number family name d (read.good name d is)

      by : (c : Option Columns) → option_and_then row_shown
          (map.get (map.remove (l.rows catalog_family) []) name) ≡ c
          → IsRead row_shown IsTableOf c (map.get chosen.0 name) name
          → option_map (λ (t : Table). t.description) (map.get chosen.0 name) ≡ Some d
      by None e at = absurd (let none : None ≡ Some (table_row d) =
          sym e ∙ row_of name apart ∙ (read.stands name d is).1 in cc none)
      by (Some row) e at = ap (option_map (λ (t : Table). t.description)) at.1.0
          ∙ sym at.1.1.known ∙ is

  -- and no other
  same_catalog : descriptions chosen.0 ≡ catalog
  same_catalog = same_texts _ _ (λ name. get-descriptions chosen.0 name
      ∙ by name (map.get catalog name) refl (map.get chosen.0 name) refl)
    where
      by : (name : List ℕ) (o : Option TableSchema) → map.get catalog name ≡ o
          → (p : Option Table) → map.get chosen.0 name ≡ p
          → option_map (λ (t : Table). t.description) p ≡ map.get catalog name
      by name (Some d) is p e = ap (option_map (λ (t : Table). t.description)) (sym e)
          ∙ known_there name d is ∙ sym is
      by name None is None e = sym is
      by name None is (Some t) e = absurd (let none : None ≡ Some t.description =
          sym is ∙ (table_is name t e).1 in cc none)

  -- ---- what it shows

  catalog_shown : (key : List ℕ) → shown l catalog_family key
      ≡ (if eq_by_cmp key_cmp key [] then next_row family
      else option_map (λ t. table_row t.description) (map.get chosen.0 key))
  catalog_shown key = by (eq_by_cmp key_cmp key []) refl
    where
      by : (b : Bool) → eq_by_cmp key_cmp key [] ≡ b → shown l catalog_family key
          ≡ (if eq_by_cmp key_cmp key [] then next_row family
          else option_map (λ t. table_row t.description) (map.get chosen.0 key))
      by true e = ap (shown l catalog_family) (one_key key [] e) ∙ read.next.row
          ∙ ap (λ b. if b then next_row family
          else option_map (λ t. table_row t.description) (map.get chosen.0 key)) (sym e)
      by false e = sym (row_of key e) ∙ row _ (chosen.1 key)
          ∙ ap (λ b. if b then next_row family
          else option_map (λ t. table_row t.description) (map.get chosen.0 key)) (sym e)
        where
          row : (c : Option Columns)
              → IsRead row_shown IsTableOf c (map.get chosen.0 key) key
              → c ≡ option_map (λ t. table_row t.description) (map.get chosen.0 key)
          row None is = sym (ap (option_map (λ (t : Table). table_row t.description)) is)
          row (Some c) is = ap (λ x. Some x) is.1.1.row
              ∙ sym (ap (option_map (λ (t : Table). table_row t.description)) is.1.0)

  -- ---- it is valid

  good_at : (name : List ℕ) (t : Table) → map.get chosen.0 name ≡ Some t
      → IsGood l.next_number family name t.description
  good_at name t at = read.good name t.description (table_is name t at).1

  apart_or_one : (name other : List ℕ) (t u : Table) → map.get chosen.0 name ≡ Some t
      → map.get chosen.0 other ≡ Some u
      → (ShareNoFamily t.description u.description → ⊥) → name ≡ other
  apart_or_one name other t u at_t at_u not_apart = by (eq_by_cmp key_cmp name other) refl
    where
      by : (b : Bool) → eq_by_cmp key_cmp name other ≡ b → name ≡ other
      by true e = one_key name other e
      by false e = absurd (not_apart (read.apart name other t.description u.description
          (table_is name t at_t).1 (table_is other u at_u).1
          (λ same. false≢true
          (sym e ∙ ap (λ k. eq_by_cmp key_cmp k other) same ∙ key_itself other))))

  assembled_table : (name : List ℕ) (t : Table) → map.get chosen.0 name ≡ Some t
      → IsTable assembled_state name t
  assembled_table name t at =
      let good : IsGood l.next_number family name t.description = good_at name t at in
      record {
        named = good.named;
        made = good.made;
        number = good.number;
        families = good.families;
        differ = good.differ;
        items = λ key item here. ((table_is name t at).0.1 key item here).0;
        changes = (may_have name t at).are;
      }

  assembled_valid : IsValid assembled_state
  assembled_valid = record {
    few = omega (arith, read.few, len-descriptions chosen.0, ap map.len same_catalog);
    tables = assembled_table;
    families = λ name other t u f at_t at_u in_t in_u. apart_or_one name other t u at_t at_u
        (λ apart. apart.families f in_t in_u);
    next_number = number;
    next_family = (read.next.low, read.next.high);
  }

  -- The state of these rows, with these changes.
  pub assembled_with : (s : State) × AssembledRows l family catalog s
      × ((name : List ℕ) (t : Table) → map.get s.tables name ≡ Some t
      → Has t.description t.trimmed t.changes)
  assembled_with = (
    assembled_state,
    record {
      agrees = record {
        number = refl;
        catalog = λ key here. catalog_shown key;
        items = λ name t at key here. (table_is name t at).0.0 key;
        beyond = λ f key high here. beyond f key high;
        valid = assembled_valid;
        held = record {
          items = record {
            items = λ name key t item at here. ((table_is name t at).0.1 key item here).1.whole.0;
            changes = λ name t at. (may_have name t at).held;
          };
          moments = λ name t at. (may_have name t at).moments;
          descriptions = λ name t at. (good_at name t at).held;
        };
      };
      catalog = same_catalog;
      family = refl;
    },
    λ name t at. let (row, (e, is)) = table_here name t at in is.listed,
  )

-- The state of these rows, whose tables have no changes.
pub assembled : (l : Layout) (family : ℕ) (catalog : Texts TableSchema) → IsCatalog l family catalog
    → ((name : List ℕ) (d : TableSchema) → map.get catalog name ≡ Some d → ItemsRead l d)
    → ((f : ℕ) (key : List ℕ) → family ≤ f → shown l f key ≡ None)
    → (1 ≤ l.next_number) × (l.next_number ≤ NUMBERS_END)
    → (s : State) × AssembledRows l family catalog s
assembled l family catalog read items beyond number =
    let (s, made, none) = assembled_with l family catalog read items beyond number
    (λ d trimmed cs. Unit {0})
    (λ name d at. (0, [], none_had l.next_number d (omega (arith, number.0)), tt)) in
    (s, made)
