-- The first wrong row of the catalog and of the tables: before it the rows are those of a state, and with it those of none.
use Rattle.std.proofs.Common.{◌≡◌, ◌≤◌, ◌<◌, inl, inr, ⊎_elim, ℕ, Bool, true, false, cond, List, [], Option, Some, None, refl, sym, ap, subst, ◌∙◌, arith, Contains, Less, T}
use Rattle.std.proofs.lemmas.Bool.{false≢true}
use Rattle.std.proofs.lemmas.Bool.Decides.{nat_tests}
use Rattle.std.proofs.lemmas.Option.{same_Some}
use Rattle.std.specs.Prelude.{◌==◌, ◌&&◌, ◌||◌, nat_lt, if◌then◌else◌, option_map}
use Rattle.std.specs.Ordering.{eq_by_cmp, is_lt}
use Rattle.std.specs.FinMap as map
use Rattle.alt_base.proofs.Orderings.{is_lt-holds as less}
use Rattle.alt_cells.specs.Changes.{Columns}
use Rattle.alt_cells.specs.Keys.{key_cmp}
use Rattle.alt_cells.proofs.SameKeys.{key_itself, one_key}
use Rattle.alt_layout.specs.Layout.{Layout, shown, IsFirstShown}
use Rattle.alt_machine.specs.declared.TheConstants.{NUMBERS_END, FAMILIES_END}
use Rattle.alt_machine.specs.State.{State, Table, Texts, families_of}
use Rattle.alt_machine.proofs.Families.{of_contained}
use Rattle.alt_machine.specs.Valid.{IsMade}
use Rattle.alt_tablerows.specs.Held.{IsHeld}
use Rattle.alt_schema.specs.declared.schema.TableSchema.{TableSchema}
use Rattle.alt_tablerows.specs.ItemRows.{item_columns}
use Rattle.alt_opening.specs.private.Opening.{IsCatalog, ShareNoFamily}
use Rattle.alt_opening.specs.Recovery.{LayoutAgreesAt, IsBefore, RowIsUpTo, IsFirstWrong}
use Rattle.alt_opening.specs.Scans.{IsItemAt, IsFirstBad, ItemsRead}
use Rattle.alt_opening.specs.StateRows.{catalog_family, table_row, next_row}
use Rattle.alt_opening.proofs.Assembled.{AssembledRows, assembled, not_empty}
use Rattle.alt_opening.proofs.Cuts.{cut, shown-cut, shown-here, shown-not}
use Rattle.alt_tablerows.proofs.NextFamily.{next_row-one}
use Rattle.alt_tablerows.specs.Good.{IsGood}
use Rattle.alt_opening.proofs.Families.{own_family}
use Rattle.alt_tablerows.proofs.OneDescription.{one_table_row}
use Rattle.alt_value.specs.Tree.{Pair}

-- ---- the rows before one

-- whether a row is before another
pub before_row : ℕ → List ℕ → ℕ → List ℕ → Bool
before_row family key f k = nat_lt f family || ((f == family) && is_lt (key_cmp k key))

-- a row before another is told to be before it
pub is_before : (family : ℕ) (key : List ℕ) (f : ℕ) (k : List ℕ) → IsBefore f k family key
    → before_row family key f k ≡ true
unfolding before_row
is_before family key f k (inl low) = ap (λ b. b || ((f == family) && is_lt (key_cmp k key)))
    (test f family low)
  where
    test : (m n : ℕ) → m < n → nat_lt m n ≡ true
    test m n h = grind (arith, nat_tests)
is_before family key f k (inr (same, low)) =
    grind (arith, nat_tests, same, ap is_lt low)

-- and one that is told to be before it is
pub before_is : (family : ℕ) (key : List ℕ) (f : ℕ) (k : List ℕ) → before_row family key f k ≡ true
    → IsBefore f k family key
unfolding before_row
before_is family key f k e =
    by (nat_lt f family) (f == family) (is_lt (key_cmp k key)) refl refl refl e
  where
    lower : (m n : ℕ) → nat_lt m n ≡ true → m < n
    lower m n e = grind (arith, nat_tests)

    same : (m n : ℕ) → (m == n) ≡ true → m ≡ n
    same m n e = grind (arith, nat_tests)

    by : (a b c : Bool) → nat_lt f family ≡ a → (f == family) ≡ b → is_lt (key_cmp k key) ≡ c
        → (a || (b && c)) ≡ true → IsBefore f k family key
    by true b c x y z e = inl (lower f family x)
    by false true true x y z e = inr (same f family y, less (key_cmp k key) (subst T (sym z) tt))
    by false true false x y z e = absurd (let f : ⊥ = cc in f)
    by false false c x y z e = absurd (let f : ⊥ = cc in f)

-- a row that isn't before another doesn't pass
pub not_before : (family : ℕ) (key : List ℕ) (f : ℕ) (k : List ℕ) → (IsBefore f k family key → ⊥)
    → before_row family key f k ≡ false
not_before family key f k not = by (before_row family key f k) refl
  where
    by : (b : Bool) → before_row family key f k ≡ b → b ≡ false
    by true e = absurd (not (before_is family key f k e))
    by false e = refl

-- ---- what a state has where its rows agree

module _ (l : Layout) (Here : ℕ → List ℕ → Type 0) (r : State) (agrees : LayoutAgreesAt Here l r) where
  -- the next family
  pub same_next : (family : ℕ) → Here catalog_family [] → 1 ≤ family → family ≤ FAMILIES_END
      → shown l catalog_family [] ≡ next_row family → r.next_family ≡ family
  same_next family here low high row = next_row-one r.next_family family
      (let last = agrees.valid.next_family.1 in omega (arith, last)) (omega (arith, high))
      (sym (agrees.catalog [] here) ∙ row)

  -- the table of a row
  pub table_at : (name : List ℕ) (row : Columns) → Here catalog_family name
      → eq_by_cmp key_cmp name [] ≡ false → shown l catalog_family name ≡ Some row
      → (t : Table) × (map.get r.tables name ≡ Some t) × (row ≡ table_row t.description)
  table_at name row here named shows = by (map.get r.tables name) refl
      (sym shows ∙ agrees.catalog name here
      ∙ ap (λ b. if b then next_row r.next_family
      else option_map (λ t. table_row t.description) (map.get r.tables name)) named)
    where
      by : (o : Option Table) → map.get r.tables name ≡ o
          → Some row ≡ option_map (λ t. table_row t.description) o
          → (t : Table) × (map.get r.tables name ≡ Some t) × (row ≡ table_row t.description)
      by None at e = absurd (let no : Some row ≡ None = e in cc no)
      by (Some t) at e = (t, at, same_Some _ _ e)

  -- the one that was described
  pub described_at : (name : List ℕ) (d : TableSchema) → Here catalog_family name
      → eq_by_cmp key_cmp name [] ≡ false → IsMade d → IsHeld d
      → shown l catalog_family name ≡ Some (table_row d)
      → (t : Table) × (map.get r.tables name ≡ Some t) × (t.description ≡ d)
  described_at name d here named is held shows =
      let (t, at, row) = table_at name (table_row d) here named shows in (
        t,
        at,
        one_table_row t.description d (agrees.valid.tables name t at).made.whole
            (agrees.held.descriptions name t at) (agrees.valid.tables name t at).made.built
            (agrees.valid.tables name t at).differ is.whole held is.built (sym row),
      )

-- a state of the rows before one, taken alone, agrees there
pub agrees_before : (l : Layout) (family : ℕ) (key : List ℕ) (next : ℕ)
    (catalog : Texts TableSchema) (s : State)
    → AssembledRows (cut (before_row family key) l) next catalog s
    → LayoutAgreesAt (λ f k. IsBefore f k family key) l s
agrees_before l family key next catalog s made = record {
  number = made.agrees.number;
  catalog = λ k here. sym (shown-here (before_row family key) l catalog_family k
      (is_before family key catalog_family k here)) ∙ made.agrees.catalog k tt;
  items = λ name t at k here.
      sym (shown-here (before_row family key) l t.description.family k
      (is_before family key t.description.family k here)) ∙ made.agrees.items name t at k tt;
  beyond = λ f k high here. sym (shown-here (before_row family key) l f k
      (is_before family key f k here)) ∙ made.agrees.beyond f k high tt;
  valid = made.agrees.valid;
  held = made.agrees.held;
}

-- ---- a wrong item, or a row from the next family on

module _ (l : Layout) (next : ℕ) (catalog : Texts TableSchema) (read : IsCatalog l next catalog)
    (number : (1 ≤ l.next_number) × (l.next_number ≤ NUMBERS_END)) where
  -- the family of a table that is known
  pub known_family : (name : List ℕ) (d : TableSchema) → map.get catalog name ≡ Some d
      → (1 ≤ d.family) × (d.family < next)
  known_family name d at = of_contained (λ f. (1 ≤ f) × (f < next)) (families_of d) d.family
      (read.good name d at).families (own_family d)

  -- of tables of one family the description is one
  pub same_table : (name other : List ℕ) (d e : TableSchema) → map.get catalog name ≡ Some d
      → map.get catalog other ≡ Some e → d.family ≡ e.family → d ≡ e
  same_table name other d e at_d at_e same = by (eq_by_cmp key_cmp name other) refl
    where
      by : (b : Bool) → eq_by_cmp key_cmp name other ≡ b → d ≡ e
      by true one = same_Some d e (sym at_d ∙ ap (map.get catalog) (one_key name other one) ∙ at_e)
      by false differ =
          let apart : ShareNoFamily d e = read.apart name other d e at_d at_e
          (λ one. false≢true (sym differ ∙ ap (λ k. eq_by_cmp key_cmp k other) one
          ∙ key_itself other)) in
          absurd (apart.families d.family (own_family d)
          (subst (Contains (families_of e)) (sym same) (own_family e)))

  module _ (family : ℕ) (key : List ℕ) (high : 1 ≤ family) where
    abbrev here : ℕ → List ℕ → Bool
    here = before_row family key

    abbrev front : Layout
    front = cut here l

    -- the catalog is before it
    catalog_same : (k : List ℕ) → shown front catalog_family k ≡ shown l catalog_family k
    catalog_same k = shown-here here l catalog_family k
        (is_before family key catalog_family k (inl (omega (arith, high))))

    front_catalog : IsCatalog front next catalog
    front_catalog = record {
      next = record {
        low = read.next.low;
        high = read.next.high;
        row = catalog_same [] ∙ read.next.row;
      };
      stands = λ name d at. (tt, catalog_same name ∙ (read.stands name d at).1);
      read = λ name row is named shows. read.read name row is named
          (sym (catalog_same name) ∙ shows);
      few = read.few;
      good = read.good;
      apart = read.apart;
    }

    -- what is shown there passes, and is shown before
    passed : (f : ℕ) (k : List ℕ) (row : Columns) → shown front f k ≡ Some row
        → IsBefore f k family key × (shown l f k ≡ Some row)
    passed f k row shows = by (here f k) refl
      where
        by : (b : Bool) → here f k ≡ b → IsBefore f k family key × (shown l f k ≡ Some row)
        by true e = (before_is family key f k e, sym (shown-here here l f k e) ∙ shows)
        by false e = absurd (let no : None ≡ Some row = sym (shown-not here l f k e) ∙ shows in
            cc no)

    state_before : ((name : List ℕ) (d : TableSchema) → map.get catalog name ≡ Some d
        → ItemsRead front d) → ((f : ℕ) (k : List ℕ) → next ≤ f → shown front f k ≡ None)
        → (s : State) × LayoutAgreesAt (λ f k. IsBefore f k family key) l s
    state_before items beyond =
        let (s, made) = assembled front next catalog front_catalog items beyond number in
        (s, agrees_before l family key next catalog s made)

  -- a row of a table's family that is none of an item
  pub item_wrong : (name : List ℕ) (d : TableSchema) → map.get catalog name ≡ Some d
      → ((other : List ℕ) (e : TableSchema) → map.get catalog other ≡ Some e
      → e.family < d.family → ItemsRead l e)
      → (key : List ℕ) → IsFirstBad l d key → IsFirstWrong l d.family key
  item_wrong name d at lower key bad = inl (record {
    before = state_before d.family key within.0
        (λ other e at_e k row is shows. by_family other e at_e k row
        (passed d.family key within.0 e.family k row shows))
        (λ f k above. shown-not (before_row d.family key) l f k
        (not_before d.family key f k (λ low. ⊎_elim
        (λ (less : f < d.family). omega (arith, less, above, within.1))
        (λ (same : (f ≡ d.family) × (key_cmp k key ≡ Less)).
        omega (arith, same.0, above, within.1)) low)));
    none = λ r agrees.
        let (t, there, same) = described_at l (λ f k. RowIsUpTo f k d.family key) r agrees name d
        (inl (inl (omega (arith, within.0)))) (not_empty l.next_number next name d good)
        good.made good.held (read.stands name d at).1 in
        no_item r agrees t there same;
  })
    where
      within : (1 ≤ d.family) × (d.family < next)
      within = known_family name d at

      good : IsGood l.next_number next name d
      good = read.good name d at

      by_family : (other : List ℕ) (e : TableSchema) → map.get catalog other ≡ Some e
          → (k : List ℕ) (row : Columns)
          → IsBefore e.family k d.family key × (shown l e.family k ≡ Some row)
          → (item : List Pair) × IsItemAt e k row item
      by_family other e at_e k row (inl low, shows) = lower other e at_e low k row tt shows
      by_family other e at_e k row (inr (same, low), shows) =
          subst (λ x. (item : List Pair) × IsItemAt x k row item)
          (same_table name other d e at at_e (sym same))
          (bad.before k row low (ap (λ f. shown l f k) (sym same) ∙ shows))

      no_item : (r : State) → LayoutAgreesAt (λ f k. RowIsUpTo f k d.family key) l r → (t : Table)
          → map.get r.tables name ≡ Some t → t.description ≡ d → ⊥
      no_item r agrees t there same = by (map.get t.items key) refl
          (sym bad.shows ∙ ap (λ x. shown l x.family key) (sym same)
          ∙ agrees.items name t there key (inr (ap (λ x. x.family) same, refl)))
        where
          by : (o : Option (List Pair)) → map.get t.items key ≡ o
              → Some bad.row ≡ option_map item_columns (map.get t.items key) → ⊥
          by None e shows = let no : Some bad.row ≡ None =
              shows ∙ ap (option_map item_columns) e in cc no
          by (Some item) e shows =
              let stored = (agrees.valid.tables name t there).items key item e in
              subst (λ x. IsItemAt x key bad.row item → ⊥) (sym same) (bad.none item) (record {
                stored = stored;
                read = record {
                  whole = (agrees.held.items.items name key t item there e, stored.full);
                  depth = stored.depth;
                };
                row = same_Some _ _ (shows ∙ ap (option_map item_columns) e);
              })

  -- a row of a family from the next one on
  pub beyond_wrong : ((name : List ℕ) (d : TableSchema) → map.get catalog name ≡ Some d
      → ItemsRead l d) → (family : ℕ) (key : List ℕ) → IsFirstShown (shown l) next (family, key)
      → IsFirstWrong l family key
  beyond_wrong items family key first = inl (record {
    before = state_before family key high
        (λ name d at k row is shows. items name d at k row is
        (passed family key high d.family k row shows).1)
        (λ f k above. shown-cut (before_row family key) l f k
        ∙ by f k above (before_row family key f k) refl);
    none = λ r agrees.
        let same = same_next l (λ f k. RowIsUpTo f k family key) r agrees next
        (inl (inl (omega (arith, high)))) read.next.low read.next.high read.next.row in
        first.shows (agrees.beyond family key (omega (arith, same, first.later))
        (inr (refl, refl)));
  })
    where
      high : 1 ≤ family
      high = omega (arith, first.later, read.next.low)

      by : (f : ℕ) (k : List ℕ) → next ≤ f → (b : Bool) → before_row family key f k ≡ b
          → cond b (shown l f k) None ≡ None
      by f k above true e = ⊎_elim
          (λ (low : f < family). first.before f k above low)
          (λ (same : (f ≡ family) × (key_cmp k key ≡ Less)).
          ap (λ g. shown l g k) same.0 ∙ first.first k same.1)
          (before_is family key f k e)
      by f k above false e = refl
