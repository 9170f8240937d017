-- The first wrong row of the catalog.
use Rattle.std.proofs.Common.{◌≡◌, ◌≢◌, ◌≤◌, ◌<◌, ◌+◌, ◌-◌, inl, inr, ⊎_elim, ℕ, zero, suc, Bool, true, false, cond, T, List, [], ◌∷◌, length, Option, Some, None, is_some, refl, sym, ap, subst, ◌∙◌, arith, Contains, All}
use Rattle.std.proofs.lemmas.Bool.{false≢true}
use Rattle.std.specs.Ordering.{eq_by_cmp, is_eq}
use Rattle.std.specs.FinMap as map
use Rattle.std.specs.FinMap.Entries.{below_all, find, is_sorted}
use Rattle.alt_base.proofs.Bools.{first_holds, second_holds}
use Rattle.alt_cells.specs.Changes.{Columns}
use Rattle.alt_cells.specs.Keys.{key_cmp}
use Rattle.alt_cells.proofs.CellLaws.{key_total}
use Rattle.alt_cells.proofs.Entries.{find_below}
use Rattle.alt_cells.proofs.SameKeys.{key_itself, one_key}
use Rattle.alt_layout.specs.Layout.{Layout, shown}
use Rattle.alt_machine.specs.declared.TheConstants.{NUMBERS_END, FAMILIES_END}
use Rattle.alt_machine.specs.State.{State, Table, Texts, families_of, start}
use Rattle.alt_machine.specs.Valid.{IsTable, IsValid}
use Rattle.alt_machine.proofs.Families.{of_contained}
use Rattle.alt_machine.proofs.Looks.{not_there}
use Rattle.alt_machine.proofs.States.{start_valid}
use Rattle.alt_schema.specs.declared.schema.TableSchema.{TableSchema}
use Rattle.alt_opening.specs.private.Opening.{CatalogWhere, IsCatalog, IsTableAt}
use Rattle.alt_opening.specs.Recovery.{LayoutAgreesAt, IsBefore, RowIsUpTo, IsFirstWrong}
use Rattle.alt_opening.specs.Scans.{IsBelow}
use Rattle.alt_opening.specs.StateRows.{catalog_family, next_row, table_row}
use Rattle.alt_opening.proofs.Assembled.{assembled, not_empty}
use Rattle.alt_opening.proofs.Cuts.{cut, shown-here, shown-not}
use Rattle.alt_opening.proofs.Families.{own_family}
use Rattle.alt_opening.proofs.FirstWrong.{before_row, is_before, before_is, not_before, agrees_before, same_next, table_at, described_at}

-- ---- how many there are

-- a map that has all of some keys is no smaller
sub_len : {X Y : Type 0} (es : List (List ℕ × X)) (n : Texts Y) → T (is_sorted key_cmp es)
    → ((k : List ℕ) (x : X) → find key_cmp k es ≡ Some x → map.contains_key n k ≡ true)
    → length es ≤ map.len n
sub_len [] n sorted all = omega arith
sub_len {X} {Y} (e ∷ es) n sorted all =
    let there : map.contains_key n e.0 ≡ true = all e.0 e.1
    (ap (λ b. cond b (Some e.1) (find key_cmp e.0 es)) (key_itself e.0)) in
    let some : 1 ≤ map.len n = has_one (map.len n) refl there in
    let less : map.len (map.remove n e.0) ≡ map.len n - 1 = map.len-remove key_total n e.0
    ∙ ap (λ b. cond b (map.len n - 1) (map.len n)) there in
    let below : T (below_all key_cmp e.0 es) × T (is_sorted key_cmp es) = (
      first_holds _ (is_sorted key_cmp es) sorted,
      second_holds (below_all key_cmp e.0 es) _
          sorted,
    ) in
    let rest : length es ≤ map.len (map.remove n e.0) = sub_len es (map.remove n e.0)
    below.1 (λ k x at. by k x at (eq_by_cmp key_cmp k e.0) refl) in
    omega (arith, some, less, rest)
  where
    has_one : (c : ℕ) → map.len n ≡ c → map.contains_key n e.0 ≡ true → 1 ≤ c
    has_one zero none there = absurd (false≢true
        (ap is_some (sym (map.get-empty key_cmp e.0))
        ∙ ap (λ (m : Texts Y). map.contains_key m e.0) (sym (map.empty_of_len n none)) ∙ there))
    has_one (suc c) none there = omega arith

    by : (k : List ℕ) (x : X) → find key_cmp k es ≡ Some x → (b : Bool)
        → eq_by_cmp key_cmp k e.0 ≡ b → map.contains_key (map.remove n e.0) k ≡ true
    by k x at true same = absurd (let no : None ≡ Some x =
        sym (find_below key_cmp key_total e.0 es (first_holds _ _ sorted))
        ∙ ap (λ q. find key_cmp q es) (sym (one_key k e.0 same)) ∙ at in cc no)
    by k x at false differ = ap is_some (map.get-remove key_total n e.0 k
        ∙ ap (λ b. cond b None (map.get n k)) differ)
        ∙ all k x (ap (λ b. cond b (Some e.1) (find key_cmp k es)) differ ∙ at)

-- one that has one key more is larger
pub more_len : {X Y : Type 0} (m : Texts X) (n : Texts Y) (k : List ℕ) (x : X)
    → map.get m k ≡ None → map.contains_key n k ≡ true
    → ((q : List ℕ) (y : X) → map.get m q ≡ Some y → map.contains_key n q ≡ true)
    → map.len m < map.len n
more_len {X} m n k x none there all =
    let more : map.len (map.insert m k x) ≡ map.len m + 1 = map.len-insert key_total m k x
    ∙ ap (λ o. cond (is_some o) (map.len m) (map.len m + 1)) none in
    let within : length (map.entries (map.insert m k x)) ≤ map.len n =
    sub_len (map.entries (map.insert m k x)) n (map.entries_sorted (map.insert m k x))
    (λ q y at. by q y (eq_by_cmp key_cmp q k) refl
    (sym (map.get-insert key_total m k x q) ∙ map.get-entries (map.insert m k x) q ∙ at)) in
    omega (arith, more, within, map.len-entries (map.insert m k x))
  where
    by : (q : List ℕ) (y : X) (b : Bool) → eq_by_cmp key_cmp q k ≡ b
        → cond b (Some x) (map.get m q) ≡ Some y → map.contains_key n q ≡ true
    by q y true same at = ap (map.contains_key n) (one_key q k same) ∙ there
    by q y false differ at = all q y at

-- ---- the next family

-- no key is below the empty one
none_below : (k : List ℕ) → IsBelow k [] → ⊥
none_below [] low = let f : ⊥ = cc in f
none_below (c ∷ cs) low = let f : ⊥ = cc in f

-- no row is before that of the empty key in the catalog
none_before : (f : ℕ) (k : List ℕ) → IsBefore f k catalog_family [] → ⊥
none_before f k (inl low) = omega arith
none_before f k (inr (same, low)) = none_below k low

-- a state without tables
abbrev empty_state : ℕ → State
empty_state n = record start { next_number = n }

empty_valid : (n : ℕ) → (1 ≤ n) × (n ≤ NUMBERS_END) → IsValid (empty_state n)
empty_valid n within = record {
  few = start_valid.few;
  tables = λ name t e. absurd (not_there name t e);
  families = λ name other t u family e f h i. absurd (not_there name t e);
  next_number = within;
  next_family = start_valid.next_family;
}

-- the row of the next family is none
pub next_wrong : (l : Layout) → (1 ≤ l.next_number) × (l.next_number ≤ NUMBERS_END)
    → ((family : ℕ) → 1 ≤ family → family ≤ FAMILIES_END
    → shown l catalog_family [] ≡ next_row family → ⊥) → IsFirstWrong l catalog_family []
next_wrong l number none = inl (record {
  before = (
    empty_state l.next_number,
    record {
      number = refl;
      catalog = λ k here. absurd (none_before catalog_family k here);
      items = λ name t at. absurd (not_there name t at);
      beyond = λ f k high here. absurd (none_before f k here);
      valid = empty_valid l.next_number number;
      held = record {
        items = record {
          items = λ name place t item at here. absurd (not_there name t at);
          changes = λ name t at. absurd (not_there name t at);
        };
        moments = λ name t at. absurd (not_there name t at);
        descriptions = λ name t at. absurd (not_there name t at);
      };
    },
  );
  none = λ r agrees. none r.next_family agrees.valid.next_family.0 agrees.valid.next_family.1
      (agrees.catalog [] (inr (refl, refl)));
})

-- ---- a table

module _ (l : Layout) (next : ℕ) (catalog : Texts TableSchema) (name : List ℕ) (row : Columns)
    (number : (1 ≤ l.next_number) × (l.next_number ≤ NUMBERS_END))
    (read : CatalogWhere (λ n. IsBelow n name) l next catalog)
    (named : eq_by_cmp key_cmp name [] ≡ false)
    (first_below : IsBelow [] name)
    (shows : shown l catalog_family name ≡ Some row)
    (none : (d : TableSchema) → IsTableAt l.next_number next catalog name row d → ⊥) where
  abbrev here : ℕ → List ℕ → Bool
  here = before_row catalog_family name

  abbrev front : Layout
  front = cut here l

  same_below : (k : List ℕ) → IsBelow k name → shown front catalog_family k
      ≡ shown l catalog_family k
  same_below k low = shown-here here l catalog_family k
      (is_before catalog_family name catalog_family k (inr (refl, low)))

  -- families of tables show nothing there
  others_none : (f : ℕ) (k : List ℕ) → 1 ≤ f → shown front f k ≡ None
  others_none f k high = shown-not here l f k (not_before catalog_family name f k (λ low. ⊎_elim
      (λ (less : f < catalog_family). omega (arith, less))
      (λ (same : (f ≡ catalog_family) × IsBelow k name). omega (arith, same.0, high)) low))

  front_catalog : IsCatalog front next catalog
  front_catalog = record {
    next = record {
      low = read.next.low;
      high = read.next.high;
      row = same_below [] first_below ∙ read.next.row;
    };
    stands = λ other d at. (
      tt,
      same_below other (read.stands other d at).0
          ∙ (read.stands other d at).1,
    );
    read = λ other r is other_named there. by other r other_named there
        (here catalog_family other) refl;
    few = read.few;
    good = read.good;
    apart = read.apart;
  }
    where
      by : (other : List ℕ) (r : Columns) → other ≢ [] → shown front catalog_family other ≡ Some r
          → (b : Bool) → here catalog_family other ≡ b
          → (d : TableSchema) × (map.get catalog other ≡ Some d)
      by other r other_named there true e = ⊎_elim
          (λ (less : catalog_family < catalog_family). absurd (omega (arith, less)))
          (λ (same : (catalog_family ≡ catalog_family) × IsBelow other name).
          read.read other r same.1 other_named (sym (same_below other same.1) ∙ there))
          (before_is catalog_family name catalog_family other e)
      by other r other_named there false e = absurd (let no : None ≡ Some r =
          sym (shown-not here l catalog_family other e) ∙ there in cc no)

  -- the table of that name in a state that has the row
  module _ (r : State) (agrees : LayoutAgreesAt (λ f k. RowIsUpTo f k catalog_family name) l r) (t : Table)
      (there : map.get r.tables name ≡ Some t) (is_row : row ≡ table_row t.description) where
    is_table : IsTable r name t
    is_table = agrees.valid.tables name t there

    same_family : r.next_family ≡ next
    same_family = same_next l (λ f k. RowIsUpTo f k catalog_family name) r agrees next
        (inl (inr (refl, first_below))) read.next.low read.next.high read.next.row

    -- a table that is known stands in that state
    known : (other : List ℕ) (e : TableSchema) → map.get catalog other ≡ Some e
        → (u : Table) × (map.get r.tables other ≡ Some u) × (u.description ≡ e)
    known other e at = described_at l (λ f k. RowIsUpTo f k catalog_family name) r agrees other e
        (inl (inr (refl, (read.stands other e at).0)))
        (not_empty l.next_number next other e (read.good other e at))
        (read.good other e at).made (read.good other e at).held (read.stands other e at).1

    -- and it isn't this one
    other_name : (other : List ℕ) (e : TableSchema) → map.get catalog other ≡ Some e
        → other ≡ name → ⊥
    other_name other e at same =
        let low : IsBelow name name = subst (λ k. IsBelow k name) same (read.stands other e at).0 in
        let f : ⊥ = false≢true (sym (ap (λ o. is_eq o) low) ∙ key_itself name) in f

    absent : (o : Option TableSchema) → map.get catalog name ≡ o → o ≡ None
    absent None at = refl
    absent (Some e) at = absurd (other_name name e at refl)

    is_table_at : IsTableAt l.next_number next catalog name row t.description
    is_table_at = record {
      row = is_row;
      may = record {
        few = let more = more_len catalog r.tables name t.description (absent _ refl)
            (ap is_some there) (λ q e at. ap is_some (known q e at).1) in
            omega (arith, more, agrees.valid.few);
        good = record {
          named = is_table.named;
          made = is_table.made;
          held = agrees.held.descriptions name t there;
          number = (is_table.number.0, omega (arith, is_table.number.1, agrees.number));
          families = subst (λ n. All (λ f. (1 ≤ f) × (f < n)) (families_of t.description))
              same_family is_table.families;
          differ = is_table.differ;
        };
        new = ap (map.get catalog) is_table.named ∙ absent _ refl;
        apart = λ other e at.
            let (u, at_u, same) = known other e at in
            record {
              families = λ f in_e in_t. other_name other e at
                  (agrees.valid.families other name u t f at_u there
                  (subst (λ d. Contains (families_of d) f) (sym same) in_e) in_t);
            };
      };
    }

  -- the row is that of no table that may stand there
  pub table_wrong : IsFirstWrong l catalog_family name
  table_wrong = inl (record {
    before =
        let (s, made) = assembled front next catalog front_catalog
        (λ other d at k r is shown_there. absurd (let no : None ≡ Some r =
        sym (others_none d.family k (known_low other d at)) ∙ shown_there in cc no))
        (λ f k high. others_none f k (omega (arith, high, read.next.low))) number in
        (s, agrees_before l catalog_family name next catalog s made);
    none = λ r agrees.
        let (t, there, is_row) = table_at l (λ f k. RowIsUpTo f k catalog_family name) r agrees name
        row (inr (refl, refl)) named shows in
        none t.description (is_table_at r agrees t there is_row);
  })
    where
      known_low : (other : List ℕ) (d : TableSchema) → map.get catalog other ≡ Some d
          → 1 ≤ d.family
      known_low other d at = (of_contained (λ f. (1 ≤ f) × (f < next)) (families_of d) d.family
          (read.good other d at).families (own_family d)).0
