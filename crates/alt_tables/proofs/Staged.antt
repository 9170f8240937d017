-- Several writes that are got ready one after another, and the tables behind all of them.
use Rattle.std.proofs.Common.{◌≡◌, ◌<◌, ◌≤◌, ◌+◌, ◌^◌, refl, sym, ap, subst, ◌∙◌, ℕ, Bool, true, false, T, List, [], ◌∷◌, ◌++◌, length, map as each, Option, Some, None, option_map, IfSome, is_some, append_assoc, append-nil, arith}
use Rattle.std.specs.FinMap as map
use Rattle.alt_cells.specs.Batches.{is_distinct}
use Rattle.alt_cells.specs.declared.batch.RowChange.{RowChange}
use Rattle.alt_disk.specs.Disk.{DiskState}
use Rattle.alt_codec.specs.declared.writer.Writer.{Writer}
use Rattle.alt_due.specs.Due.{KeepsKnown}
use Rattle.alt_due.specs.declared.due.Due.{Due}
use Rattle.alt_layout.specs.Layout.{Layout}
use Rattle.alt_machine.specs.declared.TheConstants.{NUMBERS_END}
use Rattle.alt_machine.specs.Ops.BatchWriteItem.{PlacedWrite, writes_of_by, writes_of_all_by}
use Rattle.alt_machine.specs.Outcomes.{last_state, together}
use Rattle.alt_machine.specs.Same.{is_same}
use Rattle.alt_machine.specs.State.{State, Table, Texts}
use Rattle.alt_machine.specs.Valid.{AreChanges, IsStored, IsValid}
use Rattle.alt_machine.specs.Writes.{after_item_by, with_write_by}
use Rattle.alt_machine.proofs.Descriptions.{get-descriptions, table_of_description}
use Rattle.alt_rowchanges.specs.OpeningOpened.{EngineHoldsState}
use Rattle.alt_rowchanges.proofs.OpeningOverEngine.{one_layout_in_hand, stands_past}
use Rattle.alt_schema.specs.declared.schema.TableSchema.{TableSchema}
use Rattle.alt_tables.specs.Foreseen.{Foresees, ForeseesWritten}
use Rattle.alt_rowchanges.specs.Fronts.{AreFronts}
use Rattle.alt_rowchanges.specs.Leftovers.{lowest_left}
use Rattle.alt_rowchanges.specs.RowChanges.{write_changes}
use Rattle.alt_tables.specs.Several.{AreAllApart, BatchesAreDistinct, Every, IsFound, MayWrite, batch_of, batches_of, with_batches, written_at}
use Rattle.alt_tables.specs.Stands.{HasRows, KeepsTables, Stands, catalog_of, due_of, fronts_of, next_write_of_tables, trimmed_of, largest_of}
use Rattle.alt_tables.specs.declared.several.ItemChange.{ItemChange}
use Rattle.alt_tables.specs.declared.several.Noted.{Noted}
use Rattle.alt_tables.specs.declared.several.Staged.{Staged}
use Rattle.alt_tables.specs.declared.tables.Tables.{Tables}
use Rattle.alt_rowchanges.specs.declared.trimming.Trim.{Trim}
use Rattle.alt_tables.specs.private.Staging.{AreKnown, AreNotes, Differs, IsStateAhead, IsTrimmedAgain, IsStaged, IsStagedOn}
use Rattle.alt_rowchanges.specs.Trims.{TrimIsWithin}
use Rattle.alt_tables.proofs.Ahead.{none_ahead, one_ahead}
use Rattle.alt_tables.proofs.Batches.{with_batches-append}
use Rattle.alt_tables.proofs.Differing.{differ_one, differ_rows, stay_found}
use Rattle.alt_tables.proofs.Foreseen.{written_on}
use Rattle.alt_rowchanges.proofs.FrontTrims.{trimmed_then}
use Rattle.alt_tables.proofs.Noting.{fronts_all, trimmed_all}
use Rattle.alt_tables.proofs.NoneBuilt.{none_on}
use Rattle.alt_tables.proofs.Standing.{keeps_nothing, keeps_then, known, rows_kept, stands_kept, still_live}
use Rattle.alt_value.specs.Tree.{Pair}
use Rattle.alt_value.specs.Values.{IsItemOfValues}
use Rattle.std.proofs.Math.Nat.{le_trans}
use Rattle.std.proofs.lemmas.Option.{same_Some as some}
use Rattle.alt_tables.specs.private.Foretold.{ItemFits, FitsWrite, FitsWrites}
use Rattle.alt_tables.proofs.Sizing.{EachItem, fits_up, sized_valid}

-- ---- the table of a write

module _ (a : DiskState) (old : Tables) (s : State) (stands : Stands a old s) (l : Layout)
    (moment : ℕ) (notes : List Noted) (batches : List (List RowChange)) (r : State)
    (ahead : IsStateAhead l s moment notes batches r) where
  -- the catalog describes the tables of the state that is ahead
  pub ahead_known : (name : List ℕ) (t : Table) → map.get r.tables name ≡ Some t
      → map.get (catalog_of old) name ≡ Some t.description
  ahead_known name t at = ap (λ m. map.get m name) (stands.catalog ∙ sym ahead.catalog)
      ∙ get-descriptions r.tables name ∙ ap (option_map (λ (v : Table). v.description)) at

  -- and a table that is there is one of them
  pub ahead_there : (name : List ℕ) (d : TableSchema) → map.get (catalog_of old) name ≡ Some d
      → (t : Table) × (map.get r.tables name ≡ Some t) × (t.description ≡ d)
  ahead_there name d at = table_of_description r.tables name d
      (ap (λ m. map.get m name) (ahead.catalog ∙ sym stands.catalog) ∙ at)

  module _ (writer : Writer) (rows : HasRows a old l) (c : ItemChange) (may : MayWrite (catalog_of old) (written_at c))
      (differ : Differs c) (found : IsFound r c) (room : next_write_of_tables old + length batches < NUMBERS_END)
      (d : TableSchema) (described : map.get (catalog_of old) c.table ≡ Some d) (x : ℕ × Trim)
      (behind : (t : Table) → map.get r.tables c.table ≡ Some t
      → IsTrimmedAgain l (with_batches l batches) t moment x) (number : ℕ)
      (numbered : number ≡ next_write_of_tables old + length batches) (batch : List RowChange)
      (written : batch ≡ write_changes d number moment writer c.found.place c.found.item c.new x.0
      x.1.number x.1.leftovers.items) (one : T (is_distinct batch))
      (given : IfSome c.new IsItemOfValues) (fits : moment < 2 ^ 64) (before after : Staged)
      (is_notes : before.notes.items ≡ notes) (is_batches : before.batches.items ≡ batches)
      (notes_then : after.notes.items ≡ record { table = c.table; trim = x.1 } ∷ notes)
      (batches_then : after.batches.items ≡ batches ++ batch ∷ []) where
    -- One more is got ready.
    pub one_staged : IsStagedOn l s moment writer c r before after
    one_staged =
        let (t, at, same) = ahead_there c.table d described in
        let was : IsTrimmedAgain l (with_batches l batches) t moment x = behind t at in
        let differs = ap (λ o. is_same_of o) (sym (found t at)) ∙ differ in
        let in_state = written_so t at same was in
        record {
          table = t;
          there = at;
          batches = batches_then
              ∙ (λ i. sym is_batches i ++ batch_is t at same was differs i ∷ [])
              ∙ ap (λ bs. before.batches.items ++ batch_of (with_batches l bs) r moment writer t (written_at c)
              ∷ []) (sym is_batches);
          ahead = subst (λ ns. IsStateAhead l s moment ns after.batches.items
              (after_item_by r moment writer c.table t c.found.place c.new)) (sym notes_then)
              (subst (λ bs. IsStateAhead l s moment (record { table = c.table; trim = x.1 } ∷ notes) bs
              (after_item_by r moment writer c.table t c.found.place c.new)) (sym batches_then)
              (one_ahead l s (stands_past a old.engine l rows) moment writer notes batches r ahead c.table t
              at c.found.place c.new differs x.1 was.again.trim was.again.rest batch in_state one
              (let so_far = ahead.number in let known = stands.number in
              omega (arith, room, so_far, known))
              (λ item e. subst (λ y. IsStored y c.found.place item) (sym same)
              (of_new c.new item (may.stored d described) e))
              given fits));
        }
      where
        is_same_of : Option (List Pair) → Bool
        is_same_of o = is_same o c.new

        of_new : (o : Option (List Pair)) (item : List Pair)
            → IfSome o (IsStored d c.found.place) → o ≡ Some item → IsStored d c.found.place item
        of_new None item h e = absurd (let no : None ≡ Some item = e in let f : ⊥ = cc no in f)
        of_new (Some i) item h e = subst (IsStored d c.found.place) (some i item e) h

        written_so : (t : Table) → map.get r.tables c.table ≡ Some t → t.description ≡ d
            → IsTrimmedAgain l (with_batches l batches) t moment x
            → batch ≡ write_changes t.description r.next_number moment writer c.found.place
            (map.get t.items c.found.place) c.new t.trimmed x.1.number x.1.leftovers.items
        written_so t at same was =
            let next : number ≡ r.next_number =
            (let so_far = ahead.number in let known = stands.number in
            omega (arith, numbered, so_far, known)) in
            written ∙ (λ i. write_changes (sym same i) (next i) moment writer c.found.place
            (found t at i) c.new (was.before i) x.1.number x.1.leftovers.items)

        batch_is : (t : Table) (at : map.get r.tables c.table ≡ Some t) → t.description ≡ d
            → IsTrimmedAgain l (with_batches l batches) t moment x
            → is_same (map.get t.items c.found.place) c.new ≡ false
            → batch ≡ batch_of (with_batches l batches) r moment writer t (written_at c)
        batch_is t at same was differs =
            let number_then : (with_write_by r.next_number moment writer t c.found.place c.new).trimmed
            ≡ x.1.number = trimmed_then r c.table t at ahead.turns.valid moment writer c.found.place c.new
            differs (with_batches l batches) x.1 was.again.trim in
            written_so t at same was
            ∙ (λ i. write_changes t.description r.next_number moment writer c.found.place
            (map.get t.items c.found.place) c.new t.trimmed (sym number_then i)
            ((was.again.trim.lowest
            ∙ ap (lowest_left (with_batches l batches) t.description) (sym number_then)) i))

-- a table that is there is described
pub described_by : (catalog : Texts TableSchema) (name : List ℕ)
    → map.contains_key catalog name ≡ true
    → (d : TableSchema) × (map.get catalog name ≡ Some d)
described_by catalog name there = by (map.get catalog name) refl there
  where
    by : (o : Option TableSchema) → map.get catalog name ≡ o → is_some o ≡ true
        → (d : TableSchema) × (map.get catalog name ≡ Some d)
    by None e h = absurd (let f : ⊥ = cc h in f)
    by (Some d) e h = (d, e)

-- what lies before a number lies before a later one
pub within_later : (before next later : ℕ) (x : Trim) → next ≤ later → TrimIsWithin before next x
    → TrimIsWithin before later x
within_later before next later x low within = record {
  rise = within.rise;
  below = let high = within.below in omega (arith, high, low);
  left = within.left;
  differ = within.differ;
}

-- ---- one after another

-- The first of the writes of a state are got ready, and those of the changes that are left come behind them.
pub record AreUnderWay (l : Layout) (s : State) (moment : ℕ) (writer : Writer) (all rest : List ItemChange)
    (notes : List Noted) (batches : List (List RowChange)) : Type 0 where
  pub state : State
  pub ahead : IsStateAhead l s moment notes batches state
  pub found : Every (IsFound state) rest
  pub last : last_state s (writes_of_all_by s moment writer (each written_at all))
      ≡ last_state state (writes_of_all_by state moment writer (each written_at rest))
  pub rows : batches_of l s moment writer (each written_at all) ≡ batches
      ++ batches_of (with_batches l batches) state moment writer (each written_at rest)

-- before the first none is
pub none_staged : (l : Layout) (s : State) (moment : ℕ) (writer : Writer) (all rest : List ItemChange) → rest ≡ all
    → Every (IsFound s) all → (a : DiskState) (old : Tables) → Stands a old s
    → AreUnderWay l s moment writer all rest [] []
none_staged l s moment writer all rest same found a old stands = record {
  state = s;
  ahead = none_ahead l s moment stands.valid stands.rows.held;
  found = subst (Every (IsFound s)) (sym same) found;
  last = ap (λ cs. last_state s (writes_of_all_by s moment writer (each written_at cs))) (sym same);
  rows = ap (λ cs. batches_of l s moment writer (each written_at cs)) (sym same);
}

module _ (l : Layout) (s : State) (moment : ℕ) (writer : Writer) (all rest : List ItemChange) (c : ItemChange)
    (before after : Staged)
    (so : AreUnderWay l s moment writer all (c ∷ rest) before.notes.items before.batches.items)
    (apart : AreAllApart (each written_at (c ∷ rest))) (differ : Differs c)
    (on : IsStagedOn l s moment writer c so.state before after) where
  -- one more is
  pub staged_more : AreUnderWay l s moment writer all rest after.notes.items after.batches.items
  staged_more =
      let r : State = so.state in
      let t : Table = on.table in
      let then : State = after_item_by r moment writer c.table t c.found.place c.new in
      let made : writes_of_by r moment writer (written_at c) ≡ then ∷ [] =
      differ_one r moment writer c so.found.0 differ t on.there in
      let batch : List RowChange =
      batch_of (with_batches l before.batches.items) r moment writer t (written_at c) in
      let by_rows = differ_rows r moment writer c so.found.0 (with_batches l before.batches.items) differ t
      on.there in
      let ws : List PlacedWrite = each written_at rest in
      record {
        state = then;
        ahead = on.ahead;
        found = subst (λ xs. Every (IsFound (last_state r xs)) rest) made
            (stay_found r moment writer (written_at c) rest apart.0 so.found.1);
        last = so.last
            ∙ ap (λ xs. last_state r (xs ++ writes_of_all_by (last_state r xs) moment writer ws)) made;
        rows = so.rows
            ∙ (λ i. before.batches.items ++ (by_rows i
            ++ batches_of (with_batches (with_batches l before.batches.items) (by_rows i))
            (last_state r (made i)) moment writer ws))
            ∙ sym (append_assoc before.batches.items (batch ∷ [])
            (batches_of (with_batches (with_batches l before.batches.items) (batch ∷ [])) then moment
            writer ws))
            ∙ ap (λ m. (before.batches.items ++ batch ∷ []) ++ batches_of m then moment writer ws)
            (sym (with_batches-append l before.batches.items (batch ∷ [])))
            ∙ ap (λ bs. bs ++ batches_of (with_batches l bs) then moment writer ws) (sym on.batches);
      }

-- and so are all
pub all_staged : (l : Layout) (s : State) (moment : ℕ) (writer : Writer) (all : List ItemChange) (r : Staged)
    → AreUnderWay l s moment writer all [] r.notes.items r.batches.items
    → IsStaged l s moment writer (each written_at all) r
all_staged l s moment writer all r so = record {
  batches = sym (so.rows ∙ append-nil r.batches.items);
  ahead = subst (IsStateAhead l s moment r.notes.items r.batches.items) (sym so.last) so.ahead;
}

-- ---- in the call that gets them ready

-- The first of the changes are got ready by calls that read alone.
pub record IsStaging (a : DiskState) (old : Tables) (b : DiskState) (now : Tables) (moment : ℕ) (writer : Writer)
    (all rest : List ItemChange) (staged : Staged) : Type 0 where
  pub keeps : KeepsTables a b old now
  pub may : Every (MayWrite (catalog_of old)) (each written_at rest)
  pub apart : AreAllApart (each written_at rest)
  pub differ : Every Differs rest
  pub distinct : BatchesAreDistinct staged.batches.items
  pub count : length staged.batches.items + length rest ≡ length all
  pub notes : AreNotes (catalog_of old) (next_write_of_tables old) staged.notes.items
  pub told : (due : Due) → KeepsKnown (due_of now) due
      → Every (ForeseesWritten (catalog_of old) due) (each written_at rest)
      → Every (ForeseesWritten (catalog_of old) due) (each written_at all)
  pub fits : (most : ℕ) → largest_of now ≤ most → FitsWrites most (each written_at rest)
      → FitsWrites most (each written_at all)
  pub so : (s : State) (l : Layout) → Stands a old s → HasRows a old l
      → AreUnderWay l s moment writer all rest staged.notes.items staged.batches.items

-- before the first of them none is
pub staging_none : (a : DiskState) (old : Tables) (moment : ℕ) (writer : Writer)
    (all rest : List ItemChange) (staged : Staged) → rest ≡ all → staged.batches.items ≡ []
    → staged.notes.items ≡ [] → Every (MayWrite (catalog_of old)) (each written_at all)
    → AreAllApart (each written_at all) → Every Differs all
    → ((s : State) → Stands a old s → Every (IsFound s) all)
    → IsStaging a old a old moment writer all rest staged
staging_none a old moment writer all rest staged same empty none may apart differ found =
    subst (λ cs. IsStaging a old a old moment writer all cs staged) (sym same) (record {
      keeps = keeps_nothing a old;
      may = may;
      apart = apart;
      differ = differ;
      distinct = subst BatchesAreDistinct (sym empty) tt;
      count = let e : length staged.batches.items ≡ 0 = ap length empty in omega (arith, e);
      notes = subst (AreNotes (catalog_of old) (next_write_of_tables old)) (sym none) tt;
      told = λ due keeps h. h;
      fits = λ most up h. h;
      so = λ s l stands rows. subst (λ bs. AreUnderWay l s moment writer all all
          staged.notes.items bs) (sym empty)
          (subst (λ ns. AreUnderWay l s moment writer all all ns []) (sym none)
          (none_staged l s moment writer all all refl (found s stands) a old stands));
    })

-- one more is
pub staging_more : (a b d : DiskState) (old now new : Tables) (moment : ℕ) (writer : Writer)
    (all rest : List ItemChange) (c : ItemChange) (x y : Staged)
    → IsStaging a old b now moment writer all (c ∷ rest) x → KeepsTables b d now new
    → ((s r : State) (l : Layout) → Stands b now s → HasRows b now l
    → BatchesAreDistinct x.batches.items → IsStateAhead l s moment x.notes.items x.batches.items r
    → IsFound r c → IsStagedOn l s moment writer c r x y)
    → BatchesAreDistinct y.batches.items → length y.batches.items ≡ length x.batches.items + 1
    → AreNotes (catalog_of now) (next_write_of_tables now) y.notes.items
    → ForeseesWritten (catalog_of now) (due_of new) (written_at c)
    → FitsWrite (largest_of new) (written_at c).new
    → IsStaging a old d new moment writer all rest y
staging_more a b d old now new moment writer all rest c x y so keeps on distinct count notes told fits = record {
  keeps = keeps_then a b d old now new so.keeps keeps;
  may = so.may.1;
  apart = so.apart.1;
  differ = so.differ.1;
  distinct = distinct;
  count = let before = so.count in omega (arith, before, count);
  notes = subst (λ n. AreNotes (catalog_of old) n y.notes.items) so.keeps.number
      (subst (λ (m : Texts TableSchema). AreNotes m (next_write_of_tables now) y.notes.items)
      so.keeps.catalog notes);
  told = λ due on h. so.told due
      (λ moment spot knows. on moment spot (keeps.due moment spot knows)) (
        written_on (catalog_of old) new.due due on (written_at c)
            (subst (λ (m : Texts TableSchema). ForeseesWritten m (due_of new) (written_at c))
            so.keeps.catalog told),
        h,
      );
  fits = λ most up h. so.fits most (le_trans keeps.largest up)
      (fits_up new.largest most up c.new fits, h);
  so = λ s l stands rows.
      let under = so.so s l stands rows in
      staged_more l s moment writer all rest c x y under so.apart so.differ.0
      (on s under.state l (stands_kept a b old now so.keeps s stands)
      (rows_kept a b old now so.keeps stands.rows.trusted l rows) so.distinct under.ahead
      under.found.0);
}

-- ---- the tables behind them

module _ (a b : DiskState) (old new : Tables) (s r : State) (stands : Stands a old s) (moment : ℕ)
    (notes : List Noted) (batches : List (List RowChange))
    (ahead : IsStateAhead stands.rows.layout s moment notes batches r)
    (noted : AreKnown (catalog_of old) moment notes (trimmed_of old) (trimmed_of new)
    (fronts_of old) (fronts_of new)) (due : Foresees r.tables (due_of new))
    (fits : EachItem (ItemFits (largest_of new)) r.tables) where
  changes_of : (u : State) → IsValid u → (q : List ℕ) (t : Table) → map.get u.tables q ≡ Some t
      → (k : ℕ) × AreChanges t.description k t.trimmed t.changes
  changes_of u valid q t at = (u.next_number, (valid.tables q t at).changes)

  -- They stand for the state after them.
  pub stand_behind : EngineHoldsState b new.engine r
      → HasRows b new (with_batches stands.rows.layout batches) → new.catalog ≡ old.catalog
      → new.live ≡ old.live → new.family ≡ old.family
      → new.builds ≡ old.builds → next_write_of_tables new ≡ next_write_of_tables old + length batches
      → Stands b new r
  stand_behind holds rows catalog live family builds number = record {
    catalog = catalog ∙ stands.catalog ∙ sym ahead.catalog;
    number = number ∙ ap (λ n. n + length batches) stands.number ∙ sym ahead.number;
    family = family ∙ stands.family ∙ sym ahead.family;
    live = still_live old.catalog new.catalog old.live new.live catalog live stands.live;
    trimmed = trimmed_all stands.rows.layout (with_batches stands.rows.layout batches) moment
        s.tables r.tables notes ahead.tables (catalog_of old)
        (ahead_known a old s stands stands.rows.layout moment notes batches r ahead)
        (λ q t at. known a old s q t stands at) (trimmed_of old) (trimmed_of new) (fronts_of old)
        (fronts_of new) noted stands.trimmed;
    rows = holds;
    fronts = λ m has. subst (λ x. AreFronts x r.tables (fronts_of new))
        (one_layout_in_hand b new.engine (with_batches stands.rows.layout batches) m rows has)
        (fronts_all stands.rows.layout (with_batches stands.rows.layout batches) moment s.tables
        r.tables notes ahead.tables (catalog_of old)
        (ahead_known a old s stands stands.rows.layout moment notes batches r ahead)
        (λ q t at. known a old s q t stands at) (trimmed_of old) (trimmed_of new) (fronts_of old)
        (fronts_of new) noted (changes_of r ahead.turns.valid) (changes_of s stands.valid)
        (stands.fronts stands.rows.layout stands.rows.is));
    due = due;
    sized = sized_valid r ahead.turns.valid (largest_of new) fits;
    builds = none_on old new catalog builds stands.builds;
    valid = ahead.turns.valid;
  }

-- ---- together

-- where there are writes, they make the last state lasting
pub together_last : (s : State) (ws : List State) → 1 ≤ length ws
    → together s ws ≡ last_state s ws ∷ []
together_last s [] some = absurd (omega (arith, some))
together_last s (t ∷ ts) some = refl
