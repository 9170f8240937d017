-- Changes that leave what was found: without them the writes of the others are the same, and so are their row changes.
use Rattle.std.proofs.Common.{◌≡◌, refl, sym, ap, ◌∙◌, ℕ, suc, Bool, true, false, cond, List, [], ◌∷◌, ◌++◌, length, map, Option, Some, None, is_some, inl, inr}
use Rattle.std.specs.Prelude.{if◌then◌else◌, not}
use Rattle.std.specs.FinMap as finite
use Rattle.std.specs.Option.{option_map_or}
use Rattle.alt_codec.specs.declared.writer.Writer.{Writer}
use Rattle.alt_layout.specs.Layout.{Layout}
use Rattle.alt_machine.specs.Ops.BatchWriteItem.{PlacedWrite, writes_of_by, writes_of_all_by}
use Rattle.alt_machine.specs.Outcomes.{last_state}
use Rattle.alt_machine.specs.Same.{is_same}
use Rattle.alt_machine.specs.State.{State, Table, Texts, descriptions}
use Rattle.alt_machine.specs.Writes.{with_item, with_write_by, after_item_by, item_writes_by}
use Rattle.alt_machine.proofs.Descriptions.{table_of_description}
use Rattle.alt_machine.proofs.Looks.{at_insert, insert_elsewhere, remove_elsewhere}
use Rattle.alt_tables.specs.Found.{IsFoundInTable}
use Rattle.alt_tables.specs.Several.{AreAllApart, AreApart, Every, IsFound, batch_of, batches_by, batches_in, batches_of, with_batches, written_at}
use Rattle.alt_tables.specs.declared.finding.Found.{Found}
use Rattle.alt_tables.specs.declared.several.ItemChange.{ItemChange}
use Rattle.alt_tables.specs.private.Staging.{Differs, differing_of}
use Rattle.alt_tables.proofs.Standing.{descriptions-stay}
use Rattle.alt_schema.specs.declared.schema.TableSchema.{TableSchema}
use Rattle.alt_value.specs.Tree.{Pair}

-- ---- what was found elsewhere stays

-- at another place a table has what it had
other_item : (items : Texts (List Pair)) (place q : List ℕ) (new : Option (List Pair))
    → (q ≡ place → ⊥) → finite.get (with_item items place new) q ≡ finite.get items q
other_item items place q None apart = remove_elsewhere items place q apart
other_item items place q (Some i) apart = insert_elsewhere items place q apart i

module _ (s : State) (moment : ℕ) (writer : Writer) (w : PlacedWrite) (name : List ℕ) (f : Found)
    (apart : w.table ≡ name → w.place ≡ f.place → ⊥) (found : IsFoundInTable s name f) where
  -- what was found at a place stands there after a write to another table or place
  after_write_found : (t : Table) → finite.get s.tables w.table ≡ Some t
      → IsFoundInTable (after_item_by s moment writer w.table t w.place w.new) name f
  after_write_found t there u e =
      elim (at_insert s.tables w.table name u (with_write_by s.next_number moment writer t w.place w.new) e) [
        | inl new ↦ found t (ap (finite.get s.tables) new.0 ∙ there)
            ∙ sym (other_item t.items w.place f.place w.new (λ same. apart (sym new.0) (sym same)))
            ∙ ap (λ (x : Table). finite.get x.items f.place) new.1
        | inr old ↦ found u old
      ]

  -- and it does where the write may be none
  pub stays_found : IsFoundInTable (last_state s (writes_of_by s moment writer w)) name f
  stays_found = at (finite.get s.tables w.table) refl
    where
      made : Option Table → List State
      made o = option_map_or (λ t. item_writes_by s moment writer w.table t w.place w.new) o []

      at : (o : Option Table) → finite.get s.tables w.table ≡ o
          → IsFoundInTable (last_state s (made o)) name f
      at None e = found
      at (Some t) e = by (is_same (finite.get t.items w.place) w.new)
        where
          by : (b : Bool) → IsFoundInTable (last_state s
              (if b then [] else after_item_by s moment writer w.table t w.place w.new ∷ [])) name f
          by true = found
          by false = after_write_found t e

-- so does all that was found at the other places
pub stay_found : (s : State) (moment : ℕ) (writer : Writer) (w : PlacedWrite) (cs : List ItemChange)
    → Every (AreApart w) (map written_at cs) → Every (IsFound s) cs
    → Every (IsFound (last_state s (writes_of_by s moment writer w))) cs
stay_found s moment writer w [] apart found = tt
stay_found s moment writer w (c ∷ cs) apart found = (
  stays_found s moment writer w c.table c.found apart.0 found.0,
  stay_found s moment writer w cs apart.1 found.1,
)

-- ---- one change

module _ (s : State) (moment : ℕ) (writer : Writer) (c : ItemChange) (found : IsFound s c) where
  -- one that leaves what was found is no write, and has no row changes
  same_none : is_same c.found.item c.new ≡ true → writes_of_by s moment writer (written_at c) ≡ []
  same_none same = at (finite.get s.tables c.table) refl
    where
      at : (o : Option Table) → finite.get s.tables c.table ≡ o
          → option_map_or (λ t. item_writes_by s moment writer c.table t c.found.place c.new) o [] ≡ []
      at None e = refl
      at (Some t) e = ap (λ b. if b then []
          else after_item_by s moment writer c.table t c.found.place c.new ∷ [])
          (ap (λ i. is_same i c.new) (sym (found t e)) ∙ same)

  same_rows : (l : Layout) → is_same c.found.item c.new ≡ true
      → batches_by l s moment writer (written_at c) ≡ []
  same_rows l same = at (finite.get s.tables c.table) refl
    where
      at : (o : Option Table) → finite.get s.tables c.table ≡ o
          → batches_in l s moment writer (written_at c) o ≡ []
      at None e = refl
      at (Some t) e = ap (λ b. if b then [] else batch_of l s moment writer t (written_at c) ∷ [])
          (ap (λ i. is_same i c.new) (sym (found t e)) ∙ same)

  -- and any other is one write, with its row changes
  pub differ_one : Differs c → (t : Table) → finite.get s.tables c.table ≡ Some t
      → writes_of_by s moment writer (written_at c)
      ≡ after_item_by s moment writer c.table t c.found.place c.new ∷ []
  differ_one differ t at =
      ap (λ o. option_map_or (λ (u : Table). item_writes_by s moment writer c.table u c.found.place c.new)
      o []) at
      ∙ ap (λ b. if b then [] else after_item_by s moment writer c.table t c.found.place c.new ∷ [])
      (ap (λ i. is_same i c.new) (sym (found t at)) ∙ differ)

  pub differ_rows : (l : Layout) → Differs c → (t : Table) → finite.get s.tables c.table ≡ Some t
      → batches_by l s moment writer (written_at c) ≡ batch_of l s moment writer t (written_at c) ∷ []
  differ_rows l differ t at = ap (batches_in l s moment writer (written_at c)) at
      ∙ ap (λ b. if b then [] else batch_of l s moment writer t (written_at c) ∷ [])
      (ap (λ i. is_same i c.new) (sym (found t at)) ∙ differ)

-- ---- all of them

-- what holds of each change holds of each that differs
pub every_differing : (P : ItemChange → Type 0) (cs : List ItemChange) → Every P cs
    → Every P (differing_of cs)
every_differing P [] h = tt
every_differing P (c ∷ cs) h = by (not (is_same c.found.item c.new)) (every_differing P cs h.1)
  where
    by : (b : Bool) → Every P (differing_of cs) → Every P (cond b (c ∷ differing_of cs)
        (differing_of cs))
    by true rest = (h.0, rest)
    by false rest = rest

-- each of them does
pub all_differ : (cs : List ItemChange) → Every Differs (differing_of cs)
all_differ [] = tt
all_differ (c ∷ cs) = by (is_same c.found.item c.new) refl (all_differ cs)
  where
    by : (b : Bool) → is_same c.found.item c.new ≡ b → Every Differs (differing_of cs)
        → Every Differs (cond (not b) (c ∷ differing_of cs) (differing_of cs))
    by true e rest = rest
    by false e rest = (e, rest)

-- what is said of where changes write may be said of the changes
pub every_written : (P : PlacedWrite → Type 0) (cs : List ItemChange) → Every P (map written_at cs)
    → Every (λ (c : ItemChange). P (written_at c)) cs
every_written P [] h = tt
every_written P (c ∷ cs) h = (h.0, every_written P cs h.1)

pub every_at : (P : PlacedWrite → Type 0) (cs : List ItemChange)
    → Every (λ (c : ItemChange). P (written_at c)) cs → Every P (map written_at cs)
every_at P [] h = tt
every_at P (c ∷ cs) h = (h.0, every_at P cs h.1)

-- and they write apart
pub apart_differing : (cs : List ItemChange) → AreAllApart (map written_at cs)
    → AreAllApart (map written_at (differing_of cs))
apart_differing [] h = tt
apart_differing (c ∷ cs) h = by (not (is_same c.found.item c.new)) (apart_differing cs h.1)
  where
    by : (b : Bool) → AreAllApart (map written_at (differing_of cs))
        → AreAllApart (map written_at (cond b (c ∷ differing_of cs) (differing_of cs)))
    by true rest = (
      every_at (AreApart (written_at c)) (differing_of cs)
          (every_differing (λ (d : ItemChange). AreApart (written_at c) (written_at d)) cs
          (every_written (AreApart (written_at c)) cs h.0)),
      rest,
    )
    by false rest = rest

-- Without the others the writes are the same.
pub writes_differing : (s : State) (moment : ℕ) (writer : Writer) (cs : List ItemChange)
    → AreAllApart (map written_at cs) → Every (IsFound s) cs
    → writes_of_all_by s moment writer (map written_at cs)
    ≡ writes_of_all_by s moment writer (map written_at (differing_of cs))
writes_differing s moment writer [] apart found = refl
writes_differing s moment writer (c ∷ cs) apart found =
    by (is_same c.found.item c.new) refl
    (writes_differing (last_state s (writes_of_by s moment writer (written_at c))) moment writer cs
    apart.1
    (stay_found s moment writer (written_at c) cs apart.0 found.1))
  where
    after : State
    after = last_state s (writes_of_by s moment writer (written_at c))

    by : (b : Bool) → is_same c.found.item c.new ≡ b
        → writes_of_all_by after moment writer (map written_at cs)
        ≡ writes_of_all_by after moment writer (map written_at (differing_of cs))
        → writes_of_by s moment writer (written_at c) ++ writes_of_all_by after moment writer (map written_at cs)
        ≡ writes_of_all_by s moment writer (map written_at (cond (not b) (c ∷ differing_of cs)
        (differing_of cs)))
    by true e rest =
        let none = same_none s moment writer c found.0 e in
        ap (λ ws. ws ++ writes_of_all_by after moment writer (map written_at cs)) none
        ∙ rest
        ∙ (λ i. writes_of_all_by (last_state s (none i)) moment writer (map written_at (differing_of cs)))
    by false e rest = ap (λ ws. writes_of_by s moment writer (written_at c) ++ ws) rest

-- And so are their row changes.
pub rows_differing : (l : Layout) (s : State) (moment : ℕ) (writer : Writer) (cs : List ItemChange)
    → AreAllApart (map written_at cs) → Every (IsFound s) cs
    → batches_of l s moment writer (map written_at cs)
    ≡ batches_of l s moment writer (map written_at (differing_of cs))
rows_differing l s moment writer [] apart found = refl
rows_differing l s moment writer (c ∷ cs) apart found =
    by (is_same c.found.item c.new) refl
    (rows_differing (with_batches l (batches_by l s moment writer (written_at c)))
    (last_state s (writes_of_by s moment writer (written_at c))) moment writer cs apart.1
    (stay_found s moment writer (written_at c) cs apart.0 found.1))
  where
    after : State
    after = last_state s (writes_of_by s moment writer (written_at c))

    behind : Layout
    behind = with_batches l (batches_by l s moment writer (written_at c))

    by : (b : Bool) → is_same c.found.item c.new ≡ b
        → batches_of behind after moment writer (map written_at cs)
        ≡ batches_of behind after moment writer (map written_at (differing_of cs))
        → batches_by l s moment writer (written_at c) ++ batches_of behind after moment writer (map written_at cs)
        ≡ batches_of l s moment writer (map written_at (cond (not b) (c ∷ differing_of cs)
        (differing_of cs)))
    by true e rest =
        let none = same_none s moment writer c found.0 e in
        let bare = same_rows s moment writer c found.0 l e in
        ap (λ bs. bs ++ batches_of behind after moment writer (map written_at cs)) bare
        ∙ rest
        ∙ (λ i. batches_of (with_batches l (bare i)) (last_state s (none i)) moment
        writer (map written_at (differing_of cs)))
    by false e rest = ap (λ bs. batches_by l s moment writer (written_at c) ++ bs) rest

-- ---- how many they are

-- no write changes what describes the tables
still_described : (s : State) (moment : ℕ) (writer : Writer) (w : PlacedWrite)
    → descriptions (last_state s (writes_of_by s moment writer w)).tables ≡ descriptions s.tables
still_described s moment writer w = at (finite.get s.tables w.table) refl
  where
    at : (o : Option Table) → finite.get s.tables w.table ≡ o
        → descriptions (last_state s (option_map_or
        (λ t. item_writes_by s moment writer w.table t w.place w.new) o [])).tables ≡ descriptions s.tables
    at None e = refl
    at (Some t) e = by (is_same (finite.get t.items w.place) w.new)
      where
        by : (b : Bool) → descriptions (last_state s (if b then []
            else after_item_by s moment writer w.table t w.place w.new ∷ [])).tables
            ≡ descriptions s.tables
        by true = refl
        by false = descriptions-stay s.tables w.table t
            (with_write_by s.next_number moment writer t w.place w.new) e refl

-- Each change that differs is one write.
pub count_differing : (s : State) (moment : ℕ) (writer : Writer) (cs : List ItemChange) (catalog : Texts TableSchema)
    → catalog ≡ descriptions s.tables
    → Every (λ (c : ItemChange). finite.contains_key catalog c.table ≡ true) cs
    → AreAllApart (map written_at cs) → Every Differs cs → Every (IsFound s) cs
    → length (writes_of_all_by s moment writer (map written_at cs)) ≡ length cs
count_differing s moment writer [] catalog are there apart differ found = refl
count_differing s moment writer (c ∷ cs) catalog are there apart differ found =
    let (t, at) = its_table (finite.get catalog c.table) refl there.0 in
    let rest = count_differing (last_state s (writes_of_by s moment writer (written_at c))) moment
    writer cs catalog
    (are ∙ sym (still_described s moment writer (written_at c))) there.1 apart.1 differ.1
    (stay_found s moment writer (written_at c) cs apart.0 found.1) in
    ap (λ ws. length (ws ++ writes_of_all_by (last_state s (writes_of_by s moment writer (written_at c))) moment writer
    (map written_at cs))) (differ_one s moment writer c found.0 differ.0 t at)
    ∙ one_more (length (writes_of_all_by (last_state s (writes_of_by s moment writer (written_at c))) moment writer
    (map written_at cs))) (length cs) rest
  where
    one_more : (m n : ℕ) → m ≡ n → suc m ≡ suc n
    one_more m n e = ap suc e

    its_table : (o : Option TableSchema) → finite.get catalog c.table ≡ o → is_some o ≡ true
        → (t : Table) × (finite.get s.tables c.table ≡ Some t)
    its_table None e h = absurd (let f : ⊥ = cc h in f)
    its_table (Some d) e h =
        let (t, at, same) = table_of_description s.tables c.table d
        (ap (λ m. finite.get m c.table) (sym are) ∙ e) in (t, at)
