-- The write that gives a table an index more or less: what it leaves is what the machine's leaves.
use Rattle.std.proofs.Common.{◌≡◌, ◌≢◌, ◌≤◌, ◌<◌, refl, sym, ap, subst, ◌∙◌, ℕ, ◌+◌, ◌&&◌, ◌||◌, Bool, true, false, cond, nat_le, T, List, [], ◌∷◌, Some, None, inl, inr, All, Contains, arith}
use Rattle.std.specs.Prelude.{◌==◌, if◌then◌else◌}
use Rattle.std.specs.FinMap as map
use Rattle.std.specs.List.{list_any}
use Rattle.std.specs.Ordering.{eq_by_cmp}
use Rattle.std.proofs.lemmas.Bool.{false≢true, le-leb, leb-true}
use Rattle.std.proofs.lemmas.Bool.Decides.{nat_tests}
use Rattle.std.proofs.lemmas.List.Elements.{All-cons, All-head, All-nil, All-tail}
use Rattle.std.proofs.lemmas.Option.{same_Some}
use Rattle.alt_cells.specs.Batches.{is_distinct}
use Rattle.alt_cells.specs.declared.batch.RowChange.{RowChange}
use Rattle.alt_cells.proofs.SameKeys.{one_key}
use Rattle.alt_disk.specs.Disk.{DiskState}
use Rattle.alt_layout.specs.Layout.{Layout}
use Rattle.alt_machine.specs.Ops.UpdateTable.{redescribed, with_description}
use Rattle.alt_machine.specs.Outcomes.{Wants, a_family, a_number}
use Rattle.alt_machine.specs.State.{State, Table, Texts, families_of}
use Rattle.alt_machine.specs.Valid.{IsMade, IsValid}
use Rattle.alt_machine.specs.Wanted.{lack_of}
use Rattle.alt_machine.specs.declared.TheConstants.{FAMILIES_END, NUMBERS_END}
use Rattle.alt_machine.proofs.Added.{differ_added}
use Rattle.alt_machine.proofs.Lacks.{has_number, lacks_number}
use Rattle.alt_machine.proofs.Removed.{differ_removed}
use Rattle.alt_schemabytes.specs.Held.{IsHeld}
use Rattle.alt_schema.specs.declared.schema.TableSchema.{TableSchema}
use Rattle.alt_value.specs.Members.{text_order}
use Rattle.alt_value.proofs.Texts.{text_total}
use Rattle.alt_rowchanges.specs.OpeningFamilies.{HasOwnFamilies}
use Rattle.alt_rowchanges.specs.OpeningLive.{with_all, without_all}
use Rattle.alt_rowchanges.specs.OpeningOpened.{EngineHoldsState}
use Rattle.alt_rowchanges.proofs.OpeningLiveLaws.{live_replace}
use Rattle.alt_rowchanges.proofs.OpeningTrimmedLaws.{trimmed-stay}
use Rattle.alt_rowchanges.specs.Altering.{MayAlter, alter_wants, family_left, has_more}
use Rattle.alt_tables.specs.Foreseen.{Foresees}
use Rattle.alt_rowchanges.specs.Fronts.{AreFronts, IsFront}
use Rattle.alt_rowchanges.specs.RowChanges.{Turns, alter_changes, changed_rows}
use Rattle.alt_tables.specs.Stands.{HasRows, Stands, catalog_of, fronts_of, next_write_of_tables, trimmed_of}
use Rattle.alt_rowchanges.specs.declared.fronts.Front.{Front}
use Rattle.alt_tables.specs.declared.tables.Tables.{Tables}
use Rattle.alt_rowchanges.proofs.AlterLaws.{alter_turns, alter_valid, is_longer}
use Rattle.alt_tables.proofs.Foreseen.{foresees_redescribed}
use Rattle.alt_tables.proofs.Making.{fronts_of_rows}
use Rattle.alt_tables.proofs.TableMaking.{OfCatalog, catalog_fronts}
use Rattle.alt_tables.proofs.Standing.{descriptions-insert, known, still_live, still_trimmed, there}
use Rattle.alt_tables.proofs.Sizing.{each_alike, largest_is}
use Rattle.alt_value.specs.Size.{item_size}

-- what is known of fronts is so of the tables with another description of one of them, with the same stream
pub fronts_described : (l : Layout) (tables : Texts Table) (known : List Front) (name : List ℕ)
    (t : Table) (e : TableSchema) → e.stream_family ≡ t.description.stream_family
    → map.get tables name ≡ Some t → AreFronts l tables known
    → AreFronts l (map.insert tables name (redescribed e t)) known
fronts_described l tables known name t e stream at are q f told =
    let (v, at_v, front) = are q f told in
    by v at_v front (eq_by_cmp text_order q name) refl
    (map.get-insert text_total tables name (redescribed e t) q)
  where
    -- the front of the table itself
    own : IsFront l t f → IsFront l (redescribed e t) f
    own front = record {
      oldest = front.oldest;
      low = front.low;
      above = λ family told. front.above family (sym stream ∙ told);
    }

    by : (v : Table) → map.get tables q ≡ Some v → IsFront l v f → (b : Bool)
        → eq_by_cmp text_order q name ≡ b
        → map.get (map.insert tables name (redescribed e t)) q
        ≡ cond b (Some (redescribed e t)) (map.get tables q)
        → (u : Table) × (map.get (map.insert tables name (redescribed e t)) q ≡ Some u)
        × IsFront l u f
    by v at_v front true tie is = (
      redescribed e t,
      is,
      own (subst (λ (x : Table). IsFront l x f)
          (same_Some _ _ (sym at_v ∙ ap (map.get tables) (one_key q name tie) ∙ at)) front),
    )
    by v at_v front false tie is = (v, is ∙ at_v, front)

-- one that may take the place of another has its stream, its time to live and its name
pub same_stream : (f : ℕ) (d e : TableSchema) → MayAlter f d e
    → e.stream_family ≡ d.stream_family
same_stream f d e (inl more) = ap (λ (x : TableSchema). x.stream_family) more.is
same_stream f d e (inr less) = ap (λ (x : TableSchema). x.stream_family) less.is

same_time : (f : ℕ) (d e : TableSchema) → MayAlter f d e → e.ttl ≡ d.ttl
same_time f d e (inl more) = ap (λ (x : TableSchema). x.ttl) more.is
same_time f d e (inr less) = ap (λ (x : TableSchema). x.ttl) less.is

pub same_name : (f : ℕ) (d e : TableSchema) → MayAlter f d e → e.name ≡ d.name
same_name f d e (inl more) = ap (λ (x : TableSchema). x.name) more.is
same_name f d e (inr less) = ap (λ (x : TableSchema). x.name) less.is

-- no family of these is one
apart_of : (f : ℕ) (fs : List ℕ) → list_any (λ g. g == f) fs ≡ false → All (λ g. g ≢ f) fs
apart_of f [] none = All-nil (λ g. g ≢ f)
apart_of f (g ∷ gs) none = All-cons (λ g. g ≢ f) g gs (first (g == f) refl none)
    (apart_of f gs (rest (g == f) none))
  where
    differ : (g == f) ≡ false → g ≢ f
    differ h same = absurd (grind (arith, nat_tests))

    first : (b : Bool) → (g == f) ≡ b → (b || list_any (λ h. h == f) gs) ≡ false → g ≢ f
    first true h k = absurd (let no : ⊥ = cc in no)
    first false h k = differ h

    rest : (b : Bool) → (b || list_any (λ h. h == f) gs) ≡ false
        → list_any (λ h. h == f) gs ≡ false
    rest true k = absurd (let no : ⊥ = cc in no)
    rest false k = k

-- The families of such a description differ, where the new one is none of those of before.
pub own_families : (f : ℕ) (d e : TableSchema) → MayAlter f d e → HasOwnFamilies d
    → (has_more d e ≡ true → list_any (λ g. g == f) (families_of d) ≡ false)
    → HasOwnFamilies e
own_families f d e (inl more) own free = subst HasOwnFamilies (sym more.is)
    (differ_added d more.definitions f more.index
    (apart_of f (families_of d)
    (free (ap (has_more d) more.is ∙ is_longer d more.definitions f more.index))) own)
own_families f d e (inr less) own free = subst HasOwnFamilies (sym less.is)
    (differ_removed d less.name own)

-- ---- what the write lacks

module _ (b : Bool) (s : State) where
  abbrev wants : Wants
  wants = if b then a_family else a_number

  -- a number
  lacks_number_for : NUMBERS_END ≤ s.next_number → lack_of wants s ≡ Some s.next_number
  lacks_number_for h = by b
    where
      by : (c : Bool) → lack_of (if c then a_family else a_number) s ≡ Some s.next_number
      by true = ap (λ e. if e then Some s.next_number
          else (if nat_le FAMILIES_END s.next_family then Some s.next_family else None))
          (le-leb NUMBERS_END s.next_number h)
      by false = lacks_number s.next_number h

  -- where there is one, what an index more wants is a family
  with_number : b ≡ true → s.next_number < NUMBERS_END → lack_of wants s
      ≡ (if nat_le FAMILIES_END s.next_family then Some s.next_family else None)
  with_number more room = ap (λ c. lack_of (if c then a_family else a_number) s) more
      ∙ by (nat_le NUMBERS_END s.next_number) refl
    where
      by : (c : Bool) → nat_le NUMBERS_END s.next_number ≡ c → (if c then Some s.next_number
          else (if nat_le FAMILIES_END s.next_family then Some s.next_family else None))
          ≡ (if nat_le FAMILIES_END s.next_family then Some s.next_family else None)
      by true e = absurd (let full = leb-true NUMBERS_END s.next_number e in omega (arith, full, room))
      by false e = refl

  -- and else nothing
  has_number_for : b ≡ false → s.next_number < NUMBERS_END → lack_of wants s ≡ None
  has_number_for fewer room = ap (λ c. lack_of (if c then a_family else a_number) s) fewer
      ∙ has_number s.next_number room

-- none of the families of a table of a state comes next
none_next : (fs : List ℕ) (next : ℕ) → All (λ f. (1 ≤ f) × (f < next)) fs
    → list_any (λ f. f == next) fs ≡ false
none_next [] next below = refl
none_next (f ∷ fs) next below = by (f == next) refl
    (none_next fs next (All-tail (λ g. (1 ≤ g) × (g < next)) f fs below))
  where
    by : (b : Bool) → (f == next) ≡ b → list_any (λ g. g == next) fs ≡ false
        → (b || list_any (λ g. g == next) fs) ≡ false
    by true same rest =
        let low = (All-head (λ g. (1 ≤ g) × (g < next)) f fs below).1 in
        let one : f ≡ next = grind (arith, nat_tests) in absurd (omega (arith, low, one))
    by false other rest = rest

-- where an index more doesn't lack a family, that is none of the table's
pub is_free : (lacks more full has : Bool) → lacks ≡ (more && (full || has)) → lacks ≡ false
    → more ≡ true → has ≡ false
is_free lacks false full has is none more_is = absurd (let no : false ≡ true = more_is in cc no)
is_free lacks true true has is none more_is = absurd (let no : true ≡ false = sym is ∙ none in cc no)
is_free lacks true false has is none more_is = sym is ∙ none

module _ (before : DiskState) (old : Tables) (s : State) (stands : Stands before old s)
    (name : List ℕ) (t : Table) (at : map.get s.tables name ≡ Some t) (e : TableSchema)
    (named : e.name ≡ name) (d : TableSchema) (described : map.get (catalog_of old) name ≡ Some d)
    (may : MayAlter old.family d e) where
  same : t.description ≡ d
  same = same_Some _ _ (sym (known before old s name t stands at) ∙ described)

  abbrev more : Bool
  more = has_more t.description e

  more_same : has_more d e ≡ more
  more_same = λ i. has_more (sym same i) e

  -- where numbers have ended the write lacks one
  pub alter_number : (n : ℕ) → n ≡ next_write_of_tables old → NUMBERS_END ≤ n
      → lack_of (alter_wants t.description e) s ≡ Some n
  alter_number n is full =
      lacks_number_for more s (let next = stands.number in omega (arith, is, full, next))
      ∙ ap (λ k. Some k) (sym (is ∙ stands.number))

  -- and where families have, an index more lacks one
  pub alter_family : (lacks : Bool) → lacks ≡ (has_more d e && (nat_le FAMILIES_END old.family
      || list_any (λ f. f == old.family) (families_of d))) → lacks ≡ true
      → next_write_of_tables old < NUMBERS_END → lack_of (alter_wants t.description e) s ≡ Some old.family
  alter_family lacks is told room = by (has_more d e) refl (nat_le FAMILIES_END old.family) refl
      (sym is ∙ told)
    where
      none : list_any (λ f. f == old.family) (families_of d) ≡ false
      none = (λ i. list_any (λ f. f == stands.family i) (families_of (sym same i)))
          ∙ none_next (families_of t.description) s.next_family
          (stands.valid.tables name t at).families

      by : (b : Bool) → has_more d e ≡ b → (c : Bool) → nat_le FAMILIES_END old.family ≡ c
          → (b && (c || list_any (λ f. f == old.family) (families_of d))) ≡ true
          → lack_of (alter_wants t.description e) s ≡ Some old.family
      by false more_is c full g = absurd (let no : false ≡ true = g in cc no)
      by true more_is false full g = absurd (false≢true (sym none ∙ g))
      by true more_is true full g =
          with_number more s (sym more_same ∙ more_is)
          (let next = stands.number in omega (arith, next, room))
          ∙ ap (λ f. if nat_le FAMILIES_END f then Some f else None) (sym stands.family)
          ∙ ap (λ b. if b then Some old.family else None) full

  -- else it lacks nothing
  pub alter_enough : (lacks : Bool) → lacks ≡ (has_more d e && (nat_le FAMILIES_END old.family
      || list_any (λ f. f == old.family) (families_of d))) → lacks ≡ false
      → next_write_of_tables old < NUMBERS_END → lack_of (alter_wants t.description e) s ≡ None
  alter_enough lacks is told room = by (has_more d e) refl (nat_le FAMILIES_END old.family) refl
      (sym is ∙ told)
    where
      here : s.next_number < NUMBERS_END
      here = let next = stands.number in omega (arith, next, room)

      by : (b : Bool) → has_more d e ≡ b → (c : Bool) → nat_le FAMILIES_END old.family ≡ c
          → (b && (c || list_any (λ f. f == old.family) (families_of d))) ≡ false
          → lack_of (alter_wants t.description e) s ≡ None
      by false more_is c full g = has_number_for more s (sym more_same ∙ more_is) here
      by true more_is true full g = absurd (let no : true ≡ false = g in cc no)
      by true more_is false full g =
          with_number more s (sym more_same ∙ more_is) here
          ∙ ap (λ f. if nat_le FAMILIES_END f then Some f else None) (sym stands.family)
          ∙ ap (λ b. if b then Some old.family else None) full

  may_state : MayAlter s.next_family t.description e
  may_state = subst (λ f. MayAlter f t.description e) stands.family
      (subst (λ (x : TableSchema). MayAlter old.family x e) (sym same) may)

  -- what is left of the next family
  left_same : family_left old.family d e ≡ family_left s.next_family t.description e
  left_same = λ i. family_left (stands.family i) (sym same i) e

  abbrev r : State
  r = with_description s name t e (family_left s.next_family t.description e)

  module _ (after : ℕ) (left_is : after ≡ family_left old.family d e) (batch : List RowChange)
      (is : batch ≡ alter_changes old.family after d e) where
    batch_is : batch ≡ alter_changes s.next_family (family_left s.next_family t.description e)
        t.description e
    batch_is = is
        ∙ (λ i. alter_changes (stands.family i) ((left_is ∙ left_same) i) (sym same i) e)

    -- its row changes turn the state into the one with it
    pub alter_turned : IsMade e → IsHeld e → lack_of (alter_wants t.description e) s ≡ None
        → Turns batch s r
    alter_turned made held enough = subst (λ cs. Turns cs s r) (sym batch_is)
        (alter_turns s name t at stands.valid stands.rows.held e may_state held
        (alter_valid s name t at stands.valid stands.rows.held e may_state made enough))

    -- the tables stand for it
    pub alter_stands : (now : DiskState) (new : Tables) → EngineHoldsState now new.engine r → IsValid r
        → new.catalog ≡ map.insert old.catalog e.name e
        → new.live ≡ with_all (families_of e) (without_all (families_of d) old.live)
        → new.family ≡ after → new.trimmed ≡ old.trimmed
        → new.fronts ≡ old.fronts → new.due ≡ old.due → new.largest ≡ old.largest
        → new.builds ≡ true
        → next_write_of_tables new ≡ next_write_of_tables old + 1 → T (is_distinct batch)
        → HasRows now new (changed_rows stands.rows.layout batch) → Stands now new r
    alter_stands now new holds valid catalog live family trimmed fronts due largest builds number distinct rows =
        record {
          catalog = catalog
              ∙ (λ i. map.insert (stands.catalog i) (named i) e)
              ∙ sym (descriptions-insert s.tables name (redescribed e t));
          number = number ∙ ap (λ n. n + 1) stands.number;
          family = family ∙ left_is ∙ left_same;
          live = still_live (map.insert old.catalog name e) new.catalog
              (with_all (families_of e) (without_all (families_of d) old.live)) new.live
              (catalog ∙ ap (λ n. map.insert old.catalog n e) named) live
              (live_replace old.catalog old.live stands.live d e name described named
              (λ other x f at_x apart of_other own.
              let (u, there_u, same_u) = there before old s other x stands at_x in
              apart (stands.valid.families other name u t f there_u at
              (subst (λ (y : TableSchema). Contains (families_of y) f) (sym same_u) of_other)
              (subst (λ (y : TableSchema). Contains (families_of y) f) (sym same) own))));
          trimmed = still_trimmed (map.insert s.tables name (redescribed e t)) old new trimmed
              (trimmed-stay s.tables name (trimmed_of old) stands.trimmed t (redescribed e t) at refl);
          rows = holds;
          fronts = fronts_of_rows now new (changed_rows stands.rows.layout batch)
              (map.insert s.tables name (redescribed e t)) rows
              (subst (λ known. AreFronts (changed_rows stands.rows.layout batch)
              (map.insert s.tables name (redescribed e t)) known.items) (sym fronts)
              (fronts_described (changed_rows stands.rows.layout batch) s.tables (fronts_of old) name t
              e (same_stream s.next_family t.description e may_state) at
              (catalog_fronts before old s stands batch distinct
              (subst OfCatalog (sym is) (refl, (refl, tt))))));
          due = subst (Foresees (map.insert s.tables name (redescribed e t))) (sym due)
              (foresees_redescribed s.tables name old.due stands.due t at e
              (same_time s.next_family t.description e may_state));
          sized = largest_is (map.insert s.tables name (redescribed e t)) old.largest new.largest largest
              (each_alike (λ item. item_size item ≤ old.largest) s.tables name stands.sized t
              (redescribed e t) at refl);
          builds = λ none. absurd (false≢true (sym none ∙ builds));
          valid = valid;
        }
