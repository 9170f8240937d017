-- A table that is made or dropped: what its writes leave is what the machine leaves.
use Rattle.std.proofs.Common.{◌≡◌, refl, sym, ap, subst, ◌∙◌, ℕ, ◌+◌, ◌<◌, ◌≤◌, length, T, List, [], ◌∷◌, Some, None, Contains, arith}
use Rattle.std.specs.Prelude.{IsSome}
use Rattle.std.proofs.lemmas.Bool.{false≢true}
use Rattle.std.specs.FinMap as map
use Rattle.alt_cells.specs.Batches.{is_distinct}
use Rattle.alt_cells.specs.declared.batch.RowChange.{RowChange}
use Rattle.alt_disk.specs.Disk.{DiskState}
use Rattle.alt_machine.specs.declared.TheConstants.{NUMBERS_END, FAMILIES_END, MOST_FAMILIES, MOST_TABLES}
use Rattle.alt_machine.specs.Ops.CreateTable.{with_table}
use Rattle.alt_machine.specs.Ops.DeleteTable.{without_table}
use Rattle.alt_machine.specs.Outcomes.{Wants, a_table}
use Rattle.alt_machine.specs.State.{State, Texts, new_table, families_of}
use Rattle.alt_machine.specs.Valid.{IsMade, IsValid}
use Rattle.alt_machine.specs.Wanted.{lack_of, table_lack}
use Rattle.alt_machine.proofs.Descriptions.{len-descriptions}
use Rattle.alt_machine.proofs.Lacks.{has_table, one_has}
use Rattle.alt_schema.specs.Described.{IsNew}
use Rattle.alt_schemabytes.specs.Held.{IsHeld}
use Rattle.alt_schema.specs.declared.schema.TableSchema.{TableSchema}
use Rattle.alt_tables.specs.Faults.{AreMade}
use Rattle.alt_rowchanges.specs.OpeningLive.{with_all, without_all}
use Rattle.alt_rowchanges.specs.OpeningOpened.{EngineHoldsState}
use Rattle.alt_rowchanges.proofs.OpeningLiveLaws.{live_insert, live_remove}
use Rattle.alt_rowchanges.specs.OpeningStateRows.{catalog_family}
use Rattle.alt_rowchanges.specs.OpeningTrimmed.{AreTrimmedOf, without_table_number}
use Rattle.alt_rowchanges.proofs.OpeningOverEngine.{stands_past}
use Rattle.alt_rowchanges.proofs.OpeningTrimmedLaws.{trimmed-new, trimmed-remove}
use Rattle.alt_tables.specs.Built.{NoneBuilds}
use Rattle.alt_tables.specs.Foreseen.{Foresees}
use Rattle.alt_rowchanges.specs.Fronts.{AreFronts, without_front}
use Rattle.alt_tables.specs.Stands.{HasRows, Stands, catalog_of, fronts_of, next_write_of_tables, trimmed_of}
use Rattle.alt_rowchanges.specs.RowChanges.{Turns, changed_rows, creation_changes, drop_changes}
use Rattle.alt_rowchanges.proofs.ChangeLaws.{AreOthers}
use Rattle.alt_rowchanges.proofs.Elsewhere.{shown_elsewhere}
use Rattle.alt_tables.proofs.Foreseen.{foresees_gone, foresees_new}
use Rattle.alt_rowchanges.proofs.FrontLaws.{fronts_alike, fronts_gone, fronts_new}
use Rattle.alt_tables.proofs.NoneBuilt.{none_of_whole, none_with, none_without}
use Rattle.alt_tables.specs.declared.tables.Tables.{Tables}
use Rattle.alt_rowchanges.proofs.CatalogLaws.{creation_turns, drop_turns}
use Rattle.alt_tables.proofs.Standing.{descriptions-insert, descriptions-remove, there, absent, still_live, still_trimmed}
use Rattle.alt_rowchanges.proofs.WriteLaws.{stream_within}
use Rattle.alt_tables.proofs.Sizing.{each_left, each_new, largest_is}
use Rattle.alt_tables.proofs.Making.{fronts_of_rows}
use Rattle.alt_value.specs.Size.{item_size}

-- each of the row changes is of the catalog
abbrev pub OfCatalog : List RowChange → Type 0
OfCatalog [] = Unit {0}
OfCatalog (c ∷ cs) = (c.family ≡ catalog_family) × OfCatalog cs

-- so none is of another family
catalog_others : (family : ℕ) → 1 ≤ family → (cs : List RowChange) → OfCatalog cs
    → AreOthers family cs
catalog_others family some [] of = tt
catalog_others family some (c ∷ cs) of =
    let own : c.family ≡ 0 = of.0 in (
      λ same. let e : c.family ≡ family = same in omega (arith, own, e, some),
      catalog_others family some cs of.1,
    )

module _ (before : DiskState) (old : Tables) (s : State) (stands : Stands before old s) where
  -- row changes of the catalog leave what is known of fronts
  pub catalog_fronts : (batch : List RowChange) → T (is_distinct batch) → OfCatalog batch
      → AreFronts (changed_rows stands.rows.layout batch) s.tables (fronts_of old)
  catalog_fronts batch distinct of = fronts_alike stands.rows.layout
      (changed_rows stands.rows.layout batch) s.tables (fronts_of old)
      (λ name t family at stream. shown_elsewhere stands.rows.layout batch distinct
      (stands_past before old.engine stands.rows.layout stands.rows.is) family
      (catalog_others family
      (stream_within s name t (stands.valid.tables name t at) family stream).0 batch of))
      (stands.fronts stands.rows.layout stands.rows.is)

  -- a table less
  pub drop_turned : (name : List ℕ) (d : TableSchema) (batch : List RowChange)
      → map.get (catalog_of old) name ≡ Some d → batch ≡ drop_changes d
      → next_write_of_tables old < NUMBERS_END → Turns batch s (without_table s name)
  drop_turned name d batch described is room =
      let (t, at, same) = there before old s name d stands described in
      subst (λ cs. Turns cs s (without_table s name)) (ap drop_changes same ∙ sym is)
      (drop_turns s name t stands.valid stands.rows.held (omega (arith, room, stands.number)) at)

  -- the tables stand for the state without it
  pub drop_stands : (name : List ℕ) (d : TableSchema) (now : DiskState) (new : Tables)
      → map.get (catalog_of old) name ≡ Some d
      → EngineHoldsState now new.engine (without_table s name) → IsValid (without_table s name)
      → new.catalog ≡ map.remove old.catalog name
      → new.live ≡ without_all (families_of d) old.live → new.family ≡ old.family
      → trimmed_of new ≡ without_table_number name (trimmed_of old)
      → fronts_of new ≡ without_front name (fronts_of old) → new.due ≡ old.due
      → new.largest ≡ old.largest → new.builds ≡ old.builds → next_write_of_tables new ≡ next_write_of_tables old + 1
      → (batch : List RowChange) → batch ≡ drop_changes d → T (is_distinct batch)
      → HasRows now new (changed_rows stands.rows.layout batch)
      → Stands now new (without_table s name)
  drop_stands name d now new described holds valid catalog live family trimmed fronts due largest builds number batch is
      distinct rows = record {
        catalog = catalog ∙ ap (λ (m : Texts TableSchema). map.remove m name) stands.catalog
            ∙ sym (descriptions-remove s.tables name);
        number = number ∙ ap (λ n. n + 1) stands.number;
        family = family ∙ stands.family;
        live = still_live (map.remove old.catalog name) new.catalog
            (without_all (families_of d) old.live) new.live catalog live
            (live_remove old.catalog old.live stands.live d name described
            (λ other e f at apart of_other own.
            let (t, there_t, same_t) = there before old s name d stands described in
            let (u, there_u, same_u) = there before old s other e stands at in
            apart (stands.valid.families other name u t f there_u there_t
            (subst (λ (x : TableSchema). Contains (families_of x) f) (sym same_u) of_other)
            (subst (λ (x : TableSchema). Contains (families_of x) f) (sym same_t) own))));
        trimmed = subst (AreTrimmedOf (map.remove s.tables name)) (sym trimmed)
            (trimmed-remove s.tables name (trimmed_of old) stands.trimmed);
        rows = holds;
        fronts = fronts_of_rows now new (changed_rows stands.rows.layout batch)
            (map.remove s.tables name) rows
            (subst (AreFronts (changed_rows stands.rows.layout batch) (map.remove s.tables name))
            (sym fronts)
            (fronts_gone (changed_rows stands.rows.layout batch) s.tables name (fronts_of old)
            (catalog_fronts batch distinct (subst OfCatalog (sym is) (refl, tt)))));
        due = subst (Foresees (map.remove s.tables name)) (sym due)
            (foresees_gone s.tables name old.due stands.due);
        sized = largest_is (map.remove s.tables name) old.largest new.largest largest
            (each_left (λ item. item_size item ≤ old.largest) s.tables name stands.sized);
        builds = λ none. subst NoneBuilds (sym catalog)
            (none_without old.catalog (stands.builds (sym builds ∙ none)) name);
        valid = valid;
      }

  module _ (d : TableSchema) (few : map.len (catalog_of old) < MOST_TABLES) (made : IsMade d)
      (is_new : IsNew d) (number : d.number ≡ next_write_of_tables old)
      (family : table_lack (next_write_of_tables old) old.family ≡ None → d.family ≡ old.family)
      (free : map.get (catalog_of old) d.name ≡ None) where
    -- a table more
    pub table_turned : (after : ℕ) (batch : List RowChange)
        → after ≡ old.family + length (families_of d)
        → batch ≡ creation_changes old.family after d → IsHeld d → next_write_of_tables old < NUMBERS_END
        → old.family + MOST_FAMILIES ≤ FAMILIES_END → Turns batch s (with_table s d)
    table_turned after batch counted is held room enough =
        let has : table_lack (next_write_of_tables old) old.family ≡ None =
        has_table (next_write_of_tables old) old.family room enough in
        subst (λ cs. Turns cs s (with_table s d))
        (ap (λ f. creation_changes f after d) (sym stands.family) ∙ sym is)
        (creation_turns s d after (counted ∙ ap (λ f. f + length (families_of d)) stands.family)
        stands.valid stands.rows.held
        (absent before old s d.name stands free) made is_new held (number ∙ stands.number)
        (family has ∙ stands.family)
        (omega (arith, few, len-descriptions s.tables, ap map.len stands.catalog))
        (omega (arith, room, stands.number), omega (arith, enough, stands.family)))

    -- the tables stand for the state with it
    pub table_stands : (now : DiskState) (new : Tables) → EngineHoldsState now new.engine (with_table s d)
        → IsValid (with_table s d) → new.catalog ≡ map.insert old.catalog d.name d
        → new.live ≡ with_all (families_of d) old.live
        → new.family ≡ old.family + length (families_of d) → new.trimmed ≡ old.trimmed
        → new.fronts ≡ old.fronts → new.due ≡ old.due → new.largest ≡ old.largest
        → new.builds ≡ old.builds
        → next_write_of_tables new ≡ next_write_of_tables old + 1
        → (next : ℕ) (batch : List RowChange) → batch ≡ creation_changes old.family next d
        → T (is_distinct batch) → HasRows now new (changed_rows stands.rows.layout batch)
        → Stands now new (with_table s d)
    table_stands now new holds valid catalog live families trimmed fronts due largest builds numbers next batch is
        distinct rows = record {
          catalog = catalog ∙ ap (λ (m : Texts TableSchema). map.insert m d.name d) stands.catalog
              ∙ sym (descriptions-insert s.tables d.name (new_table d));
          number = numbers ∙ ap (λ n. n + 1) stands.number;
          family = families ∙ ap (λ n. n + length (families_of d)) stands.family;
          live = still_live (map.insert old.catalog d.name d) new.catalog
              (with_all (families_of d) old.live) new.live catalog live
              (live_insert old.catalog old.live stands.live d free);
          trimmed = still_trimmed (map.insert s.tables d.name (new_table d)) old new trimmed
              (trimmed-new s.tables d.name (trimmed_of old) stands.trimmed (new_table d)
              (absent before old s d.name stands free) refl);
          rows = holds;
          fronts = fronts_of_rows now new (changed_rows stands.rows.layout batch)
              (map.insert s.tables d.name (new_table d)) rows
              (subst (λ known. AreFronts (changed_rows stands.rows.layout batch)
              (map.insert s.tables d.name (new_table d)) known.items) (sym fronts)
              (fronts_new (changed_rows stands.rows.layout batch) s.tables d.name (fronts_of old)
              (catalog_fronts batch distinct (subst OfCatalog (sym is) (refl, (refl, tt))))
              (new_table d) (absent before old s d.name stands free)));
          due = subst (Foresees (map.insert s.tables d.name (new_table d))) (sym due)
              (foresees_new s.tables d.name old.due stands.due d);
          sized = largest_is (map.insert s.tables d.name (new_table d)) old.largest new.largest largest
              (each_new (λ item. item_size item ≤ old.largest) s.tables d.name stands.sized d);
          builds = λ none. subst NoneBuilds (sym catalog)
              (none_with old.catalog (stands.builds (sym builds ∙ none)) d.name d
              (none_of_whole d is_new.whole));
          valid = valid;
        }

    -- or it can't be had
    pub table_lacked : (n : ℕ) → table_lack (next_write_of_tables old) old.family ≡ Some n
        → lack_of a_table s ≡ Some n
    table_lacked n lacks = sym (λ i. table_lack (stands.number i) (stands.family i)) ∙ lacks

-- what can be had isn't lacked
pub not_lacking : (number family : ℕ) → number < NUMBERS_END
    → family + MOST_FAMILIES ≤ FAMILIES_END → IsSome (table_lack number family) → ⊥
not_lacking number family room enough lacks =
    false≢true (subst IsSome (has_table number family room enough) lacks)

-- one write is made, and the tables stand for the state after it
pub one_made : (now : State → Type 0) (wants : Wants) (s r : State) → now r → lack_of wants s ≡ None
    → AreMade now wants s (r ∷ [])
one_made now wants s r stands has = record { state = stands; enough = one_has wants s r has }
