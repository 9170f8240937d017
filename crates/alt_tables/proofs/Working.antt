-- Work between requests leaves the state: each live family shows what it showed, and nothing else is looked at.
use Rattle.std.proofs.Common.{◌≡◌, ◌≤◌, ◌+◌, ⊎_elim, inl, inr, sym, ap, subst, ◌∙◌, ℕ, List, length, Option, Some, None, Contains, option_map, arith}
use Rattle.std.specs.BTreeMap.{get}
use Rattle.std.specs.FinMap.{entries}
use Rattle.std.specs.Ordering.{nat_cmp}
use Rattle.std.specs.Prelude.{⊤}
use Rattle.std.specs.FinMap as map
use Rattle.alt_disk.specs.Disk.{DiskState, Goes}
use Rattle.alt_disk.specs.Runs.{Spans}
use Rattle.alt_disk.proofs.Runs.{spans_weaker, trusted_on}
use Rattle.alt_rowchanges.specs.OpeningEngineInHand.{StandsForLayout as EngineStands, next_file_of_engine}
use Rattle.alt_rowchanges.specs.OpeningEngineDeclaredEngine.{Engine}
use Rattle.alt_rowchanges.specs.OpeningEngineDeclaredTask.{Task}
use Rattle.alt_rowchanges.specs.OpeningEngineDeclaredTask.TheVariants.{Step, FlushAll, MergeAll}
use Rattle.alt_rowchanges.proofs.OpeningEngineTaking.{files_for-most, needed-most}
use Rattle.alt_families.specs.Families.{rows_in}
use Rattle.alt_rowchanges.specs.OpeningHandDrafting.{IsSpentFor, files_for, files_needed}
use Rattle.alt_rowchanges.specs.OpeningHandInHand.{work_file_of}
use Rattle.alt_rowchanges.specs.OpeningHandWorking.{AreLive, Works, WorksIn}
use Rattle.alt_rowchanges.proofs.OpeningHandNeedLaws.{spent_more}
use Rattle.alt_rowchanges.specs.OpeningHandDeclaredEngineFault.{EngineFault}
use Rattle.alt_layout.specs.Layout.{Layout, shown}
use Rattle.alt_machine.specs.State.{State, Table, descriptions, families_of}
use Rattle.alt_machine.proofs.Descriptions.{get-descriptions}
use Rattle.alt_manifest.specs.Versions.{IsIn}
use Rattle.alt_rowchanges.specs.OpeningEngineWorking.{LiveFamiliesAreMerged, IsNeeded, most_files_of_task as most_for}
use Rattle.alt_rowchanges.specs.OpeningLive.{AreLiveIn, IsOfTable}
use Rattle.alt_rowchanges.specs.OpeningStateRows.{Shows, catalog_family}
use Rattle.alt_rowchanges.proofs.OpeningFamilies.{own_family}
use Rattle.alt_rowchanges.specs.OpeningHandFaults.{told_by_engine}
use Rattle.alt_faults.specs.Faults.{OnlySpent}
use Rattle.alt_faults.proofs.Telling.{outside-tells}
use Rattle.alt_tables.specs.Faults.{IsLastFile, IsWorkFault}
use Rattle.alt_rowchanges.specs.Faults.{told_by_tables}
use Rattle.alt_tables.specs.FilesLeft.{most_files}
use Rattle.alt_rowchanges.specs.declared.faults.TableFault.{TableFault}
use Rattle.alt_tables.specs.Images.{FilesStandFor}
use Rattle.alt_tables.specs.Merged.{IsMergedFor}
use Rattle.alt_rowchanges.proofs.OpeningOverEngine.{one_layout_in_hand}
use Rattle.alt_tables.specs.Foreseen.{Foresees}
use Rattle.alt_rowchanges.specs.Fronts.{AreFronts}
use Rattle.alt_tables.specs.Stands.{Stands, fronts_of, live_of, next_write_of_tables}
use Rattle.alt_tables.specs.declared.tables.Tables.{Tables}
use Rattle.alt_tables.proofs.FilesLaws.{live_few}
use Rattle.alt_rowchanges.proofs.FrontLaws.{fronts_alike}
use Rattle.alt_rowchanges.proofs.IndexFamilies.{index_family}
use Rattle.alt_tables.proofs.NoneBuilt.{none_on}
use Rattle.alt_tables.proofs.Standing.{still_live, still_trimmed}
use Rattle.alt_rowchanges.proofs.StreamShows.{stream_family}
use Rattle.alt_tables.proofs.Sizing.{largest_is}

-- the families of a table of the state are live
family_live : (s : State) (live : List ℕ) → AreLiveIn (descriptions s.tables) live
    → (name : List ℕ) (t : Table) → map.get s.tables name ≡ Some t → (family : ℕ)
    → Contains (families_of t.description) family → IsIn live family
family_live s live are name t at family has = are.each family (record {
  name = name;
  description = t.description;
  there = get-descriptions s.tables name ∙ ap (option_map (λ (u : Table). u.description)) at;
  has = has;
})

-- so work on rows that show the state leaves rows that show it
pub shows_worked : (live : List ℕ) (l m : Layout) (s : State) → AreLiveIn (descriptions s.tables) live
    → IsIn live catalog_family → Works live l m → Shows l s → Shows m s
shows_worked live l m s are own works shows = record {
  number = works.number ∙ shows.number;
  catalog = λ key. works.lives catalog_family own key ∙ shows.catalog key;
  items = λ name t at key. works.lives t.description.family
      (family_live s live are name t at t.description.family (own_family t.description)) key
      ∙ shows.items name t at key;
  indexes = λ name t number i at at_index key. works.lives i.family
      (family_live s live are name t at i.family (index_family t.description number i at_index)) key
      ∙ shows.indexes name t number i at at_index key;
  changes = λ name t family at stream key counts. works.lives family
      (family_live s live are name t at family (stream_family t.description family stream)) key
      ∙ shows.changes name t family at stream key counts;
  beyond = λ family key high. ⊎_elim
      (λ (same : (k : List ℕ) → shown m family k ≡ shown l family k).
      same key ∙ shows.beyond family key high)
      (λ (none : (k : List ℕ) → shown m family k ≡ None). none key)
      (works.others family);
}

-- ---- the tables

module _ (old new : DiskState) (t : Tables) (s : State) (stands : Stands old t s) (live : List ℕ)
    (same : live ≡ live_of t) (are : AreLive live) where
  -- the families that are said to be live are those of the state's tables
  live_state : AreLiveIn (descriptions s.tables) live
  live_state = still_live t.catalog (descriptions s.tables) t.live live (sym stands.catalog) same
      stands.live

  -- whatever a stop leaves on the way stands for the state
  pub worked_left : Spans old new (λ _. ⊤) (WorksIn live stands.rows.layout)
      → Spans old new (λ _. ⊤) (FilesStandFor s)
  worked_left spans = spans_weaker old new (λ _. ⊤) (λ _. ⊤) (FilesStandFor s)
      (WorksIn live stands.rows.layout) spans (λ g is. is) (λ moment image worked. record {
        layout = worked.layout;
        is = worked.is;
        shows = shows_worked live stands.rows.layout worked.layout s live_state are.catalog
            worked.works stands.rows.shows;
        valid = stands.valid;
        held = stands.rows.held;
      })

  -- and the tables stand for it after work that is done
  pub worked_stands : (u : Tables) → Goes old new → u.catalog ≡ t.catalog → u.live ≡ t.live
      → u.family ≡ t.family → u.trimmed ≡ t.trimmed → u.fronts ≡ t.fronts → u.due ≡ t.due
      → u.largest ≡ t.largest → u.builds ≡ t.builds → next_write_of_tables u ≡ next_write_of_tables t
      → (m : Layout) × EngineStands new u.engine m × Works live stands.rows.layout m
      → Stands new u s
  worked_stands u goes catalog lives family trimmed fronts due largest builds number after = record {
    catalog = catalog ∙ stands.catalog;
    number = number ∙ stands.number;
    family = family ∙ stands.family;
    live = still_live t.catalog u.catalog t.live u.live catalog lives stands.live;
    trimmed = still_trimmed s.tables t u trimmed stands.trimmed;
    rows = record {
      trusted = trusted_on old new goes stands.rows.trusted;
      layout = after.0;
      is = after.1;
      shows = shows_worked live stands.rows.layout after.0 s live_state are.catalog after.2
          stands.rows.shows;
      held = stands.rows.held;
    };
    fronts = λ m rows. subst (λ x. AreFronts x s.tables (fronts_of u))
        (one_layout_in_hand new u.engine after.0 m after.1 rows)
        (fronts_alike stands.rows.layout after.0 s.tables (fronts_of u)
        (λ name v family at stream. after.2.lives family
        (family_live s live live_state name v at family (stream_family v.description family stream)))
        (subst (λ known. AreFronts stands.rows.layout s.tables known.items) (sym fronts)
        (stands.fronts stands.rows.layout stands.rows.is)));
    due = subst (Foresees s.tables) (sym due) stands.due;
    sized = largest_is s.tables t.largest u.largest largest stands.sized;
    builds = none_on t u catalog builds stands.builds;
    valid = stands.valid;
  }

-- ---- merges

-- What is merged of the families that are said to be live is merged of those of the state.
pub merged_for : (old : DiskState) (t : Tables) (s : State) → Stands old t s → (live : List ℕ)
    → live ≡ live_of t → AreLive live → (files : ℕ → Option (List ℕ))
    → LiveFamiliesAreMerged live files → IsMergedFor s files
merged_for old t s stands live same are files merged gs of v has family there =
    merged v has family (⊎_elim
    (λ (own : family ≡ catalog_family). subst (IsIn live) (sym own) are.catalog)
    (λ (table : IsOfTable (descriptions s.tables) family).
    (still_live t.catalog (descriptions s.tables) t.live live (sym stands.catalog) same
    stands.live).each family table) (of.only family there))

-- ---- its files

-- the families that are said to be live are those of 256 tables at most, and that of the catalog
pub few_live : (old : DiskState) (t : Tables) (s : State) → Stands old t s → (live : List ℕ)
    → live ≡ live_of t → AreLive live → most_for live + 1 ≤ most_files
few_live old t s stands live same are =
    let few = live_few s stands.valid live are (still_live t.catalog (descriptions s.tables) t.live
    live (sym stands.catalog) same stands.live) in omega (arith, few)

-- so a task needs no more
needed_reach : (task : Task) (live : List ℕ) (e : Engine) (fault : EngineFault)
    → IsNeeded task live e fault → IsSpentFor (next_file_of_engine e + most_for live) fault
needed_reach Step live e fault (inl none) = outside-tells _ _ (told_by_engine fault) none
needed_reach Step live e fault (inr (inl (inl all))) =
    let most = needed-most e.hand.families live in
    spent_more fault (e.hand.next_file + files_needed e.hand.families live + 1)
    (e.hand.next_file + most_for live) (omega (arith, most)) all.1
needed_reach Step live e fault (inr (inl (inr one))) =
    let rows = entries (rows_in (get nat_cmp e.hand.families one.1.0)) in
    let most = files_for-most rows in
    spent_more fault (e.hand.next_file + files_for rows) (e.hand.next_file + most_for live)
    (omega (arith, most)) one.1.2
needed_reach Step live e fault (inr (inr begun)) = spent_more fault (e.hand.next_file + 1)
    (e.hand.next_file + most_for live) (omega arith) begun.2
needed_reach FlushAll live e fault all =
    let most = needed-most e.hand.families live in
    spent_more fault (e.hand.next_file + files_needed e.hand.families live + 1)
    (e.hand.next_file + most_for live) (omega (arith, most)) all
needed_reach MergeAll live e fault each = spent_more fault (e.hand.next_file + length live)
    (e.hand.next_file + most_for live) (omega arith) each

-- ---- its faults

-- a fault of the engine's work is one of work
pub work_fault : (task : Task) (live : List ℕ) (e : Engine) (given : EngineFault)
    (fault : TableFault) → told_by_tables fault ≡ told_by_engine given
    → IsNeeded task live e given → most_for live + 1 ≤ most_files
    → IsWorkFault (work_file_of e.hand + most_files) fault
work_fault task live e given fault same needed few =
    subst (OnlySpent (IsLastFile (work_file_of e.hand + most_files))) (sym same)
    (spent_more given (next_file_of_engine e + most_for live) (work_file_of e.hand + most_files)
    (omega (arith, few)) (needed_reach task live e given needed))
