-- The write that gives a table another attribute for time to live, or none: what it leaves is what the machine's leaves.
use Rattle.std.proofs.Common.{◌≤◌, ◌≡◌, refl, sym, ap, subst, ◌∙◌, ℕ, ◌+◌, ◌<◌, Bool, true, false, cond, T, List, Option, Some, None, arith}
use Rattle.std.proofs.lemmas.Option.{same_Some}
use Rattle.std.specs.FinMap as map
use Rattle.std.specs.Option.{option_map_or}
use Rattle.std.specs.Ordering.{eq_by_cmp}
use Rattle.alt_cells.specs.Batches.{is_distinct}
use Rattle.alt_cells.specs.declared.batch.RowChange.{RowChange}
use Rattle.alt_cells.proofs.SameKeys.{one_key}
use Rattle.alt_disk.specs.Disk.{DiskState}
use Rattle.alt_due.specs.declared.due.Due.{Due}
use Rattle.alt_layout.specs.Layout.{Layout}
use Rattle.alt_machine.specs.declared.TheConstants.{NUMBERS_END}
use Rattle.alt_machine.specs.Ops.UpdateTimeToLive.{timed, with_time}
use Rattle.alt_machine.specs.State.{State, Table, Texts, descriptions}
use Rattle.alt_machine.specs.Valid.{IsValid}
use Rattle.alt_schemabytes.specs.Held.{IsHeldText, Where}
use Rattle.alt_schema.specs.declared.schema.TableSchema.{TableSchema}
use Rattle.alt_value.specs.Members.{text_order}
use Rattle.alt_value.proofs.Texts.{text_total}
use Rattle.alt_rowchanges.specs.OpeningOpened.{EngineHoldsState}
use Rattle.alt_rowchanges.proofs.OpeningLiveLaws.{live_alike}
use Rattle.alt_rowchanges.proofs.OpeningTrimmedLaws.{trimmed-stay}
use Rattle.alt_tables.specs.Built.{NoneBuilds}
use Rattle.alt_tables.specs.Foreseen.{Foresees}
use Rattle.alt_rowchanges.specs.Fronts.{AreFronts, IsFront}
use Rattle.alt_rowchanges.specs.RowChanges.{Turns, changed_rows, time_changes}
use Rattle.alt_tables.specs.Stands.{HasRows, Stands, catalog_of, fronts_of, next_write_of_tables, trimmed_of}
use Rattle.alt_rowchanges.specs.declared.fronts.Front.{Front}
use Rattle.alt_tables.specs.declared.tables.Tables.{Tables}
use Rattle.alt_tables.specs.private.Foretold.{TimeToLiveIsTold}
use Rattle.alt_tables.proofs.Foreseen.{foresees_nothing, foresees_untimed}
use Rattle.alt_tables.proofs.Making.{fronts_of_rows}
use Rattle.alt_tables.proofs.TableMaking.{OfCatalog, catalog_fronts}
use Rattle.alt_tables.proofs.NoneBuilt.{none_with}
use Rattle.alt_tables.proofs.Standing.{descriptions-insert, known, still_live, still_trimmed}
use Rattle.alt_rowchanges.proofs.TimeLaws.{time_turns}
use Rattle.alt_tables.proofs.Sizing.{each_alike, largest_is}
use Rattle.alt_value.specs.Size.{item_size}

-- what is known of fronts is so of the tables with another time to live in one of them
fronts_timed : (l : Layout) (tables : Texts Table) (known : List Front) (name : List ℕ) (t : Table)
    (ttl : Option (List ℕ)) → map.get tables name ≡ Some t → AreFronts l tables known
    → AreFronts l (map.insert tables name (timed ttl t)) known
fronts_timed l tables known name t ttl at are q f told =
    let (v, at_v, front) = are q f told in
    by v at_v front (eq_by_cmp text_order q name) refl
    (map.get-insert text_total tables name (timed ttl t) q)
  where
    -- the front of the table itself
    own : IsFront l t f → IsFront l (timed ttl t) f
    own front = record { oldest = front.oldest; low = front.low; above = front.above }

    by : (v : Table) → map.get tables q ≡ Some v → IsFront l v f → (b : Bool)
        → eq_by_cmp text_order q name ≡ b
        → map.get (map.insert tables name (timed ttl t)) q
        ≡ cond b (Some (timed ttl t)) (map.get tables q)
        → (u : Table) × (map.get (map.insert tables name (timed ttl t)) q ≡ Some u) × IsFront l u f
    by v at_v front true tie is = (
      timed ttl t,
      is,
      own (subst (λ (x : Table). IsFront l x f)
          (same_Some _ _ (sym at_v ∙ ap (map.get tables) (one_key q name tie) ∙ at)) front),
    )
    by v at_v front false tie is = (v, is ∙ at_v, front)

-- the list of the items that are due next knows of them behind it
foresees_timed : (tables : Texts Table) (name : List ℕ) (t : Table) (old new : Due)
    → Foresees tables old → (ttl : Option (List ℕ)) → TimeToLiveIsTold ttl old new
    → Foresees (map.insert tables name (timed ttl t)) new
foresees_timed tables name t old new knows None told =
    subst (Foresees (map.insert tables name (timed None t))) (sym (told.none refl))
    (foresees_untimed tables name old knows t)
foresees_timed tables name t old new knows (Some own) told =
    foresees_nothing (map.insert tables name (timed (Some own) t)) new (told.some own refl)

-- where a table is described there, the catalog has it with that time to live
pub given_time : (m n : Texts TableSchema) (name : List ℕ) (d : TableSchema)
    (o ttl : Option (List ℕ))
    → n ≡ option_map_or (λ e. map.insert m name (record e { ttl = o })) (map.get m name) m
    → o ≡ ttl → map.get m name ≡ Some d → n ≡ map.insert m name (record d { ttl = ttl })
given_time m n name d o ttl is same at =
    is ∙ ap (λ x. option_map_or
    (λ (e : TableSchema). map.insert m name (record e { ttl = o })) x m) at
    ∙ ap (λ t. map.insert m name (record d { ttl = t })) same

module _ (before : DiskState) (old : Tables) (s : State) (stands : Stands before old s)
    (name : List ℕ) (t : Table) (at : map.get s.tables name ≡ Some t) (ttl : Option (List ℕ))
    (d : TableSchema) (described : map.get (catalog_of old) name ≡ Some d)
    (batch : List RowChange) (is : batch ≡ time_changes d ttl) where
  same : t.description ≡ d
  same = same_Some _ _ (sym (known before old s name t stands at) ∙ described)

  -- its row changes turn the state into the one with that time to live
  pub time_turned : next_write_of_tables old < NUMBERS_END → Where IsHeldText ttl
      → Turns batch s (with_time s name t ttl)
  time_turned room text = subst (λ cs. Turns cs s (with_time s name t ttl))
      (ap (λ (e : TableSchema). time_changes e ttl) same ∙ sym is)
      (time_turns s name t ttl stands.valid stands.rows.held (omega (arith, room, stands.number)) at
      text)

  -- the tables stand for it
  pub time_stands : (now : DiskState) (new : Tables) → EngineHoldsState now new.engine (with_time s name t ttl)
      → IsValid (with_time s name t ttl)
      → new.catalog ≡ map.insert old.catalog name (record d { ttl = ttl })
      → new.live ≡ old.live → new.family ≡ old.family → new.trimmed ≡ old.trimmed
      → new.fronts ≡ old.fronts → TimeToLiveIsTold ttl old.due new.due
      → new.largest ≡ old.largest → new.builds ≡ old.builds → next_write_of_tables new ≡ next_write_of_tables old + 1 → T (is_distinct batch)
      → HasRows now new (changed_rows stands.rows.layout batch)
      → Stands now new (with_time s name t ttl)
  time_stands now new holds valid catalog live family trimmed fronts told largest builds number distinct rows = record {
    catalog = catalog
        ∙ ap (λ (m : Texts TableSchema). map.insert m name (record d { ttl = ttl })) stands.catalog
        ∙ ap (λ (e : TableSchema). map.insert (descriptions s.tables) name (record e { ttl = ttl }))
        (sym same) ∙ sym (descriptions-insert s.tables name (timed ttl t));
    number = number ∙ ap (λ n. n + 1) stands.number;
    family = family ∙ stands.family;
    live = still_live (map.insert old.catalog name (record d { ttl = ttl })) new.catalog old.live
        new.live catalog live
        (live_alike old.catalog old.live stands.live d name (record d { ttl = ttl }) described
        refl);
    trimmed = still_trimmed (map.insert s.tables name (timed ttl t)) old new trimmed
        (trimmed-stay s.tables name (trimmed_of old) stands.trimmed t (timed ttl t) at refl);
    rows = holds;
    fronts = fronts_of_rows now new (changed_rows stands.rows.layout batch)
        (map.insert s.tables name (timed ttl t)) rows
        (subst (λ known. AreFronts (changed_rows stands.rows.layout batch)
        (map.insert s.tables name (timed ttl t)) known.items) (sym fronts)
        (fronts_timed (changed_rows stands.rows.layout batch) s.tables (fronts_of old) name t ttl at
        (catalog_fronts before old s stands batch distinct
        (subst OfCatalog (sym is) (refl, tt)))));
    due = foresees_timed s.tables name t old.due new.due stands.due ttl told;
    sized = largest_is (map.insert s.tables name (timed ttl t)) old.largest new.largest largest
        (each_alike (λ item. item_size item ≤ old.largest) s.tables name stands.sized t (timed ttl t)
        at refl);
    builds = λ is. subst NoneBuilds (sym catalog) (let none = stands.builds (sym builds ∙ is) in
        none_with old.catalog none name (record d { ttl = ttl }) (none name d described));
    valid = valid;
  }
