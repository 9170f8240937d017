-- Several writes that are made as one entry: what the call leaves is what the machine's writes leave together.
use Rattle.std.proofs.Common.{◌≡◌, ◌≤◌, ◌+◌, sym, ap, subst, ◌∙◌, ℕ, true, List, [], ◌∷◌, length, map as each}
use Rattle.std.specs.FinMap as map
use Rattle.alt_codec.specs.declared.writer.Writer.{Writer}
use Rattle.alt_disk.specs.Disk.{DiskState}
use Rattle.alt_rowchanges.specs.OpeningEngineInHand.{StandsForLayout as EngineStands, next_write_of_engine}
use Rattle.alt_rowchanges.specs.OpeningEngineDeclaredEngine.{Engine}
use Rattle.alt_layout.specs.Layout.{Layout}
use Rattle.alt_machine.specs.Ops.BatchWriteItem.{PlacedWrite, writes_of_all_by}
use Rattle.alt_machine.specs.Outcomes.{last_state, together}
use Rattle.alt_machine.specs.State.{State, Texts}
use Rattle.alt_rowchanges.specs.OpeningOpened.{EngineHoldsState}
use Rattle.alt_schema.specs.declared.schema.TableSchema.{TableSchema}
use Rattle.alt_tables.specs.Foreseen.{Foresees, ForeseesWritten}
use Rattle.alt_tables.specs.Images.{Leaves}
use Rattle.alt_tables.specs.Several.{AreAllApart, Every, IsFound, MayWrite, batches_of, with_batches, written_at}
use Rattle.alt_tables.specs.Stands.{HasRows, KeepsTables, Stands, catalog_of, due_of, fronts_of, next_write_of_tables, trimmed_of, largest_of}
use Rattle.alt_tables.specs.declared.several.ItemChange.{ItemChange}
use Rattle.alt_tables.specs.declared.several.Staged.{Staged}
use Rattle.alt_tables.specs.declared.tables.Tables.{Tables}
use Rattle.alt_tables.specs.private.Staging.{AreKnown, Differs, IsStaged, differing_of}
use Rattle.alt_tables.proofs.Differing.{all_differ, apart_differing, count_differing, every_at, every_differing, every_written, rows_differing, writes_differing}
use Rattle.alt_tables.proofs.Foreseen.{foresees_all, foresees_on}
use Rattle.alt_tables.proofs.Left.{leaves_after}
use Rattle.alt_tables.proofs.Staged.{stand_behind, together_last}
use Rattle.alt_tables.proofs.Standing.{rows_kept, stands_kept}
use Rattle.alt_tables.specs.private.Foretold.{ItemFits, FitsWrites}
use Rattle.alt_tables.proofs.Each.{every_weaker}
use Rattle.alt_tables.proofs.Sizing.{EachItem, each_behind, fits_of}

-- ---- the changes that change something

module _ (catalog : Texts TableSchema) (cs ds : List ItemChange) (left : ds ≡ differing_of cs)
    (may : Every (MayWrite catalog) (each written_at cs))
    (apart : AreAllApart (each written_at cs)) where
  -- they may be written
  pub may_left : Every (MayWrite catalog) (each written_at ds)
  may_left = every_at (MayWrite catalog) ds
      (subst (Every (λ (c : ItemChange). MayWrite catalog (written_at c))) (sym left)
      (every_differing (λ (c : ItemChange). MayWrite catalog (written_at c)) cs
      (every_written (MayWrite catalog) cs may)))

  -- at different places
  pub apart_left : AreAllApart (each written_at ds)
  apart_left = subst (λ es. AreAllApart (each written_at es)) (sym left) (apart_differing cs apart)

  -- and each of them changes something
  pub differ_left : Every Differs ds
  differ_left = subst (Every Differs) (sym left) (all_differ cs)

  module _ (s : State) (found : Every (IsFound s) cs) (moment : ℕ) (writer : Writer) where
    pub found_left : Every (IsFound s) ds
    found_left = subst (Every (IsFound s)) (sym left) (every_differing (IsFound s) cs found)

    -- Their writes are those of all.
    pub writes_left : writes_of_all_by s moment writer (each written_at cs)
        ≡ writes_of_all_by s moment writer (each written_at ds)
    writes_left = writes_differing s moment writer cs apart found
        ∙ ap (λ es. writes_of_all_by s moment writer (each written_at es)) (sym left)

    pub rows_left : (l : Layout) → batches_of l s moment writer (each written_at cs)
        ≡ batches_of l s moment writer (each written_at ds)
    rows_left l = rows_differing l s moment writer cs apart found
        ∙ ap (λ es. batches_of l s moment writer (each written_at es)) (sym left)

    -- one for each
    pub count_left : (a : DiskState) (old : Tables) → catalog ≡ catalog_of old → Stands a old s
        → length (writes_of_all_by s moment writer (each written_at cs)) ≡ length ds
    count_left a old same stands = ap length writes_left
        ∙ count_differing s moment writer ds catalog (same ∙ stands.catalog)
        (every_weaker (λ (c : ItemChange). MayWrite catalog (written_at c))
        (λ (c : ItemChange). map.contains_key catalog c.table ≡ true) (λ c h. h.there) ds
        (every_written (MayWrite catalog) ds may_left)) apart_left differ_left found_left

-- ---- the call

module _ (a m : DiskState) (old mid known : Tables) (keeps : KeepsTables a m old mid)
    (engine : known.engine ≡ mid.engine) (s : State) (stands : Stands a old s) where
  -- the rows are those from before, until they are made
  pub still_holds : EngineHoldsState m known.engine s
  still_holds = subst (λ (e : Engine). EngineHoldsState m e s) (sym engine)
      (stands_kept a m old mid keeps s stands).rows

  pub still_rows : (l : Layout) → HasRows a old l → HasRows m known l
  still_rows l rows = subst (λ (e : Engine). EngineStands m e l) (sym engine)
      (rows_kept a m old mid keeps stands.rows.trusted l rows)

  module _ (b : DiskState) (new : Tables) (moment : ℕ) (writer : Writer) (ws : List PlacedWrite)
      (staged : Staged) (are : IsStaged stands.rows.layout s moment writer ws staged) where
    abbrev last : State
    last = last_state s (writes_of_all_by s moment writer ws)

    -- What is noted of the tables is known of those behind it.
    noted_then : AreKnown (catalog_of mid) moment staged.notes.items (trimmed_of mid)
        (trimmed_of known) (fronts_of mid) (fronts_of known) → new.trimmed ≡ known.trimmed
        → new.fronts ≡ known.fronts → AreKnown (catalog_of old) moment staged.notes.items
        (trimmed_of old) (trimmed_of new) (fronts_of old) (fronts_of new)
    noted_then noted trimmed fronts =
        subst (λ (v : _). AreKnown (catalog_of old) moment staged.notes.items (trimmed_of old)
        (trimmed_of new) (fronts_of old) v.items) (sym fronts)
        (subst (λ (v : _). AreKnown (catalog_of old) moment staged.notes.items (trimmed_of old)
        v.items (fronts_of old) (fronts_of known)) (sym trimmed)
        (subst (λ (v : _). AreKnown (catalog_of old) moment staged.notes.items (trimmed_of old)
        (trimmed_of known) v.items (fronts_of known)) keeps.fronts
        (subst (λ (v : _). AreKnown (catalog_of old) moment staged.notes.items v.items
        (trimmed_of known) (fronts_of mid) (fronts_of known)) keeps.trimmed
        (subst (λ (k : Texts TableSchema). AreKnown k moment staged.notes.items (trimmed_of mid)
        (trimmed_of known) (fronts_of mid) (fronts_of known)) keeps.catalog noted))))

    -- The tables stand for the state after them.
    pub stand_then : AreKnown (catalog_of mid) moment staged.notes.items (trimmed_of mid)
        (trimmed_of known) (fronts_of mid) (fronts_of known) → EngineHoldsState b new.engine last
        → HasRows b new (with_batches stands.rows.layout staged.batches.items)
        → new.catalog ≡ mid.catalog → new.live ≡ mid.live → new.family ≡ mid.family
        → new.trimmed ≡ known.trimmed → new.fronts ≡ known.fronts
        → Every (ForeseesWritten (catalog_of old) (due_of mid)) ws → new.due ≡ mid.due
        → FitsWrites (largest_of mid) ws → new.largest ≡ mid.largest → new.builds ≡ mid.builds → next_write_of_tables new ≡ next_write_of_tables known + length staged.batches.items → Stands b new last
    stand_then noted holds rows catalog live family trimmed fronts told due fits largest builds number =
        stand_behind a b old new s last stands moment staged.notes.items staged.batches.items
        are.ahead (noted_then noted trimmed fronts)
        (subst (Foresees last.tables) (sym due) (foresees_all (catalog_of old) mid.due s moment
        writer ws stands.catalog told (foresees_on s.tables old.due mid.due keeps.due stands.due)))
        (subst (λ n. EachItem (ItemFits n) last.tables) (sym largest)
        (each_behind (ItemFits mid.largest) s moment writer ws fits
        (fits_of s.tables old.largest mid.largest keeps.largest stands.sized)))
        holds rows (catalog ∙ keeps.catalog)
        (live ∙ keeps.live) (family ∙ keeps.family) (builds ∙ keeps.builds)
        (number ∙ ap (λ n. n + length staged.batches.items)
        (ap (λ (e : Engine). next_write_of_engine e) engine ∙ keeps.number))

    -- A stop leaves the state before them or that one.
    pub leave_then : (atoms : List State) → atoms ≡ writes_of_all_by s moment writer ws
        → 1 ≤ length atoms → Leaves m b s (last ∷ []) → Leaves a b s (together s atoms)
    leave_then atoms same some then =
        subst (Leaves a b s)
        (ap (λ ts. last_state s ts ∷ []) (sym same) ∙ sym (together_last s atoms some))
        (leaves_after a m b old s (last ∷ []) keeps.reads stands then)
