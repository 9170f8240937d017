-- The write of an item: what it leaves is what the machine's write leaves. And calls that break off.
use Rattle.std.proofs.Common.{◌≡◌, inl, inr, refl, sym, ap, subst, ◌∙◌, ℕ, ◌+◌, ◌<◌, ◌≤◌, ◌^◌, false, length, drop, T, List, [], ◌∷◌, Option, Some, None, Err, Result, IfSome, arith}
use Rattle.std.specs.Prelude.{if◌then◌else◌, ◌-◌}
use Rattle.std.specs.Option.{option_map_or}
use Rattle.std.specs.Result.{IsErrAnd}
use Rattle.std.specs.Str.{bytes_eq}
use Rattle.std.proofs.lemmas.Slice.Eq.{bytes_eq-Decides}
use Rattle.std.proofs.lemmas.Bool.{false≢true}
use Rattle.std.proofs.lemmas.Result.{err_from_is_err_and}
use Rattle.std.specs.FinMap as map
use Rattle.alt_cells.specs.Batches.{is_distinct}
use Rattle.alt_cells.specs.declared.batch.RowChange.{RowChange}
use Rattle.alt_disk.specs.Disk.{DiskState}
use Rattle.alt_codec.specs.declared.writer.Writer.{Writer}
use Rattle.alt_machine.specs.declared.TheConstants.{NUMBERS_END}
use Rattle.alt_machine.specs.Outcomes.{Wants}
use Rattle.alt_machine.specs.Same.{is_same}
use Rattle.alt_machine.specs.State.{State, Table, Texts}
use Rattle.alt_machine.specs.Valid.{IsStored, IsValid}
use Rattle.alt_machine.specs.Wanted.{lack_of}
use Rattle.alt_machine.specs.Writes.{with_write_by, after_item_by, item_writes_by}
use Rattle.alt_machine.proofs.Lacks.{one_has, one_lacks}
use Rattle.alt_schema.specs.declared.schema.TableSchema.{TableSchema}
use Rattle.alt_tables.specs.Faults.{AreSome, BreakOff, IsLastFile, Writes}
use Rattle.alt_rowchanges.specs.Faults.{IsFindFault}
use Rattle.alt_rowchanges.specs.OpeningOpened.{EngineHoldsState}
use Rattle.alt_layout.specs.Layout.{Layout, shown}
use Rattle.alt_rowchanges.specs.OpeningTrimmed.{IsRenumbered, number_at}
use Rattle.alt_rowchanges.proofs.OpeningOverEngine.{one_layout_in_hand, stands_past}
use Rattle.alt_rowchanges.proofs.OpeningTrimmedLaws.{trimmed-put}
use Rattle.alt_tables.specs.Foreseen.{Foresees, ForeseesWrite}
use Rattle.alt_rowchanges.specs.Fronts.{AreFronts, IsFront, front_at}
use Rattle.alt_rowchanges.specs.Leftovers.{leftovers}
use Rattle.alt_tables.specs.Stands.{HasRows, Stands, catalog_of, due_of, fronts_of, largest_of, next_write_of_tables, trimmed_of}
use Rattle.alt_rowchanges.specs.RowChanges.{Turns, changed_rows, write_changes}
use Rattle.alt_rowchanges.specs.Trims.{IsNoted, IsTrim}
use Rattle.alt_rowchanges.specs.declared.fronts.Front.{Front}
use Rattle.alt_rowchanges.specs.declared.trimming.Trim.{Trim}
use Rattle.alt_rowchanges.proofs.ChangeLaws.{AreOthers}
use Rattle.alt_rowchanges.proofs.Elsewhere.{shown_elsewhere, write_others}
use Rattle.alt_tables.proofs.Foreseen.{foresees_written}
use Rattle.alt_rowchanges.proofs.FrontLaws.{fronts_put}
use Rattle.alt_rowchanges.proofs.FrontTrims.{front_stays, front_then, left_then, leftovers_then, trimmed_then}
use Rattle.alt_tables.proofs.NoneBuilt.{none_on}
use Rattle.alt_rowchanges.proofs.StreamShows.{stream_family}
use Rattle.alt_rowchanges.specs.declared.faults.TableFault.{TableFault}
use Rattle.alt_rowchanges.specs.declared.faults.TableFault.TheVariants.{Spent, Damaged, BadRow, Failed, NoMemory}
use Rattle.alt_tables.specs.declared.tables.Tables.{Tables}
use Rattle.alt_tables.proofs.Standing.{descriptions-stay, known, still_live}
use Rattle.alt_rowchanges.proofs.ItemTurns.{item_turns}
use Rattle.alt_value.specs.Tree.{Pair}
use Rattle.alt_value.specs.Values.{IsItemOfValues}
use Rattle.std.proofs.Math.Nat.{le_refl}
use Rattle.std.proofs.lemmas.Option.{same_Some as some}
use Rattle.alt_tables.specs.private.Foretold.{ItemFits, FitsWrite}
use Rattle.alt_tables.proofs.Sizing.{each_written, fits_of, largest_is, sized_valid}

-- what holds of an option's value holds of it by name
of_some : {A : Type 0} (P : A → Type 0) (o : Option A) (x : A) → IfSome o P → o ≡ Some x → P x
of_some P None x h e = absurd (let f : ⊥ = cc in f)
of_some P (Some y) x h e = subst P (let f : y ≡ x = cc in f) h

-- ---- a call that breaks off

-- none of the writes is some of them
pub none_made : (atoms : List State) → AreSome 0 atoms
none_made atoms = least (length atoms - 1)
  where
    least : (n : ℕ) → 0 ≤ n
    least n = omega arith

-- want of memory, where a result tells it
pub want_told : {X : Type 0} (file : ℕ) (now : State → Type 0) (wants : Wants) (s : State)
    (atoms : List State) (r : Result X TableFault) → IsErrAnd r (λ f. f ≡ NoMemory)
    → Writes file now wants s atoms r
want_told file now wants s atoms r told =
    let (f, is, none) = err_from_is_err_and r told in
    subst (λ q. Writes file now wants s atoms q) (sym (is ∙ ap (λ e. Err e) none)) tt

-- a number or a family that the one write can't have
pub spent : {file : ℕ} (now : State → Type 0) (wants : Wants) (s r : State) (n : ℕ)
    → lack_of wants s ≡ Some n → now s → BreakOff file now wants s (r ∷ []) (Spent n)
spent now wants s r n lacks stays = (0, inl (one_lacks wants s r n lacks), stays)

-- the file of a segment that it can't have
pub spent_file : {file : ℕ} (now : State → Type 0) (wants : Wants) (s r : State) (n : ℕ)
    → lack_of wants s ≡ None → IsLastFile file n → now s
    → BreakOff file now wants s (r ∷ []) (Spent n)
spent_file now wants s r n has last stays =
    (0, inr (refl, one_has wants s r has, (omega arith, last)), stays)

-- one write that failed, or wanted memory
pub broke : (file : ℕ) (now : State → Type 0) (wants : Wants) (s r : State) (f : TableFault)
    → IsFindFault f → BreakOff file now wants s (r ∷ []) f
broke file now wants s r (Spent n) given = absurd given
broke file now wants s r (Damaged f at) given = absurd given
broke file now wants s r (BadRow family key) given = absurd given
broke file now wants s r Failed given = tt
broke file now wants s r NoMemory given = tt

-- ---- fronts

-- what is known of fronts is so of whichever layout the rows are
pub fronts_of_rows : (now : DiskState) (new : Tables) (l : Layout) (tables : Texts Table)
    → HasRows now new l → AreFronts l tables (fronts_of new) → (m : Layout) → HasRows now new m
    → AreFronts m tables (fronts_of new)
fronts_of_rows now new l tables rows are m other =
    subst (λ x. AreFronts x tables (fronts_of new)) (one_layout_in_hand now new.engine l m rows other)
    are

-- ---- an item

module _ (before : DiskState) (old : Tables) (s : State) (t : Table) (stands : Stands before old s)
    (moment : ℕ) (writer : Writer) (name place : List ℕ) (found to : Option (List Pair))
    (at : map.get s.tables name ≡ Some t) (there : found ≡ map.get t.items place) where
  abbrev after : State
  after = after_item_by s moment writer name t place to

  -- one write is to be made
  pub item_differs : is_same found to ≡ false
      → item_writes_by s moment writer name t place to ≡ after ∷ []
  item_differs differ = ap (λ b. if b then [] else after ∷ [])
      (ap (λ o. is_same o to) (sym there) ∙ differ)

  module _ (r : Trim) (is : IsTrim stands.rows.layout t moment r) (d : TableSchema) (number : ℕ)
      (batch : List RowChange) (described : map.get (catalog_of old) name ≡ Some d)
      (numbered : number ≡ next_write_of_tables old)
      (written : batch ≡ write_changes d number moment writer place found to
      (number_at name (trimmed_of old)) r.number r.leftovers.items)
      (differ : is_same found to ≡ false) where
    -- the table then
    abbrev table_after : Table
    table_after = with_write_by s.next_number moment writer t place to

    same : t.description ≡ d
    same = some _ _ (sym (known before old s name t stands at) ∙ described)

    differs : is_same (map.get t.items place) to ≡ false
    differs = ap (λ o. is_same o to) (sym there) ∙ differ

    -- what was trimmed before
    trimmed_is : number_at name (trimmed_of old) ≡ t.trimmed
    trimmed_is = stands.trimmed name ∙ ap (λ o. option_map_or (λ (t : Table). t.trimmed) o 0) at

    number_then : table_after.trimmed ≡ r.number
    number_then = trimmed_then s name t at stands.valid moment writer place to differs
        stands.rows.layout r is

    -- the row changes in words of the state
    in_state : batch ≡ write_changes t.description s.next_number moment writer place
        (map.get t.items place) to t.trimmed r.number r.leftovers.items
    in_state = written
        ∙ (λ i. write_changes (sym same i) ((numbered ∙ stands.number) i) moment writer place
        (there i) to (trimmed_is i) r.number r.leftovers.items)

    -- They turn the rows of the state into those of the state after it.
    pub item_turned : next_write_of_tables old < NUMBERS_END → IfSome to (IsStored d place)
        → IfSome to IsItemOfValues → moment < 2 ^ 64 → Turns batch s after
    item_turned room stored given fits =
        subst (λ cs. Turns cs s after)
        (ap (λ n. write_changes t.description s.next_number moment writer place
        (map.get t.items place) to t.trimmed n r.leftovers.items) number_then
        ∙ sym in_state)
        (item_turns s moment writer name t place to r.leftovers.items stands.valid stands.rows.held
        (omega (arith, room, stands.number)) at differs
        (λ item e. subst (λ d. IsStored d place item) (sym same)
        (of_some (IsStored d place) to item stored e)) given fits
        (left_then s name t at stands.valid moment writer place to differs stands.rows.layout r is))

    -- the rows of the stream's family show what the front is after it
    pub item_leftovers : T (is_distinct batch) → (family : ℕ) → d.stream_family ≡ Some family
        → leftovers (changed_rows stands.rows.layout batch) family r.number
        ≡ drop 2 (leftovers stands.rows.layout family r.number)
    item_leftovers distinct family stream = leftovers_then s name t at stands.valid moment writer
        place to differs stands.rows.layout r is family
        (ap (λ (x : TableSchema). x.stream_family) same ∙ stream)
        (stands_past before old.engine stands.rows.layout stands.rows.is) batch in_state distinct

    -- the families of another table show what they showed
    others_stay : T (is_distinct batch) → (q : List ℕ) (v : Table) (family : ℕ)
        → bytes_eq name q ≡ false → map.get s.tables q ≡ Some v
        → v.description.stream_family ≡ Some family → (key : List ℕ)
        → shown (changed_rows stands.rows.layout batch) family key
        ≡ shown stands.rows.layout family key
    others_stay distinct q v family apart at_v stream = shown_elsewhere stands.rows.layout batch
        distinct (stands_past before old.engine stands.rows.layout stands.rows.is) family
        (subst (AreOthers family) (sym in_state)
        (write_others t.description s.next_number moment writer place (map.get t.items place) to
        t.trimmed r.number r.leftovers.items family
        (λ own. false≢true (sym apart ∙ (bytes_eq-Decides name q).1
        (sym (stands.valid.families q name v t family at_v at
        (stream_family v.description family stream) own))))))

    -- so what is known of fronts is so
    fronts_then : T (is_distinct batch) → (new : List Front)
        → IsNoted d name moment r (fronts_of old) new
        → AreFronts (changed_rows stands.rows.layout batch) after.tables new
    fronts_then distinct new noted = fronts_put stands.rows.layout s.tables name (fronts_of old)
        (stands.fronts stands.rows.layout stands.rows.is)
        (changed_rows stands.rows.layout batch) table_after new
        (own d.stream_family refl) (others d.stream_family refl) (others_stay distinct)
      where
        own : (o : Option ℕ) → d.stream_family ≡ o → (f : Front) → front_at name new ≡ Some f
            → IsFront (changed_rows stands.rows.layout batch) table_after f
        own (Some family) e f told = front_then s name t at stands.valid moment writer place to
            differs stands.rows.layout r is family (ap (λ (x : TableSchema). x.stream_family) same ∙ e)
            (changed_rows stands.rows.layout batch) (item_leftovers distinct family e) f
            ((noted.stream family e).own f told)
        own None e f told =
            let (u, at_u, front) = stands.fronts stands.rows.layout stands.rows.is name f
            (ap (front_at name) (sym (noted.none e)) ∙ told) in
            front_stays s name t at stands.valid moment writer place to differs stands.rows.layout r
            is (ap (λ (x : TableSchema). x.stream_family) same ∙ e)
            (changed_rows stands.rows.layout batch) f
            (subst (λ v. IsFront stands.rows.layout v f) (some _ _ (sym at_u ∙ at)) front)

        others : (o : Option ℕ) → d.stream_family ≡ o → (q : List ℕ) → bytes_eq name q ≡ false
            → front_at q new ≡ front_at q (fronts_of old)
        others (Some family) e q apart = (noted.stream family e).others q apart
        others None e q apart = ap (front_at q) (noted.none e)

    -- The tables stand for the state after it.
    pub item_stands : (now : DiskState) (new : Tables) → EngineHoldsState now new.engine after → IsValid after
        → HasRows now new (changed_rows stands.rows.layout batch) → T (is_distinct batch)
        → new.catalog ≡ old.catalog → new.live ≡ old.live → new.family ≡ old.family
        → IsRenumbered name r.number (trimmed_of old) (trimmed_of new)
        → IsNoted d name moment r (fronts_of old) (fronts_of new)
        → ForeseesWrite (catalog_of old) name place to (due_of old) → new.due ≡ old.due
        → FitsWrite (largest_of old) to → new.largest ≡ old.largest → new.builds ≡ old.builds → next_write_of_tables new ≡ next_write_of_tables old + 1 → Stands now new after
    item_stands now new holds valid rows distinct catalog live family trimmed noted told due fits largest builds next = record {
      catalog = catalog ∙ stands.catalog ∙ sym (descriptions-stay s.tables name t table_after at refl);
      number = next ∙ ap (λ n. n + 1) stands.number;
      family = family ∙ stands.family;
      live = still_live old.catalog new.catalog old.live new.live catalog live stands.live;
      trimmed = trimmed-put s.tables name (trimmed_of old) stands.trimmed table_after
          (trimmed_of new)
          (subst (λ n. IsRenumbered name n (trimmed_of old) (trimmed_of new)) (sym number_then)
          trimmed);
      rows = holds;
      fronts = fronts_of_rows now new (changed_rows stands.rows.layout batch) after.tables rows
          (fronts_then distinct (fronts_of new) noted);
      due = subst (Foresees after.tables) (sym due) (foresees_written s.tables name old.due
          stands.due s.next_number moment writer t place to at
          (told t.description (known before old s name t stands at)));
      sized = largest_is after.tables old.largest new.largest largest
          (sized_valid after valid old.largest (each_written (ItemFits old.largest) s.tables name
          (fits_of s.tables old.largest old.largest (le_refl old.largest) stands.sized)
          s.next_number moment writer t place to at fits));
      builds = none_on old new catalog builds stands.builds;
      valid = valid;
    }
