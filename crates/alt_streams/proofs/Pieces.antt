-- The changes of a table, read piece by piece.
use Rattle.std.proofs.Common.{◌≡◌, ◌<◌, ◌^◌, refl, sym, ap, subst, ◌∙◌, ℕ, zero, suc, Bool, true, false, List, [], ◌∷◌, ◌++◌, length, take, drop, Option, Some, None, option_map, IfSome, Result, IfErr, inl, inr, All, append_assoc, append-nil, arith}
use Rattle.std.specs.Result.{IsErr, IsErrAnd}
use Rattle.std.specs.FinMap as finite
use Rattle.std.specs.Prelude.{nat_le}
use Rattle.std.proofs.lemmas.List.{take-append-drop}
use Rattle.std.proofs.lemmas.List.Elements.{All-filter, All-take, All-weaker}
use Rattle.std.proofs.lemmas.Option.{same_Some}
use Rattle.alt_base.proofs.Lists.{All-ahead}
use Rattle.alt_changes.specs.KeyOf.{IsSized}
use Rattle.alt_disk.specs.Disk.{DiskState}
use Rattle.alt_machine.specs.Changes.{record_size}
use Rattle.alt_machine.specs.Ops.GetRecords.{changes_from, next_from, records_page}
use Rattle.alt_machine.specs.State.{Change, State, Table}
use Rattle.alt_machine.specs.Valid.{IsChange, IsValid, IsStored}
use Rattle.alt_machine.proofs.Descriptions.{get-descriptions}
use Rattle.alt_schema.specs.declared.schema.TableSchema.{TableSchema}
use Rattle.alt_schema.specs.declared.schema.View.{View}
use Rattle.alt_streams.specs.private.Paged.{PageHasRecords, IsFit, Puts, StepsPage, is_full}
use Rattle.alt_streams.specs.declared.page.Page.{Page}
use Rattle.alt_streams.proofs.Filled.{page_all, page_ended}
use Rattle.alt_streams.proofs.Numbers.{Rise, behind_front, past-append}
use Rattle.alt_request.proofs.Named.{table_found}
use Rattle.alt_request.proofs.Reaching.{err_is}
use Rattle.alt_request.specs.TablesFaults.{IsFindFault, IsReadFault}
use Rattle.alt_request.specs.TablesStands.{KeepsCatalog, Stands, catalog_of}
use Rattle.alt_request.specs.TablesDeclaredTableFault.{TableFault}
use Rattle.alt_request.specs.TablesDeclaredTableFault.TheVariants.{Spent, Damaged, BadRow, Failed, NoMemory}
use Rattle.alt_request.specs.TablesDeclaredTables.{Tables}
use Rattle.alt_value.specs.Tree.{Pair}

-- ---- the changes of a valid state

sized : (d : TableSchema) (place : List ℕ) (o : Option (List Pair)) → IfSome o (IsStored d place)
    → IsSized o
sized d place None h = tt
sized d place (Some item) h = h.size

is_fit : (d : TableSchema) (next : ℕ) → next < 2 ^ 62 → (c : Change) → IsChange d next c → IsFit c
is_fit d next small c is = (
  omega (arith, is.number, small),
  (sized d is.place c.old is.old, sized d is.place c.new is.new),
)

module _ (s : State) (valid : IsValid s) (name : List ℕ) (t : Table)
    (at : finite.get s.tables name ≡ Some t) where
  -- those of a piece may be put into a page
  pub piece_fit : (from k : ℕ) → All IsFit (take k (changes_from from t.changes))
  piece_fit from k = All-take IsFit k (changes_from from t.changes)
      (All-filter (λ (c : Change). nat_le from c.number) IsFit t.changes
      (All-weaker (IsChange t.description s.next_number) IsFit
      (is_fit t.description s.next_number (omega (arith, valid.next_number.1)))
      t.changes (valid.tables name t at).changes.each))

  -- the numbers of a table's changes rise
  pub rising : Rise (λ (c : Change). c.number) t.changes
  rising = (valid.tables name t at).changes.rise

-- ---- a piece

module _ (d : TableSchema) (shows : View) (most from : ℕ) (seen changes : List Change) where
  -- the records of a front of the changes were put behind those that were there, and these are ahead
  pub record SoFar (now : Page) (ahead : List Change) : Type 0 where
    pub front : List Change
    pub is : changes ≡ front ++ ahead
    pub read : PageHasRecords d shows most from now (seen ++ front)

  -- with nothing read yet, the page has what was read so far
  pub none_yet : (page : Page) → PageHasRecords d shows most from page seen → SoFar page changes
  none_yet page h = record {
    front = [];
    is = refl;
    read = subst (PageHasRecords d shows most from page) (sym (append-nil seen)) h;
  }

  module _ (now then : Page) (c : Change) (ahead : List Change) (so : SoFar now (c ∷ ahead)) where
    pub next_fit : All IsFit changes → IsFit c
    next_fit all = All-ahead IsFit so.front c ahead (subst (All IsFit) so.is all)

    -- one more
    pub one_more : PageHasRecords d shows most from then ((seen ++ so.front) ++ c ∷ []) → SoFar then ahead
    one_more h = record {
      front = so.front ++ c ∷ [];
      is = so.is ∙ sym (append_assoc so.front (c ∷ []) ahead);
      read = subst (PageHasRecords d shows most from then) (append_assoc seen so.front (c ∷ [])) h;
    }

    -- which is the last
    pub one_last : PageHasRecords d shows most from then ((seen ++ so.front) ++ c ∷ [])
        → is_full then ≡ true → Puts d shows most from then seen changes false
    one_last h full = let more = one_more h in (more.front, ahead, more.is, more.read, full)

  -- all changes that were read are put into the page
  pub all_put : (now : Page) → SoFar now [] → Puts d shows most from now seen changes true
  all_put now so = subst (λ l. PageHasRecords d shows most from now (seen ++ l))
      (sym (so.is ∙ append-nil so.front)) so.read

-- ---- a step

take_short : {A : Type 0} (k : ℕ) (xs : List A) → length (take k xs) < k → take k xs ≡ xs
take_short zero xs h = absurd (omega (arith, h))
take_short (suc k) [] h = refl
take_short (suc k) (x ∷ xs) h = ap (λ l. x ∷ l) (take_short k xs (omega (arith, h)))

module _ (d : TableSchema) (shows : View) (most from : ℕ) (seen : List Change) (t : Table)
    (rise : Rise (λ (c : Change). c.number) t.changes) (old now : Page)
    (was : PageHasRecords d shows most from old seen) (k : ℕ) (got : List Change)
    (is : got ≡ take k (changes_from old.next t.changes)) where
  abbrev list : List Change
  list = changes_from old.next t.changes

  abbrev rest : List Change
  rest = drop k list

  split : list ≡ got ++ rest
  split = sym (take-append-drop k list) ∙ ap (λ l. l ++ rest) (sym is)

  -- it goes on
  pub step_on : Puts d shows most from now seen got true
      → StepsPage d shows most from now seen t list true
  step_on h =
      let next : now.next ≡ next_from old.next got =
      h.next ∙ past-append (λ (c : Change). c.number) from seen got
      ∙ ap (λ n. next_from n got) (sym was.next) in (
        got,
        h,
        split ∙ ap (λ l. got ++ l) (sym (ap (λ n. changes_from n t.changes) next
            ∙ behind_front (λ (c : Change). c.number) old.next t.changes got rest rise split)),
      )

  -- the changes end with it
  pub step_last : Puts d shows most from now seen got true → length got < k
      → StepsPage d shows most from now seen t list false
  step_last h few = (
    got,
    [],
    sym (take_short k list (subst (λ l. length l < k) is few)) ∙ sym is ∙ sym (append-nil got),
    h,
    inr refl,
  )

  -- the page does
  pub step_full : Puts d shows most from now seen got false
      → StepsPage d shows most from now seen t list false
  step_full (front, behind, parts, h, full) = (
    front,
    behind ++ rest,
    split ∙ ap (λ l. l ++ rest) parts ∙ append_assoc front behind rest,
    h,
    inl full,
  )

-- ---- the page

module _ (d : TableSchema) (shows : View) (most from : ℕ) (t : Table) (list : List Change) where
  -- those were read, and the others are those from the page's next number on
  pub record IsRead (page : Page) : Type 0 where
    pub seen : List Change
    pub read : PageHasRecords d shows most from page seen
    pub whole : list ≡ seen ++ changes_from page.next t.changes

  -- a page that begins with nothing has read the changes from its place on
  pub read_begun : (page : Page) → PageHasRecords d shows most from page []
      → list ≡ changes_from page.next t.changes → IsRead page
  read_begun page h is = record { seen = []; read = h; whole = is }

  -- the records are those of the page of the list
  abbrev pub IsPage : Page → Type 0
  IsPage page = PageHasRecords d shows most from page (records_page most (record_size d shows) list)

  -- the page is full before a step
  pub ended_before : (page : Page) → IsRead page → is_full page ≡ true → IsPage page
  ended_before page so full = subst (PageHasRecords d shows most from page)
      (sym (ap (records_page most (record_size d shows)) so.whole
      ∙ page_ended d shows most from page so.seen (changes_from page.next t.changes) so.read full))
      so.read

  module _ (now then : Page) (so : IsRead now) where
    -- a step more
    pub read_on : StepsPage d shows most from then so.seen t (changes_from now.next t.changes) true
        → IsRead then
    read_on (front, h, is) = record {
      seen = so.seen ++ front;
      read = h;
      whole = so.whole ∙ ap (λ l. so.seen ++ l) is
          ∙ sym (append_assoc so.seen front (changes_from then.next t.changes));
    }

    -- the last one
    pub read_ended : StepsPage d shows most from then so.seen t (changes_from now.next t.changes) false
        → IsPage then
    read_ended (front, behind, is, h, inl full) = subst (PageHasRecords d shows most from then)
        (sym (ap (records_page most (record_size d shows)) (so.whole ∙ ap (λ l. so.seen ++ l) is
        ∙ sym (append_assoc so.seen front behind))
        ∙ page_ended d shows most from then (so.seen ++ front) behind h full)) h
    read_ended (front, behind, is, h, inr none) = subst (PageHasRecords d shows most from then)
        (sym (ap (records_page most (record_size d shows)) (so.whole ∙ ap (λ l. so.seen ++ l)
        (is ∙ ap (λ l. front ++ l) none ∙ append-nil front))
        ∙ page_all d shows most from then (so.seen ++ front) h)) h

-- ---- the table, and what stops

module _ (disk : DiskState) (tables : Tables) (s : State) (stands : Stands disk tables s)
    (name : List ℕ) (now : Tables) (keeps : KeepsCatalog tables now) (d : TableSchema)
    (found : Some d ≡ finite.get (catalog_of now) name) where
  -- the description at hand is that of the table
  pub described : (t : Table) → finite.get s.tables name ≡ Some t → d ≡ t.description
  described t at = same_Some d t.description (found
      ∙ ap (λ m. finite.get m name) (keeps.catalog ∙ stands.catalog)
      ∙ get-descriptions s.tables name ∙ ap (option_map (λ (x : Table). x.description)) at)

  -- which is there
  pub there : (t : Table) × (finite.get s.tables name ≡ Some t)
  there = let (t, at, is) = table_found s (catalog_of tables) (sym stands.catalog) name d
      (sym (found ∙ ap (λ m. finite.get m name) keeps.catalog)) in (t, at)

-- what is put by a description is put by the same
pub puts_at : (d e : TableSchema) → d ≡ e → (old now : Page) (changes : List Change) (more : Bool)
    → ((shows : View) (most from : ℕ) (seen : List Change) → d.view ≡ Some shows
    → PageHasRecords d shows most from old seen → All IsFit changes
    → Puts d shows most from now seen changes more)
    → (shows : View) (most from : ℕ) (seen : List Change) → e.view ≡ Some shows
    → PageHasRecords e shows most from old seen → All IsFit changes
    → Puts e shows most from now seen changes more
puts_at d e same old now changes more = subst (λ (x : TableSchema).
    (shows : View) (most from : ℕ) (seen : List Change) → x.view ≡ Some shows
    → PageHasRecords x shows most from old seen → All IsFit changes
    → Puts x shows most from now seen changes more) same

-- a fault of reading is one of finding
find_fault : (f : TableFault) → IsReadFault f → IsFindFault f
find_fault (Spent n) h = absurd h
find_fault (Damaged file at) h = absurd h
find_fault (BadRow family key) h = absurd h
find_fault Failed h = absurd h
find_fault NoMemory h = tt

module _ {A : Type 0} (r : Result A TableFault) (f : TableFault)
    (same : IsErr r × IsErrAnd r (λ e. e ≡ f)) where
  -- a fault that is passed on
  pub read_passed : IsReadFault f → IfErr r IsReadFault
  read_passed h = subst (λ q. IfErr q IsReadFault) (sym (err_is r f same)) h

  -- a fault of finding may be passed on
  pub find_passed : IsFindFault f → IfErr r IsFindFault
  find_passed h = subst (λ q. IfErr q IsFindFault) (sym (err_is r f same)) h

  -- and so may one of reading
  pub read_found : IsReadFault f → IfErr r IsFindFault
  read_found h = find_passed (find_fault f h)
