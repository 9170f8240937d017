-- The table that a GetRecords reaches, in each state that has the tables of a catalog.
use Rattle.std.proofs.Common.{◌≡◌, refl, sym, ap, ◌∙◌, ℕ, Bool, true, false, cond, T, List, [], ◌∷◌, map, Option, Some, None, option_map, is_some, IsSome, bytes_eq, codes, Err}
use Rattle.std.specs.FinMap as finite
use Rattle.std.specs.FinMap.{entries, entries_sorted, get-entries}
use Rattle.std.specs.FinMap.Entries.{find as at_key, is_sorted}
use Rattle.std.specs.List.{find}
use Rattle.std.specs.Option.{option_map_or}
use Rattle.std.proofs.lemmas.Slice.Eq.{bytes_eq-Decides}
use Rattle.std.proofs.lemmas.Bool.{and_parts}
use Rattle.std.proofs.lemmas.Option.{same_Some}
use Rattle.alt_base.proofs.Bools.{second_holds}
use Rattle.serde_json.specs.Data.{Members, no_members}
use Rattle.alt_disk.specs.Disk.{DiskState}
use Rattle.alt_machine.specs.Body.{of_shape}
use Rattle.alt_machine.specs.Changes.{record_size}
use Rattle.alt_machine.specs.Ops.GetRecords.{changes_from, get_records, page_length, records_page, pages, records_answer}
use Rattle.alt_machine.specs.Outcomes.{Outcome, says, refuses, unless_refused, with_found}
use Rattle.alt_machine.specs.Refusals.{first_answer, refuse_if}
use Rattle.alt_machine.specs.State.{State, Table, Texts, descriptions}
use Rattle.alt_machine.specs.Streams.{Iterator, is_stream, iterator_of, stream_at, table_of_stream}
use Rattle.alt_machine.specs.Trimming.{is_trimmed}
use Rattle.alt_machine.specs.Valid.{IsValid}
use Rattle.alt_request.specs.TablesOpeningTrimmed.{AreTrimmedOf, number_at}
use Rattle.alt_request.specs.TablesOpeningDeclaredTrimmed.{Trimmed}
use Rattle.alt_machine.proofs.Descriptions.{get-descriptions}
use Rattle.alt_machine.proofs.Tests.{passed, stopped, found_some, found_none}
use Rattle.alt_request.specs.declared.stop.Stop.{Stop}
use Rattle.alt_request.specs.declared.stop.Stop.TheVariants.{Refused, Fault}
use Rattle.alt_schema.specs.Json.{stream_arn}
use Rattle.alt_schema.specs.Stated.{text_of}
use Rattle.alt_schema.specs.declared.schema.TableSchema.{TableSchema}
use Rattle.alt_schema.specs.declared.schema.View.{View}
use Rattle.alt_shape.specs.Bodies as bodies
use Rattle.alt_shape.specs.Refusals.{Answer, answered, bad_stream_argument, not_found, change_records_trimmed}
use Rattle.alt_streams.specs.private.Named.{IsStreamOf, OnStream}
use Rattle.alt_streams.specs.private.Paged.{iterator_at}
use Rattle.alt_streams.specs.private.Placed.{IsIteratorPlace, OnStreaming, has_stream}
use Rattle.alt_streams.specs.declared.records.Place.{Place}
use Rattle.alt_streams.proofs.Entries.{behind, here}
use Rattle.alt_request.specs.TablesStands.{Stands, catalog_of, trimmed_of}
use Rattle.alt_request.specs.TablesDeclaredTables.{Tables}
use Rattle.alt_value.specs.Members.{text_order}

-- ---- what is found among entries

module _ {X : Type 0} (p : X → Bool) (x : X) where
  -- it stands at a key
  found_at : (es : List (List ℕ × X)) → T (is_sorted text_order es)
      → find p (map (λ e. e.1) es) ≡ Some x → (k : List ℕ) × (at_key text_order k es ≡ Some x)
  found_at [] sorted e = absurd (let no : ⊥ = cc in no)
  found_at (y ∷ es) sorted e = by (p y.1) e (found_at es (second_holds _ _ sorted))
    where
      by : (b : Bool) → cond b (Some y.1) (find p (map (λ e. e.1) es)) ≡ Some x
          → (find p (map (λ e. e.1) es) ≡ Some x → (k : List ℕ) × (at_key text_order k es ≡ Some x))
          → (k : List ℕ) × (at_key text_order k (y ∷ es) ≡ Some x)
      by true is more = (y.0, here y es ∙ is)
      by false is more = let (k, at) = more is in (k, behind y es sorted k x at)

  -- and passes the test
  found_so : (es : List (List ℕ × X)) → find p (map (λ e. e.1) es) ≡ Some x → p x ≡ true
  found_so [] e = absurd (let no : ⊥ = cc in no)
  found_so (y ∷ es) e = by (p y.1) refl e (found_so es)
    where
      by : (b : Bool) → p y.1 ≡ b → cond b (Some y.1) (find p (map (λ e. e.1) es)) ≡ Some x
          → (find p (map (λ e. e.1) es) ≡ Some x → p x ≡ true) → p x ≡ true
      by true so is more = ap p (sym (same_Some y.1 x is)) ∙ so
      by false so is more = more is

-- ---- the table of a stream

-- a stream's name is that of its table's
pub stream_is : (arn : List ℕ) (d : TableSchema) → is_stream arn d ≡ true
    → (is_some d.view ≡ true) × (stream_arn d.name d.number ≡ arn)
stream_is arn d e =
    let is = and_parts (is_some d.view) (bytes_eq (stream_arn d.name d.number) arn) e in
    (is.0, (bytes_eq-Decides (stream_arn d.name d.number) arn).0 is.1)

module _ (s : State) (valid : IsValid s) (arn : List ℕ) (t : Table)
    (is : table_of_stream s arn ≡ Some t) where
  -- it stands under its own name
  pub stream_stands : finite.get s.tables t.description.name ≡ Some t
  stream_stands =
      let (k, at) = found_at (λ (u : Table). is_stream arn u.description) t (entries s.tables)
      (entries_sorted s.tables) is in
      let there : finite.get s.tables k ≡ Some t = get-entries s.tables k ∙ at in
      ap (finite.get s.tables) (valid.tables k t there).named ∙ there

  -- the table that was reached has a stream, of the name that the iterator has
  pub stream_named : (is_some t.description.view ≡ true)
      × (stream_arn t.description.name t.description.number ≡ arn)
  stream_named = stream_is arn t.description
      (found_so (λ (u : Table). is_stream arn u.description) t (entries s.tables) is)

module _ (catalog : Texts TableSchema) (arn : List ℕ) (d : TableSchema)
    (is : IsStreamOf catalog arn (Some d)) where
  -- the table in a state that has these tables
  pub stream_table : (s : State) → IsValid s → descriptions s.tables ≡ catalog
      → (t : Table) × (table_of_stream s arn ≡ Some t) × (t.description ≡ d)
      × (finite.get catalog d.name ≡ Some d)
  stream_table s valid same = by (table_of_stream s arn) refl (is s valid same)
    where
      by : (o : Option Table) → table_of_stream s arn ≡ o
          → option_map (λ (t : Table). t.description) o ≡ Some d
          → (t : Table) × (table_of_stream s arn ≡ Some t) × (t.description ≡ d)
          × (finite.get catalog d.name ≡ Some d)
      by None found e = absurd (let no : ⊥ = cc in no)
      by (Some t) found e =
          let one : t.description ≡ d = same_Some t.description d e in (
            t,
            found,
            one,
            ap (λ m. finite.get m d.name) (sym same) ∙ get-descriptions s.tables d.name
                ∙ ap (λ n. option_map (λ (u : Table). u.description) (finite.get s.tables n))
                (sym (ap (λ (x : TableSchema). x.name) one))
                ∙ ap (option_map (λ (u : Table). u.description)) (stream_stands s valid arn t found)
                ∙ ap (λ (x : TableSchema). Some x) one,
          )

  -- what is found under its name is it
  pub streams_so : IsStreamOf catalog arn (finite.get catalog d.name)
  streams_so s valid same =
      let (t, found, one, own) = stream_table s valid same in
      ap (option_map (λ (u : Table). u.description)) found
      ∙ ap (λ (x : TableSchema). Some x) one ∙ sym own

  -- and has a stream
  pub streams_none : has_stream (finite.get catalog d.name) ≡ false → IsStreamOf catalog arn None
  streams_none without s valid same =
      let (t, found, one, own) = stream_table s valid same in
      let has : is_some d.view ≡ true = ap (λ (x : TableSchema). is_some x.view) (sym one)
      ∙ (stream_named s valid arn t found).0 in
      absurd (let no : true ≡ false = sym has ∙ sym (ap has_stream own) ∙ without in cc no)

-- a stop is passed on
pub stop_named : (catalog : Texts TableSchema) (arn : List ℕ) (stop : Stop)
    → OnStream catalog arn (Err stop) → OnStreaming catalog arn (Err stop)
stop_named catalog arn (Refused r) h = h
stop_named catalog arn (Fault f) h = h

-- a table with a stream is there
pub stream_there : (o : Option TableSchema) → has_stream o ≡ true → is_some o ≡ true
stream_there None e = absurd (let no : ⊥ = cc in no)
stream_there (Some d) e = refl

-- a stream that a description has shows a view
pub stream_shows : (o : Option TableSchema) (d : TableSchema) → has_stream o ≡ true → o ≡ Some d
    → IsSome d.view
stream_shows o d e is = sym (ap has_stream is) ∙ e

module _ (s : State) (valid : IsValid s) (catalog : Texts TableSchema)
    (same : descriptions s.tables ≡ catalog) (arn name : List ℕ)
    (stream : has_stream (finite.get catalog name) ≡ true)
    (named : IsStreamOf catalog arn (finite.get catalog name)) where
  -- the descriptions at hand are those of the tables
  described : finite.get catalog name
      ≡ option_map (λ (u : Table). u.description) (finite.get s.tables name)
  described = ap (λ m. finite.get m name) (sym same) ∙ get-descriptions s.tables name

  abbrev Reached : Type 0
  Reached = (t : Table) × (table_of_stream s arn ≡ Some t) × (finite.get s.tables name ≡ Some t)

  by_stream : (u : Table) → finite.get s.tables name ≡ Some u → (o : Option Table)
      → table_of_stream s arn ≡ o
      → option_map (λ (t : Table). t.description) o ≡ Some u.description → Reached
  by_stream u at None found e = absurd (let no : ⊥ = cc in no)
  by_stream u at (Some t) found e =
      let one : t.description ≡ u.description = same_Some t.description u.description e in
      let own : t.description.name ≡ name =
      ap (λ (d : TableSchema). d.name) one ∙ (valid.tables name u at).named in (
        t,
        found,
        sym (ap (finite.get s.tables) own) ∙ stream_stands s valid arn t found,
      )

  by_name : (o : Option Table) → finite.get s.tables name ≡ o → Reached
  by_name None at = absurd (let no : false ≡ true =
      sym (ap has_stream (described ∙ ap (option_map (λ (u : Table). u.description)) at))
      ∙ stream in
      cc no)
  by_name (Some u) at = by_stream u at (table_of_stream s arn) refl
      (named s valid same ∙ described ∙ ap (option_map (λ (t : Table). t.description)) at)

  -- the table whose stream has the name
  pub reached : Reached
  reached = by_name (finite.get s.tables name) refl

-- the number that is known of a table's name is what was trimmed of it
pub known_at : (s : State) (known : List Trimmed) → AreTrimmedOf s.tables known → (name : List ℕ)
    (t : Table) → finite.get s.tables name ≡ Some t → number_at name known ≡ t.trimmed
known_at s known so name t at =
    so name ∙ ap (λ o. option_map_or (λ (t : Table). t.trimmed) o 0) at

-- ---- what a GetRecords comes to

module _ (ms : Members) where
  abbrev text : List ℕ
  text = text_of (codes "ShardIterator") ms

  abbrev tests : List (Option Answer)
  tests = of_shape (bodies.get_records ms) ∷ []

  -- a GetRecords whose body is unfit is refused so
  pub records_broken : (s : State) (a : Answer) → first_answer tests ≡ Some a
      → get_records s ms ≡ says a
  unfolding get_records
  records_broken s a e = stopped tests _ a e

  module _ (free : first_answer tests ≡ None) where
    pub records_unread : (s : State) → iterator_of text ≡ None
        → get_records s ms ≡ refuses bad_stream_argument
    unfolding get_records
    records_unread s e = passed tests _ free ∙ found_none bad_stream_argument (iterator_of text) _ e

    module _ (i : Iterator) (reads : iterator_of text ≡ Some i) where
      -- behind the test whether it was trimmed a page is answered
      abbrev goes : Table → Outcome
      goes t = unless_refused (refuse_if (is_trimmed t.trimmed i.from) change_records_trimmed ∷ [])
          (says (pages t ms i))

      pub records_at : (s : State) → get_records s ms ≡ with_found (stream_at s i.arn) goes
      unfolding get_records
      records_at s =
          passed tests _ free ∙ found_some bad_stream_argument (iterator_of text) _ i reads

      pub records_missed : (catalog : Texts TableSchema) → IsStreamOf catalog i.arn None
          → (s : State) → IsValid s → descriptions s.tables ≡ catalog
          → get_records s ms ≡ refuses not_found
      records_missed catalog none s valid same = records_at s
          ∙ found_none not_found (table_of_stream s i.arn) _
          (by (table_of_stream s i.arn) (none s valid same))
        where
          by : (o : Option Table) → option_map (λ (t : Table). t.description) o ≡ None → o ≡ None
          by None e = refl
          by (Some t) e = absurd (let no : ⊥ = cc in no)

      pub records_found : (s : State) (t : Table) → table_of_stream s i.arn ≡ Some t
          → is_trimmed t.trimmed i.from ≡ false → get_records s ms ≡ says (pages t ms i)
      records_found s t is kept =
          records_at s ∙ found_some not_found (table_of_stream s i.arn) goes t is
          ∙ ap (λ b. unless_refused (refuse_if b change_records_trimmed ∷ []) (says (pages t ms i))) kept

      -- what was trimmed is refused
      pub records_trimmed : (catalog : Texts TableSchema) (known : List Trimmed) (name : List ℕ)
          → has_stream (finite.get catalog name) ≡ true
          → IsStreamOf catalog i.arn (finite.get catalog name)
          → (s : State) → IsValid s → descriptions s.tables ≡ catalog
          → AreTrimmedOf s.tables known → is_trimmed (number_at name known) i.from ≡ true
          → get_records s ms ≡ refuses change_records_trimmed
      records_trimmed catalog known name stream named s valid same so e =
          let (t, found, at) = reached s valid catalog same i.arn name stream named in
          records_at s ∙ found_some not_found (table_of_stream s i.arn) goes t found
          ∙ ap (λ b. unless_refused (refuse_if b change_records_trimmed ∷ []) (says (pages t ms i)))
          (ap (λ n. is_trimmed n i.from) (sym (known_at s known so name t at)) ∙ e)

-- the page of a table whose stream shows so much
pub pages_so : (t : Table) (ms : Members) (i : Iterator) (shows : View)
    → t.description.view ≡ Some shows → pages t ms i ≡ records_answer t.description i
    (records_page (page_length ms) (record_size t.description shows) (changes_from i.from t.changes))
    shows
pages_so t ms i shows e = ap (λ (o : Option View). option_map_or
    (λ view. records_answer t.description i
    (records_page (page_length ms) (record_size t.description view) (changes_from i.from t.changes))
    view)
    o (answered no_members)) e

module _ (disk : DiskState) (tables : Tables) (ms : Members) (place : Place)
    (is : IsIteratorPlace (catalog_of tables) (trimmed_of tables) ms place) (most : ℕ) (m : most ≡ page_length ms) where
  -- the reply is the page's, in each state for which the tables stand
  abbrev pub Told : Answer → Type 0
  Told answer = (s : State) (t : Table) (shows : View) → Stands disk tables s
      → finite.get s.tables place.table ≡ Some t → t.description.view ≡ Some shows
      → answer ≡ records_answer t.description (iterator_at t.description place.from)
      (records_page most (record_size t.description shows) (changes_from place.from t.changes)) shows

  -- of the table that was reached, the answer is as its view says
  by_view : (answer : Answer) → Told answer → (s : State) → Stands disk tables s → (t : Table)
      → table_of_stream s is.iterator.arn ≡ Some t → finite.get s.tables place.table ≡ Some t
      → stream_arn t.description.name t.description.number ≡ is.iterator.arn
      → (o : Option View) → t.description.view ≡ o → is_some o ≡ true
      → get_records s ms ≡ says answer
  by_view answer told s stands t found at named None view some = absurd (let no : ⊥ = cc in no)
  by_view answer told s stands t found at named (Some shows) view some =
      records_found ms is.body is.iterator is.reads s t found
      (ap (λ n. is_trimmed n is.iterator.from)
      (sym (known_at s (trimmed_of tables) stands.trimmed place.table t at))
      ∙ ap (is_trimmed (number_at place.table (trimmed_of tables))) (sym is.from) ∙ is.kept)
      ∙ ap says (pages_so t ms is.iterator shows view
      ∙ sym (told s t shows stands at view
      ∙ (λ j. records_answer t.description (record { arn = named j; from = is.from j })
      (records_page (m j) (record_size t.description shows) (changes_from (is.from j) t.changes))
      shows)))

  -- what is told of the place is what a GetRecords answers
  pub records_told : (answer : Answer) → Told answer → (s : State) → Stands disk tables s
      → get_records s ms ≡ says answer
  records_told answer told s stands =
      let (t, found, at) = reached s stands.valid (catalog_of tables) (sym stands.catalog)
      is.iterator.arn place.table is.stream is.named in
      let named = stream_named s stands.valid is.iterator.arn t found in
      by_view answer told s stands t found at named.1 t.description.view refl named.0
