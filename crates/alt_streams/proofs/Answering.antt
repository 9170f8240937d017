-- What a ListStreams comes to.
use Rattle.std.proofs.Common.{◌≡◌, refl, sym, ap, ◌∙◌, ℕ, ◌&&◌, Bool, true, false, nat_lt, take, length, List, [], ◌∷◌, map, Option, Some, None, option_map, codes, Result, Ok, Err, IfOk}
use Rattle.std.specs.Prelude.{is_some, option_and_then}
use Rattle.std.specs.FinMap as finite
use Rattle.std.specs.FinMap.{entries, entries_sorted, get-entries}
use Rattle.std.specs.List.{filter}
use Rattle.std.specs.Option.{option_map_or}
use Rattle.std.specs.Ordering.{is_lt}
use Rattle.alt_base.proofs.Bools.{or_nothing}
use Rattle.serde_json.specs.Data.{Data, Members, string, array, item, member, no_members}
use Rattle.serde_json.specs.View.{view}
use Rattle.serde_json.specs.Written.{has_float, items_have_float, members_have_float}
use Rattle.alt_disk.specs.Disk.{DiskState}
use Rattle.alt_machine.specs.Ops.ListStreams.{is_after, listed, refusals, start_stream_arn, stream_json, streams_answer, list_streams}
use Rattle.alt_machine.specs.Ops.ListTables.{page_length}
use Rattle.alt_machine.specs.Outcomes.{says, refuses}
use Rattle.alt_machine.specs.Refusals.{first_answer}
use Rattle.alt_machine.specs.State.{State, Table, Texts, descriptions}
use Rattle.alt_machine.specs.Streams.{all_tables, table_of_stream}
use Rattle.alt_machine.specs.Valid.{IsValid}
use Rattle.alt_machine.proofs.Descriptions.{entries-descriptions}
use Rattle.alt_machine.proofs.Tests.{passed, stopped}
use Rattle.alt_request.specs.Carried.{Carries, IfFailed}
use Rattle.alt_request.specs.declared.stop.Stop.{Stop}
use Rattle.alt_request.specs.declared.stop.Stop.TheVariants.{Refused, Fault}
use Rattle.alt_request.proofs.Carrying.{refused_so, faulted}
use Rattle.alt_request.proofs.Moving.{unfailed_fault}
use Rattle.alt_request.proofs.Named.{table_found}
use Rattle.alt_schema.specs.Json.{items_by, member_if, stream_arn}
use Rattle.alt_schema.specs.Rules.{is_name}
use Rattle.alt_schema.specs.declared.schema.TableSchema.{TableSchema}
use Rattle.alt_shape.specs.Body.{body_json}
use Rattle.alt_shape.specs.Refusals.{Answer, answer_of, refused}
use Rattle.alt_shape.specs.declared.refusal.Refusal.{Refusal}
use Rattle.alt_shape.specs.declared.refusal.Reply.{Reply}
use Rattle.alt_streams.specs.private.Listed.{TablesHaveOwnNames, StartsAfterOrRefused, StartsAfter, all_in, is_listed, is_table_of_name, last_table_of_page, name_given, streams_page_answer, start_table_name, streams_after}
use Rattle.alt_streams.proofs.Entries.{chosen_alike}
use Rattle.alt_request.specs.TablesStands.{Stands, catalog_of}
use Rattle.alt_request.specs.TablesDeclaredTables.{Tables}
use Rattle.alt_schema.proofs.CutRows.{empty_before_name}
use Rattle.alt_value.specs.Members.{text_order}

-- ---- the tables that are known

each_description : (es : List (List ℕ × Table))
    → map (λ (t : Table). t.description) (map (λ (e : List ℕ × Table). e.1) es)
    ≡ map (λ (e : List ℕ × TableSchema). e.1)
    (map (λ (e : List ℕ × Table). (e.0, e.1.description)) es)
each_description [] = refl
each_description (e ∷ es) = ap (λ ds. e.1.description ∷ ds) (each_description es)

module _ (s : State) (valid : IsValid s) (catalog : Texts TableSchema)
    (same : descriptions s.tables ≡ catalog) where
  -- each description stands at its own name
  pub are_named : TablesHaveOwnNames catalog
  are_named name d at =
      let found = table_found s catalog same name d at in
      ap (λ (x : TableSchema). x.name) (sym found.2) ∙ (valid.tables name found.0 found.1).named

  -- the name of a table is one that a table can have
  has_name : (name : List ℕ) (d : TableSchema) → finite.get catalog name ≡ Some d
      → is_name d.name ≡ true
  has_name name d at =
      let found = table_found s catalog same name d at in
      ap (λ (x : TableSchema). is_name x.name) (sym found.2)
      ∙ (valid.tables name found.0 found.1).made.spelled

  all_known : map (λ (t : Table). t.description) (all_tables s) ≡ all_in catalog
  all_known = each_description (entries s.tables)
      ∙ ap (map (λ (e : List ℕ × TableSchema). e.1))
      (sym (entries-descriptions s.tables) ∙ ap entries same)

  abbrev chosen : Members → TableSchema → Bool
  chosen ms d = is_some d.view && (is_after s ms d && is_table_of_name (name_given ms) d)

  -- what the machine lists is what stands behind the name of the start
  pub listed-streams : (ms : Members) (start : Option TableSchema) → StartsAfter s ms start
      → listed s ms ≡ streams_after (start_table_name start) (name_given ms) catalog
  listed-streams ms start is = ap (filter (chosen ms)) all_known
      ∙ chosen_alike (chosen ms) (is_listed (start_table_name start) (name_given ms)) (entries catalog)
      (entries_sorted catalog)
      (λ j d at. ap (λ b. is_some d.view && (b && is_table_of_name (name_given ms) d))
      (by d (has_name j d (get-entries catalog j ∙ at))
      (option_and_then (table_of_stream s) (start_stream_arn ms)) start is))
    where
      by : (d : TableSchema) → is_name d.name ≡ true
          → (o : Option Table) (start : Option TableSchema)
          → option_map (λ (t : Table). t.description) o ≡ start
          → option_map_or (λ (t : Table). is_lt (text_order t.description.name d.name)) o true
          ≡ is_lt (text_order (option_map_or (λ (x : TableSchema). x.name) start []) d.name)
      by d spelled None start e = sym (empty_before_name d.name spelled)
          ∙ ap (λ (p : Option TableSchema). is_lt
          (text_order (option_map_or (λ (x : TableSchema). x.name) p [])
          d.name)) e
      by d spelled (Some t) start e =
          ap (λ (p : Option TableSchema). is_lt
          (text_order (option_map_or (λ (x : TableSchema). x.name) p [])
          d.name)) e

  -- where nothing refuses it, it answers the page of those
  pub list-page : (ms : Members) (start : Option TableSchema) → first_answer (refusals s ms) ≡ None
      → StartsAfter s ms start
      → list_streams s ms ≡ says (streams_answer (page_length ms)
      (streams_after (start_table_name start) (name_given ms) catalog))
  unfolding list_streams
  list-page ms start free is = passed (refusals s ms) _ free
      ∙ ap (λ ds. says (streams_answer (page_length ms) ds)) (listed-streams ms start is)

-- a ListStreams that its body refuses is refused so
pub list-refused : (s : State) (ms : Members) (r : Refusal)
    → first_answer (refusals s ms) ≡ Some (refused r) → list_streams s ms ≡ refuses r
unfolding list_streams
list-refused s ms r e = stopped (refusals s ms) _ (refused r) e

-- ---- the request stops

-- one that stops for what is asked changes nothing, and is answered so
pub asked_stops : {file : ℕ} (tables : Tables) (disk : DiskState) (now : State → Type 0) (ms : Members)
    (stop : Stop) → StartsAfterOrRefused (catalog_of tables) ms (Err stop)
    → ((s : State) → Stands disk tables s → now s)
    → Carries file (λ s. list_streams s ms) (Stands disk tables) now (Err stop)
asked_stops tables disk now ms (Refused r) h stays =
    refused_so (λ s. list_streams s ms) (Stands disk tables) now r h.0
    (λ s stands. list-refused s ms r (h.1 s stands.valid (sym stands.catalog))) stays
asked_stops tables disk now ms (Fault f) h stays =
    faulted (λ s. list_streams s ms) (Stands disk tables) now f h stays

-- nor did the device fail then
pub asked_unfailed : (P : Type 0) (tables : Tables) (ms : Members) (stop : Stop)
    → StartsAfterOrRefused (catalog_of tables) ms (Err stop) → IfFailed (Err stop) P
asked_unfailed P tables ms (Refused r) h = tt
asked_unfailed P tables ms (Fault f) h = unfailed_fault f P h

-- ---- the page

-- the streams of a page, told with the last where there are more, are the page of all streams
pub page-answered : (more : Bool) (ds all : List TableSchema) (most : ℕ) → ds ≡ take most all
    → more ≡ nat_lt most (length all) → streams_page_answer more ds ≡ streams_answer most all
page-answered more ds all most e f = λ i. streams_page_answer (f i) (e i)

streams_plain : (ds : List TableSchema) → items_have_float (items_by stream_json ds) ≡ false
streams_plain [] = refl
streams_plain (d ∷ ds) = streams_plain ds

members_plain : (o : Option TableSchema) (ds : List TableSchema)
    → members_have_float (member_if (codes "LastEvaluatedStreamArn")
    (option_map (λ d. string (stream_arn d.name d.number)) o)
    (member (codes "Streams") (array (items_by stream_json ds)) no_members)) ≡ false
members_plain None ds = or_nothing _ (streams_plain ds)
members_plain (Some d) ds = or_nothing _ (streams_plain ds)

-- a reply that lists streams has no float in it
pub reply_plain : {E : Type 0} (r : Result Reply E) (more : Bool) (ds : List TableSchema)
    → IfOk r (λ reply. answer_of reply ≡ streams_page_answer more ds)
    → IfOk r (λ reply. has_float (body_json reply.body) ≡ false)
reply_plain (Ok reply) more ds is =
    ap (λ (a : Answer). has_float a.body) is ∙ members_plain (last_table_of_page more ds) ds
reply_plain (Err e) more ds is = tt

-- ---- what each stream shows

-- what is shown of each as it is mapped is what is shown of the mapped list
pub items_by-each : {A B : Type 0} (shown : B → Data) (f : A → B) (xs : List A)
    → items_by (λ x. shown (f x)) xs ≡ items_by shown (map f xs)
items_by-each shown f [] = refl
items_by-each shown f (x ∷ xs) = ap (λ ds. item (shown (f x)) ds) (items_by-each shown f xs)
