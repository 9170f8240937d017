-- What the page of a whole operation reads: that of the range that holds its list.
use Rattle.std.proofs.Common.{◌≡◌, ◌≤◌, ◌+◌, sym, ap, subst, ◌∙◌, ℕ, ◌||◌, Bool, true, List, Option, Some, None, Result, Ok, Err, IfSome, OnOk}
use Rattle.std.specs.FinMap as map
use Rattle.serde_json.specs.Data.{Members}
use Rattle.alt_cells.specs.Walks.{RowMap}
use Rattle.alt_disk.specs.Disk.{DiskState}
use Rattle.alt_expr.specs.Pages.{passes}
use Rattle.alt_machine.specs.Body.{paired_refusals}
use Rattle.alt_machine.specs.Expressions.{scanning, querying}
use Rattle.alt_machine.specs.Lists.{IsListed, is_mismatched, page_asked, walk_start}
use Rattle.alt_machine.specs.Members.{table_name}
use Rattle.alt_machine.specs.Ops.Query as querying_of
use Rattle.alt_machine.specs.Ops.Query.{query, queries, goes_forward, key_asked}
use Rattle.alt_machine.specs.Ops.Scan as scanning_of
use Rattle.alt_machine.specs.Ops.Scan.{scan, scans, is_in, is_segment_odd, segment_of}
use Rattle.alt_machine.specs.Refusals.{or_refused}
use Rattle.alt_machine.specs.Sources.{hash_of, index_at}
use Rattle.alt_machine.specs.State.{State, Table}
use Rattle.alt_machine.specs.Walks.{items_between}
use Rattle.alt_ops_query.specs.PageReads.{ReadsPage, ReadsQuery, ReadsScan, most_reads_of_page}
use Rattle.alt_ops_query.specs.Places.{HoldsListed}
use Rattle.alt_ops_query.specs.private.Asked.{IsRangeAsked, IsOfSegment}
use Rattle.alt_ops_query.proofs.Answering.{within_of}
use Rattle.alt_ops_query.proofs.Whole.{list_is, query_is, scan_is}
use Rattle.alt_request.specs.Targets.{IsListedAt}
use Rattle.alt_request.specs.declared.lists.ListTarget.{ListTarget}
use Rattle.alt_request.specs.declared.stop.Stop.{Stop}
use Rattle.alt_request.proofs.Listing.{list_reached}
use Rattle.alt_keyorder.specs.declared.range.KeyRange.{KeyRange}
use Rattle.alt_schema.specs.declared.schema.IndexSchema.{IndexSchema}
use Rattle.alt_schema.specs.declared.schema.TableSchema.{TableSchema}
use Rattle.alt_shape.specs.Bodies as bodies
use Rattle.alt_shape.specs.Refusals.{not_found}
use Rattle.alt_shape.specs.declared.refusal.Reply.{Reply}
use Rattle.alt_shape.specs.declared.rule.Broken.{Broken}
use Rattle.alt_request.specs.TablesReading.{HasRowFiles, family_read}
use Rattle.alt_request.specs.TablesStands.{Stands, catalog_of}
use Rattle.alt_request.specs.TablesDeclaredTables.{Tables}
use Rattle.alt_value.specs.Tree.{Pair}
use Rattle.alt_views.specs.Readable.{CanRead}

module _ (before after : DiskState) (tables : Tables) (ms : Members) (target : ListTarget)
    (range : KeyRange) (r : Result Reply Stop) (s : State) (stands : Stands before tables s)
    (within : IfSome target.index (λ n. CanRead target.schema.now n)) where
  -- the index that is read, in a description
  abbrev source_in : TableSchema → Option IndexSchema
  source_in d = index_at d target.index

  -- a page of the range of that table, in that direction, was paid for
  abbrev IsPaid : Bool → Type 0
  IsPaid forward = (t : Table) (maps : List RowMap) → map.get s.tables (table_name ms) ≡ Some t
      → HasRowFiles before.file (family_read t.description (source_in t.description)) maps
      → OnOk r (after.reads ≤ before.reads
      + most_reads_of_page t (source_in t.description) forward range.from range.to
      (page_asked ms target.said)
      (items_between t (source_in t.description) range.from range.to forward) maps)

  -- the page of a range that holds the list of a test is read
  page_reads : (t : Table) → map.get s.tables (table_name ms) ≡ Some t
      → t.description ≡ target.schema.now → map.get (catalog_of tables) (table_name ms)
      ≡ Some target.schema.now → (forward : Bool) (place : Option (List ℕ))
      (test : List Pair → Bool)
      → HoldsListed forward place test target.schema.now (source_in target.schema.now) range.from
      range.to
      → ((maps : List RowMap)
      → HasRowFiles before.file (family_read t.description (source_in t.description)) maps
      → after.reads ≤ before.reads
      + most_reads_of_page t (source_in t.description) forward range.from range.to
      (page_asked ms target.said)
      (items_between t (source_in t.description) range.from range.to forward) maps)
      → ReadsPage before after t (source_in t.description) forward place test
      (page_asked ms target.said)
  page_reads t at same known forward place test holds paid = record {
    from = range.from;
    to = range.to;
    holds = subst (λ x. HoldsListed forward place test x (source_in x) range.from range.to)
        (sym same) holds;
    reads = λ maps has. subst (λ l. after.reads ≤ before.reads
        + most_reads_of_page t (source_in t.description) forward range.from range.to
        (page_asked ms target.said) l maps)
        (list_is before tables s stands (table_name ms) t at target.schema.now same target.index
        (within_of (catalog_of tables) (table_name ms) target.index target.schema.now known within)
        forward place test range holds) (paid maps has);
  }

  -- that of a Query
  pub query_reads : (broken : Option Broken) (mismatched : Bool) → broken ≡ bodies.query ms
      → mismatched ≡ is_mismatched ms
      → IsListedAt (paired_refusals broken mismatched querying_of.rules ms) querying
      (catalog_of tables) ms target
      → IsRangeAsked target.schema.now (source_in target.schema.now) target.said.key_condition
      target.start (goes_forward ms) range
      → IsPaid (goes_forward ms) → OnOk r (ReadsQuery s ms before after)
  query_reads broken mismatched e f is asked = by r
    where
      by : (q : Result Reply Stop) → ((t : Table) (maps : List RowMap)
          → map.get s.tables (table_name ms) ≡ Some t
          → HasRowFiles before.file (family_read t.description (source_in t.description)) maps
          → OnOk q (after.reads ≤ before.reads
          + most_reads_of_page t (source_in t.description) (goes_forward ms) range.from range.to
          (page_asked ms target.said)
          (items_between t (source_in t.description) range.from range.to (goes_forward ms)) maps))
          → OnOk q (ReadsQuery s ms before after)
      by (Err stop) paid = tt
      by (Ok reply) paid =
          let (t, at, same, so) = list_reached before tables
          (paired_refusals broken mismatched querying_of.rules ms) ms (λ s. query s ms) querying
          (λ s. queries ms) (query_is ms broken mismatched e f) target is s stands in
          record {
            table = t;
            there = ap (or_refused not_found) at;
            said = target.said;
            start = target.start;
            index = target.index;
            listed = subst (λ (x : TableSchema). IsListed (querying_of.of_body ms) querying ms x
                target.said target.start target.index) (sym same)
                (subst (λ tests. IsListed tests querying ms target.schema.now target.said
                target.start target.index)
                (λ i. paired_refusals (e i) (f i) querying_of.rules ms) is.listed);
            ask = asked.ask;
            asks = ap (λ x. key_asked x (source_in x) target.said.key_condition) same ∙ asked.asks;
            place = asked.place;
            starts = ap (λ x. walk_start x (source_in x) (Some asked.ask.hash) target.start) same
                ∙ asked.starts;
            page = page_reads t at same is.there (goes_forward ms) asked.place
                (passes target.said.key_condition) asked.holds (λ maps. paid t maps at);
          }

  -- and that of a Scan
  pub scan_reads : (broken : Option Broken) (mismatched : Bool) → broken ≡ bodies.scan ms
      → mismatched ≡ (is_mismatched ms || is_segment_odd ms)
      → IsListedAt (paired_refusals broken mismatched scanning_of.rules ms) scanning
      (catalog_of tables) ms target
      → IsOfSegment target.schema.now (source_in target.schema.now) (segment_of ms) target.start
      range
      → IsPaid true → OnOk r (ReadsScan s ms before after)
  scan_reads broken mismatched e f is asked = by r
    where
      by : (q : Result Reply Stop) → ((t : Table) (maps : List RowMap)
          → map.get s.tables (table_name ms) ≡ Some t
          → HasRowFiles before.file (family_read t.description (source_in t.description)) maps
          → OnOk q (after.reads ≤ before.reads
          + most_reads_of_page t (source_in t.description) true range.from range.to
          (page_asked ms target.said)
          (items_between t (source_in t.description) range.from range.to true) maps))
          → OnOk q (ReadsScan s ms before after)
      by (Err stop) paid = tt
      by (Ok reply) paid =
          let (t, at, same, so) = list_reached before tables
          (paired_refusals broken mismatched scanning_of.rules ms) ms (λ s. scan s ms) scanning
          (λ s. scans ms) (scan_is ms broken mismatched e f) target is s stands in
          record {
            table = t;
            there = ap (or_refused not_found) at;
            said = target.said;
            start = target.start;
            index = target.index;
            listed = subst (λ (x : TableSchema). IsListed (scanning_of.of_body ms) scanning ms x
                target.said target.start target.index) (sym same)
                (subst (λ tests. IsListed tests scanning ms target.schema.now target.said
                target.start target.index)
                (λ i. paired_refusals (e i) (f i) scanning_of.rules ms) is.listed);
            place = asked.place;
            starts = ap (λ x. walk_start x (source_in x) None target.start) same ∙ asked.starts;
            page = page_reads t at same is.there true asked.place
                (is_in (hash_of t.description (source_in t.description)) (segment_of ms))
                (subst (λ x. HoldsListed true asked.place
                (is_in (hash_of x (source_in x)) (segment_of ms)) target.schema.now
                (source_in target.schema.now) range.from range.to) (sym same) asked.holds)
                (λ maps. paid t maps at);
          }
