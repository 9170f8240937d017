-- The operations as wholes: the page of a range that holds the list is that of the list, and what stops the program stops the machine.
use Rattle.std.proofs.Common.{◌≡◌, sym, ap, subst, ◌∙◌, ℕ, ◌||◌, Bool, true, List, Option, Some, None, Result, Err, IfSome}
use Rattle.std.specs.FinMap as map
use Rattle.serde_json.specs.Data.{Members}
use Rattle.alt_disk.specs.Disk.{DiskState}
use Rattle.alt_expr.specs.KeyForm.{Ask}
use Rattle.alt_expr.specs.Pages.{passes}
use Rattle.alt_expr.specs.declared.cond.Cond.{Cond}
use Rattle.alt_machine.specs.Body.{paired_refusals}
use Rattle.alt_machine.specs.declared.Expressions.{Expressions}
use Rattle.alt_machine.specs.Expressions.{scanning, querying}
use Rattle.alt_machine.specs.Lists.{is_mismatched, listed, on_list, pages, walk_start}
use Rattle.alt_machine.specs.Members.{table_name}
use Rattle.alt_machine.specs.Ops.Query as querying_of
use Rattle.alt_machine.specs.Ops.Query.{query, queries, goes_forward, key_asked}
use Rattle.alt_machine.specs.Ops.Scan as scanning_of
use Rattle.alt_machine.specs.Ops.Scan.{scan, scans, is_in, is_segment_odd, segment_of}
use Rattle.alt_machine.specs.Outcomes.{Outcome, with_found}
use Rattle.alt_machine.specs.Sources.{hash_of, index_at}
use Rattle.alt_machine.specs.State.{State, Table}
use Rattle.alt_machine.specs.Walks.{items_between}
use Rattle.alt_ops_query.specs.private.Asked.{IsRangeAskedOrRefused, IsRangeAsked, Segments, IsOfSegment}
use Rattle.alt_ops_query.specs.Places.{HoldsListed}
use Rattle.alt_ops_query.proofs.Answering.{within_of}
use Rattle.alt_ops_query.proofs.Described.{may_stand}
use Rattle.alt_ops_query.proofs.Lists.{items_between-listed}
use Rattle.alt_request.specs.Carried.{Carries, FollowsOutcome, IsPlainResult, IfFailed}
use Rattle.alt_request.specs.Targets.{IsListedAt}
use Rattle.alt_request.specs.declared.lists.ListTarget.{ListTarget}
use Rattle.alt_request.specs.declared.stop.Stop.{Stop}
use Rattle.alt_request.specs.declared.stop.Stop.TheVariants.{Refused, Fault}
use Rattle.alt_request.proofs.Carrying.{refused_so, faulted}
use Rattle.alt_request.proofs.Listing.{list_reached}
use Rattle.alt_request.proofs.Moving.{unfailed_fault}
use Rattle.alt_keyorder.specs.declared.range.KeyRange.{KeyRange}
use Rattle.alt_schema.specs.declared.schema.IndexSchema.{IndexSchema}
use Rattle.alt_schema.specs.declared.schema.TableSchema.{TableSchema}
use Rattle.alt_shape.specs.Bodies as bodies
use Rattle.alt_shape.specs.declared.refusal.Reply.{Reply}
use Rattle.alt_shape.specs.declared.rule.Broken.{Broken}
use Rattle.alt_request.specs.TablesStands.{Stands, catalog_of}
use Rattle.alt_request.specs.TablesDeclaredTables.{Tables}
use Rattle.alt_value.specs.Tree.{Pair}
use Rattle.alt_views.specs.Readable.{CanRead}

-- ---- the operations with the tests of their bodies

-- a Query is an operation on a list, behind tests of its body that were worked out before
pub query_is : (ms : Members) (broken : Option Broken) (mismatched : Bool)
    → broken ≡ bodies.query ms → mismatched ≡ is_mismatched ms → (s : State)
    → query s ms ≡ on_list (paired_refusals broken mismatched querying_of.rules ms) querying s ms
    (queries ms)
unfolding query
query_is ms broken mismatched e f s =
    λ i. on_list (paired_refusals (sym e i) (sym f i) querying_of.rules ms) querying s
    ms (queries ms)

-- so is a Scan, whose tests take in its segment
pub scan_is : (ms : Members) (broken : Option Broken) (mismatched : Bool)
    → broken ≡ bodies.scan ms → mismatched ≡ (is_mismatched ms || is_segment_odd ms) → (s : State)
    → scan s ms ≡ on_list (paired_refusals broken mismatched scanning_of.rules ms) scanning s ms
    (scans ms)
unfolding scan
scan_is ms broken mismatched e f s =
    λ i. on_list (paired_refusals (sym e i) (sym f i) scanning_of.rules ms) scanning s ms (scans ms)

-- ---- the page of a list

module _ (disk : DiskState) (tables : Tables) (s : State) (stands : Stands disk tables s)
    (name : List ℕ) (t : Table) (at : map.get s.tables name ≡ Some t) (d : TableSchema)
    (same : t.description ≡ d) (index : Option ℕ)
    (within : (x : TableSchema) → map.get (catalog_of tables) name ≡ Some x
    → IfSome index (λ n. CanRead x n)) where
  -- the items of a range that holds a list are the list
  pub list_is : (forward : Bool) (place : Option (List ℕ)) (test : List Pair → Bool) (range : KeyRange)
      → HoldsListed forward place test d (index_at d index) range.from range.to
      → items_between t (index_at t.description index) range.from range.to forward
      ≡ listed forward place test t (index_at t.description index)
  list_is forward place test range holds = items_between-listed t (index_at t.description index)
      (may_stand disk tables s stands name t at index within) forward place test range.from range.to
      (subst (λ x. HoldsListed forward place test x (index_at x index) range.from range.to)
      (sym same) holds)

  module _ (ms : Members) (said : Expressions) (now : State → Type 0) (r : Result Reply Stop)
      (range : KeyRange) where
    -- the index that is read
    abbrev there : Option IndexSchema
    there = index_at t.description index

    -- the page of the range that is asked for is that of the Query
    pub query_page : (file : ℕ) (start : Option (List Pair))
        → IsRangeAsked d (index_at d index) said.key_condition start (goes_forward ms) range
        → FollowsOutcome file now s (pages t.description there ms said
        (items_between t there range.from range.to (goes_forward ms))) r
        → FollowsOutcome file now s (queries ms said start t index) r
    query_page file start asked does = subst (λ o. FollowsOutcome file now s o r)
        (ap (pages t.description there ms said) (list_is (goes_forward ms) asked.place
        (passes said.key_condition) range asked.holds) ∙ sym found) does
      where
        go : Ask → Option (List ℕ) → Outcome
        go ask place = pages t.description there ms said
            (listed (goes_forward ms) place (passes said.key_condition) t there)

        found : queries ms said start t index ≡ go asked.ask asked.place
        found = ap (λ q. with_found q (λ ask. with_found
            (walk_start t.description there (Some ask.hash) start) (go ask)))
            (ap (λ x. key_asked x (index_at x index) said.key_condition) same ∙ asked.asks)
            ∙ ap (λ q. with_found q (go asked.ask))
            (ap (λ x. walk_start x (index_at x index) (Some asked.ask.hash) start) same
            ∙ asked.starts)

    -- and that of a segment's range is that of the Scan
    pub scan_page : (file : ℕ) (start : Option (List Pair))
        → IsOfSegment d (index_at d index) (segment_of ms) start range
        → FollowsOutcome file now s (pages t.description there ms said
        (items_between t there range.from range.to true)) r
        → FollowsOutcome file now s (scans ms said start t index) r
    scan_page file start asked does = subst (λ o. FollowsOutcome file now s o r)
        (ap (pages t.description there ms said) (list_is true asked.place
        (is_in (hash_of t.description there) (segment_of ms)) range
        (subst (λ x. HoldsListed true asked.place
        (is_in (hash_of x (index_at x index)) (segment_of ms))
        d (index_at d index) range.from range.to) (sym same) asked.holds)) ∙ sym found) does
      where
        go : Option (List ℕ) → Outcome
        go place = pages t.description there ms said
            (listed true place (is_in (hash_of t.description there) (segment_of ms)) t there)

        found : scans ms said start t index ≡ go asked.place
        found = ap (λ q. with_found q go)
            (ap (λ x. walk_start x (index_at x index) None start) same ∙ asked.starts)

-- ---- what stops an operation behind the steps to its list

module _ (file : ℕ) (disk : DiskState) (tables : Tables) (now : State → Type 0) (ms : Members)
    (target : ListTarget) (stop : Stop) (stays : (s : State) → Stands disk tables s → now s) where
  -- the index that is read, in a description
  abbrev there_in : TableSchema → Option IndexSchema
  there_in d = index_at d target.index

  -- what stops a Query on its way to a range is what it comes to
  pub query_stopped : (broken : Option Broken) (mismatched : Bool) → broken ≡ bodies.query ms
      → mismatched ≡ is_mismatched ms
      → IsListedAt (paired_refusals broken mismatched querying_of.rules ms) querying
      (catalog_of tables) ms target
      → IsRangeAskedOrRefused target.schema.now (there_in target.schema.now) target.said.key_condition target.start
      (goes_forward ms) (Err stop)
      → Carries file (λ s. query s ms) (Stands disk tables) now (Err stop)
  query_stopped broken mismatched e f is = by stop
    where
      reached : (s : State) → Stands disk tables s → (t : Table)
          × (map.get s.tables (table_name ms) ≡ Some t) × (t.description ≡ target.schema.now)
          × (query s ms ≡ queries ms target.said target.start t target.index)
      reached = list_reached disk tables (paired_refusals broken mismatched querying_of.rules ms) ms
          (λ s. query s ms) querying (λ s. queries ms) (query_is ms broken mismatched e f) target is

      go : Table → Ask → Option (List ℕ) → Outcome
      go t ask place = pages t.description (there_in t.description) ms target.said
          (listed (goes_forward ms) place (passes target.said.key_condition) t
          (there_in t.description))

      by : (q : Stop) → IsRangeAskedOrRefused target.schema.now (there_in target.schema.now)
          target.said.key_condition target.start (goes_forward ms) (Err q)
          → Carries file (λ s. query s ms) (Stands disk tables) now (Err q)
      by (Refused r) h = refused_so (λ s. query s ms) (Stands disk tables) now r h.0
          (λ s stands. let (t, at, same, is) = reached s stands in is
          ∙ ap (λ x. with_found (key_asked x (there_in x) target.said.key_condition) (λ ask.
          with_found (walk_start x (there_in x) (Some ask.hash) target.start) (go t ask))) same
          ∙ h.1 (go t)) stays
      by (Fault f) h = faulted (λ s. query s ms) (Stands disk tables) now f h stays

  -- and so it is with a Scan
  pub scan_stopped : (broken : Option Broken) (mismatched : Bool) → broken ≡ bodies.scan ms
      → mismatched ≡ (is_mismatched ms || is_segment_odd ms)
      → IsListedAt (paired_refusals broken mismatched scanning_of.rules ms) scanning
      (catalog_of tables) ms target
      → Segments target.schema.now (there_in target.schema.now) (segment_of ms) target.start
      (Err stop)
      → Carries file (λ s. scan s ms) (Stands disk tables) now (Err stop)
  scan_stopped broken mismatched e f is = by stop
    where
      reached : (s : State) → Stands disk tables s → (t : Table)
          × (map.get s.tables (table_name ms) ≡ Some t) × (t.description ≡ target.schema.now)
          × (scan s ms ≡ scans ms target.said target.start t target.index)
      reached = list_reached disk tables (paired_refusals broken mismatched scanning_of.rules ms) ms
          (λ s. scan s ms) scanning (λ s. scans ms) (scan_is ms broken mismatched e f) target is

      go : Table → Option (List ℕ) → Outcome
      go t place = pages t.description (there_in t.description) ms target.said
          (listed true place
          (is_in (hash_of t.description (there_in t.description)) (segment_of ms))
          t (there_in t.description))

      by : (q : Stop) → Segments target.schema.now (there_in target.schema.now) (segment_of ms)
          target.start (Err q) → Carries file (λ s. scan s ms) (Stands disk tables) now (Err q)
      by (Refused r) h = refused_so (λ s. scan s ms) (Stands disk tables) now r h.0
          (λ s stands. let (t, at, same, is) = reached s stands in is
          ∙ ap (λ x. with_found (walk_start x (there_in x) None target.start) (go t)) same
          ∙ h.1 (go t)) stays
      by (Fault f) h = faulted (λ s. scan s ms) (Stands disk tables) now f h stays

-- ---- what answers it

module _ (file : ℕ) (disk : DiskState) (tables : Tables) (now : State → Type 0) (ms : Members)
    (target : ListTarget) (range : KeyRange) (r : Result Reply Stop) (plain : IsPlainResult r)
    (within : IfSome target.index (λ n. CanRead target.schema.now n)) where
  -- a Query is carried out by the page of the range that is asked for
  pub query_done : (broken : Option Broken) (mismatched : Bool) → broken ≡ bodies.query ms
      → mismatched ≡ is_mismatched ms
      → IsListedAt (paired_refusals broken mismatched querying_of.rules ms) querying
      (catalog_of tables) ms target
      → IsRangeAsked target.schema.now (index_at target.schema.now target.index)
      target.said.key_condition target.start (goes_forward ms) range
      → ((s : State) (t : Table) → Stands disk tables s → map.get s.tables (table_name ms) ≡ Some t
      → FollowsOutcome file now s (pages t.description (index_at t.description target.index) ms target.said
      (items_between t (index_at t.description target.index) range.from range.to
      (goes_forward ms))) r)
      → Carries file (λ s. query s ms) (Stands disk tables) now r
  query_done broken mismatched e f is asked does = record {
    does = λ s stands.
        let (t, at, same, so) = list_reached disk tables
        (paired_refusals broken mismatched querying_of.rules ms) ms (λ s. query s ms) querying
        (λ s. queries ms) (query_is ms broken mismatched e f) target is s stands in
        subst (λ o. FollowsOutcome file now s o r) (sym so)
        (query_page disk tables s stands (table_name ms) t at target.schema.now same target.index
        (within_of (catalog_of tables) (table_name ms) target.index target.schema.now
        is.there within)
        ms target.said now r range file target.start asked (does s t stands at));
    plain = plain;
  }

  -- and a Scan by that of its segment's range
  pub scan_done : (broken : Option Broken) (mismatched : Bool) → broken ≡ bodies.scan ms
      → mismatched ≡ (is_mismatched ms || is_segment_odd ms)
      → IsListedAt (paired_refusals broken mismatched scanning_of.rules ms) scanning
      (catalog_of tables) ms target
      → IsOfSegment target.schema.now (index_at target.schema.now target.index) (segment_of ms)
      target.start range
      → ((s : State) (t : Table) → Stands disk tables s → map.get s.tables (table_name ms) ≡ Some t
      → FollowsOutcome file now s (pages t.description (index_at t.description target.index) ms target.said
      (items_between t (index_at t.description target.index) range.from range.to true)) r)
      → Carries file (λ s. scan s ms) (Stands disk tables) now r
  scan_done broken mismatched e f is asked does = record {
    does = λ s stands.
        let (t, at, same, so) = list_reached disk tables
        (paired_refusals broken mismatched scanning_of.rules ms) ms (λ s. scan s ms) scanning
        (λ s. scans ms) (scan_is ms broken mismatched e f) target is s stands in
        subst (λ o. FollowsOutcome file now s o r) (sym so)
        (scan_page disk tables s stands (table_name ms) t at target.schema.now same target.index
        (within_of (catalog_of tables) (table_name ms) target.index target.schema.now
        is.there within)
        ms target.said now r range file target.start asked (does s t stands at));
    plain = plain;
  }

-- none of these is a failure of the device
pub asks_unfailed : (P : Type 0) (d : TableSchema) (i : Option IndexSchema)
    (condition : Option Cond) (start : Option (List Pair)) (forward : Bool) (stop : Stop)
    → IsRangeAskedOrRefused d i condition start forward (Err stop) → IfFailed (Err stop) P
asks_unfailed P d i condition start forward (Refused r) h = tt
asks_unfailed P d i condition start forward (Fault f) h = unfailed_fault f P h

-- nor is what stops a Scan on its way to a range
pub segments_unfailed : (P : Type 0) (d : TableSchema) (i : Option IndexSchema)
    (segment : Option scanning_of.Segment) (start : Option (List Pair)) (stop : Stop)
    → Segments d i segment start (Err stop) → IfFailed (Err stop) P
segments_unfailed P d i segment start (Refused r) h = tt
segments_unfailed P d i segment start (Fault f) h = unfailed_fault f P h
