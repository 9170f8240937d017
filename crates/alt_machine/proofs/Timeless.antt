-- No request but an ExpireItems heeds whether the time of an item is over: at two moments it leaves the same items, and its changes are of
-- a user.
use Rattle.std.proofs.Common.{◌≡◌, ◌≢◌, refl, sym, ap, subst, ℕ, Bool, true, false, cond, is_eq, List, [], ◌∷◌, map, Option, Some, None, All}
use Rattle.std.specs.Prelude.{codes, if◌then◌else◌, unwrap_or}
use Rattle.std.specs.FinMap.{get-remove}
use Rattle.std.specs.FinMap as finite
use Rattle.std.specs.List.{list_any}
use Rattle.std.specs.Option.{option_map_or}
use Rattle.std.proofs.lemmas.List.Elements.{All-nil}
use Rattle.serde_json.specs.Data.{Members}
use Rattle.alt_codec.specs.declared.writer.Writer.TheVariants.{User}
use Rattle.alt_schema.specs.Described.{described_by, description_of}
use Rattle.alt_schema.specs.Stated.{text_of}
use Rattle.alt_schema.specs.declared.schema.TableSchema.{TableSchema}
use Rattle.alt_shape.specs.Bodies as bodies
use Rattle.alt_shape.specs.Refusals.{bad_stream_argument, change_records_trimmed}
use Rattle.alt_value.specs.Members.{text_order}
use Rattle.alt_value.specs.Tree.{Pair}
use Rattle.alt_value.proofs.Texts.{text_total}
use Rattle.alt_machine.specs.Body.{of_shape}
use Rattle.alt_machine.specs.Conditional.{writes_if}
use Rattle.alt_machine.specs.declared.Operation.{Operation}
use Rattle.alt_machine.specs.declared.Operation.TheVariants.{CreateTable, DescribeTable, ListTables, DeleteTable, PutItem, GetItem, DeleteItem, UpdateItem, Query, Scan, BatchWriteItem, BatchGetItem, ListStreams, DescribeStream, GetShardIterator, GetRecords, UpdateTimeToLive, DescribeTimeToLive, ExpireItems, UpdateTable}
use Rattle.alt_machine.specs.declared.Sought.TheVariants.{Item, Key}
use Rattle.alt_machine.specs.Expressions.{conditional, projecting, querying, scanning, updating}
use Rattle.alt_machine.specs.Laws.{OthersExpireNone}
use Rattle.alt_machine.specs.Lists.{walk_start}
use Rattle.alt_machine.specs.Members.{body_of, table_name}
use Rattle.alt_machine.specs.Ops.BatchGetItem as batch_get
use Rattle.alt_machine.specs.Ops.BatchWriteItem.{batch_write_item, written_by, writes_asked, writes_of_all_by}
use Rattle.alt_machine.specs.Ops.CreateTable as create
use Rattle.alt_machine.specs.Ops.DeleteItem as delete_item
use Rattle.alt_machine.specs.Ops.DeleteTable as delete
use Rattle.alt_machine.specs.Ops.DescribeStream as stream
use Rattle.alt_machine.specs.Ops.DescribeTable as describe
use Rattle.alt_machine.specs.Ops.DescribeTimeToLive as time
use Rattle.alt_machine.specs.Ops.GetItem as get
use Rattle.alt_machine.specs.Ops.GetRecords as records
use Rattle.alt_machine.specs.Ops.GetShardIterator as iterator
use Rattle.alt_machine.specs.Ops.ListStreams as streams
use Rattle.alt_machine.specs.Ops.ListTables as list
use Rattle.alt_machine.specs.Ops.PutItem as put
use Rattle.alt_machine.specs.Ops.Query as query
use Rattle.alt_machine.specs.Ops.Scan as scan
use Rattle.alt_machine.specs.Ops.UpdateItem as update
use Rattle.alt_machine.specs.Ops.UpdateTable as alter
use Rattle.alt_machine.specs.Ops.UpdateTimeToLive as timing
use Rattle.alt_machine.specs.Outcomes.{Outcome, says, unless_refused, last_state, together}
use Rattle.alt_machine.specs.Refusals.{or_refused, refuse_if}
use Rattle.alt_machine.specs.Sources.{index_at}
use Rattle.alt_machine.specs.State.{State, Table, descriptions, new_table}
use Rattle.alt_machine.specs.Step.{step, operates, with_body}
use Rattle.alt_machine.specs.Streams.{arn_in, iterator_of, stream_at}
use Rattle.alt_machine.specs.Trimming.{is_trimmed}
use Rattle.alt_machine.specs.Writes.{item_writes_by}
use Rattle.alt_machine.proofs.Agreeing.{Agree, Leave, Was, own, insert_agrees, written_agrees, of_found, all_agree, leave-unless, leave-found, leave-met, leave-on_table, leave-on_item, leave-on_list}

-- writes that become lasting together leave what the last of them leaves
last_together : (s : State) (ts : List State) → last_state s (together s ts) ≡ last_state s ts
last_together s [] = refl
last_together s (t ∷ ts) = refl

module _ (s : State) where
  -- ---- operations that write

  create_leaves : (m n : ℕ) (ms : Members)
      → Leave s (create.create_table s m ms) (create.create_table s n ms)
  unfolding create.create_table description_of described_by
  create_leaves m n ms =
      let d : TableSchema = description_of ms m s.next_number s.next_family in
      let e : TableSchema = description_of ms n s.next_number s.next_family in
      leave-unless s (create.of_body ms) (unless_refused (create.of_tables s ms) (create.creates s d))
      (unless_refused (create.of_tables s ms) (create.creates s e))
      (leave-unless s (create.of_tables s ms) (create.creates s d) (create.creates s e)
      (insert_agrees s s s d.name (new_table d) (new_table e) _ _ _ _ (own s) refl (All-nil (Was s d.name))))

  drop_leaves : (ms : Members) → Leave s (delete.delete_table s ms) (delete.delete_table s ms)
  unfolding delete.delete_table
  drop_leaves ms = leave-on_table s (delete.of_body ms) ms _ _ (λ t there. record {
    items = λ q. refl;
    changes = λ q. subst (λ (o : Option Table). All (Was s q) (option_map_or (λ x. x.changes) o []))
        (sym (get-remove text_total s.tables (table_name ms) q)) (left q (is_eq (text_order q (table_name ms))));
  })
    where
      left : (q : List ℕ) (here : Bool) → All (Was s q) (option_map_or (λ (x : Table). x.changes)
          (cond here None (finite.get s.tables q)) [])
      left q true = All-nil (Was s q)
      left q false = (own s).changes q

  time_leaves : (ms : Members)
      → Leave s (timing.update_time_to_live s ms) (timing.update_time_to_live s ms)
  unfolding timing.update_time_to_live
  time_leaves ms = leave-on_table s (timing.of_body ms) ms _ _ (λ t there.
      leave-unless s (timing.of_time ms t.description) _ _
      (insert_agrees s s s (table_name ms) (timing.timed (timing.time_left ms) t)
      (timing.timed (timing.time_left ms) t) _ _ _ _ (own s) refl
      (of_found s s (table_name ms) t ((own s).changes (table_name ms)) there)))

  alter_leaves : (ms : Members) → Leave s (alter.update_table s ms) (alter.update_table s ms)
  unfolding alter.update_table
  alter_leaves ms = leave-on_table s (alter.of_body ms) ms _ _ (λ t there.
      leave-unless s (alter.of_indexes t.description ms) (alter.alters s ms t) (alter.alters s ms t)
      (leaves t there (list_any alter.acts (alter.changes ms))))
    where
      -- what is asked comes to a write, if an index comes or goes
      altered_if : Bool → Table → Outcome
      altered_if b t = if b then record {
        answer = alter.described (alter.altered t.description ms s.next_family) (codes "UPDATING");
        atoms = alter.state_altered s ms t ∷ [];
        wants = alter.wanted_for (alter.coming ms);
      }
          else says (alter.described t.description (codes "ACTIVE"))

      leaves : (t : Table) → finite.get s.tables (table_name ms) ≡ Some t → (b : Bool)
          → Leave s (altered_if b t) (altered_if b t)
      leaves t there true =
          let u : Table =
          alter.redescribed (alter.altered t.description ms s.next_family) t in
          insert_agrees s s s (table_name ms) u u _ _ _ _ (own s) refl
          (of_found s s (table_name ms) t ((own s).changes (table_name ms)) there)
      leaves t there false = own s

  -- a user's write of an item
  own_write : (m n : ℕ) (name : List ℕ) (t : Table) (place : List ℕ) (new : Option (List Pair))
      → finite.get s.tables name ≡ Some t
      → Agree s (last_state s (item_writes_by s m User name t place new))
      (last_state s (item_writes_by s n User name t place new))
  own_write m n name t place new there = written_agrees s s s m n name t t place new (own s) refl
      (of_found s s name t ((own s).changes name) there)

  put_leaves : (m n : ℕ) (ms : Members) → Leave s (put.put_item s m ms) (put.put_item s n ms)
  unfolding put.put_item
  put_leaves m n ms = leave-on_item s (put.of_body ms) Item conditional ms _ _ (λ said item t place there.
      leave-unless s (put.of_item t.description item)
      (writes_if said.condition s m ms t place (Some item))
      (writes_if said.condition s n ms t place (Some item))
      (leave-met s said.condition ms (finite.get t.items place) _ _
      (own_write m n (table_name ms) t place (Some item) there)))

  delete_leaves : (m n : ℕ) (ms : Members)
      → Leave s (delete_item.delete_item s m ms) (delete_item.delete_item s n ms)
  unfolding delete_item.delete_item
  delete_leaves m n ms = leave-on_item s (delete_item.of_body ms) Key conditional ms _ _
      (λ said key t place there. leave-met s said.condition ms (finite.get t.items place) _ _
      (own_write m n (table_name ms) t place None there))

  update_leaves : (m n : ℕ) (ms : Members)
      → Leave s (update.update_item s m ms) (update.update_item s n ms)
  unfolding update.update_item
  update_leaves m n ms = leave-on_item s (update.of_body ms) Key updating ms _ _
      (λ said key t place there.
      let old : Option (List Pair) = finite.get t.items place in
      leave-met s said.condition ms old _ _ (
      leave-found s (update.item_after (unwrap_or said.update []) old) _ _ (λ item e.
      leave-unless s (update.of_left t.description (update.left_by_update said key old item)) _ _
      (own_write m n (table_name ms) t place (update.left_by_update said key old item) there))))

  batch_leaves : (m n : ℕ) (ms : Members)
      → Leave s (batch_write_item s m ms) (batch_write_item s n ms)
  unfolding batch_write_item
  batch_leaves m n ms = leave-found s (writes_asked (descriptions s.tables) ms) _ _ (λ there e.
      let these : List State = writes_of_all_by s m User (map written_by there) in
      let those : List State = writes_of_all_by s n User (map written_by there) in
      subst (λ x. Agree s x (last_state s (together s those))) (sym (last_together s these))
      (subst (λ x. Agree s (last_state s these) x) (sym (last_together s those))
      (all_agree s s s m n (map written_by there) (own s))))

  -- ---- operations that only read

  describe_leaves : (ms : Members) → Leave s (describe.describe_table s ms) (describe.describe_table s ms)
  unfolding describe.describe_table
  describe_leaves ms = leave-on_table s (describe.of_body ms) ms _ _ (λ t there. own s)

  time_told : (ms : Members)
      → Leave s (time.describe_time_to_live s ms) (time.describe_time_to_live s ms)
  unfolding time.describe_time_to_live
  time_told ms = leave-on_table s (time.of_body ms) ms _ _ (λ t there. own s)

  list_leaves : (ms : Members) → Leave s (list.list_tables s ms) (list.list_tables s ms)
  unfolding list.list_tables
  list_leaves ms = leave-unless s (list.of_body ms) _ _ (own s)

  get_leaves : (ms : Members) → Leave s (get.get_item s ms) (get.get_item s ms)
  unfolding get.get_item
  get_leaves ms = leave-on_item s (get.of_body ms) Key projecting ms _ _ (λ said key t place there. own s)

  query_leaves : (ms : Members) → Leave s (query.query s ms) (query.query s ms)
  unfolding query.query
  query_leaves ms = leave-on_list s (query.of_body ms) querying ms (query.queries ms)
      (λ said start t index.
      leave-found s (query.key_asked t.description (index_at t.description index) said.key_condition)
      _ _ (λ ask asks.
      leave-found s (walk_start t.description (index_at t.description index) (Some ask.hash) start)
      _ _ (λ place starts. own s)))

  scan_leaves : (ms : Members) → Leave s (scan.scan s ms) (scan.scan s ms)
  unfolding scan.scan
  scan_leaves ms = leave-on_list s (scan.of_body ms) scanning ms (scan.scans ms)
      (λ said start t index.
      leave-found s (walk_start t.description (index_at t.description index) None start) _ _
      (λ place starts. own s))

  batch_get_leaves : (ms : Members)
      → Leave s (batch_get.batch_get_item s ms) (batch_get.batch_get_item s ms)
  unfolding batch_get.batch_get_item
  batch_get_leaves ms = leave-found s (batch_get.reads_asked (descriptions s.tables) ms) _ _
      (λ tables e. own s)

  list_streams_leaves : (ms : Members) → Leave s (streams.list_streams s ms) (streams.list_streams s ms)
  unfolding streams.list_streams
  list_streams_leaves ms = leave-unless s (streams.refusals s ms) _ _ (own s)

  describe_stream_leaves : (ms : Members)
      → Leave s (stream.describe_stream s ms) (stream.describe_stream s ms)
  unfolding stream.describe_stream
  describe_stream_leaves ms = leave-unless s (stream.of_body ms) _ _
      (leave-found s (stream_at s (arn_in ms)) _ _ (λ t there. own s))

  shard_iterator_leaves : (ms : Members)
      → Leave s (iterator.get_shard_iterator s ms) (iterator.get_shard_iterator s ms)
  unfolding iterator.get_shard_iterator
  shard_iterator_leaves ms = leave-unless s (iterator.of_body ms) _ _
      (leave-found s (stream_at s (arn_in ms)) _ _ (λ t there.
      leave-unless s (refuse_if (is_trimmed t.trimmed (iterator.starts s ms)) change_records_trimmed ∷ []) _ _ (own s)))

  records_leave : (ms : Members) → Leave s (records.get_records s ms) (records.get_records s ms)
  unfolding records.get_records
  records_leave ms = leave-unless s (of_shape (bodies.get_records ms) ∷ []) _ _
      (leave-found s (or_refused bad_stream_argument
      (iterator_of (text_of (codes "ShardIterator") ms))) _ _ (λ i reads.
      leave-found s (stream_at s i.arn) _ _ (λ t there.
      leave-unless s (refuse_if (is_trimmed t.trimmed i.from) change_records_trimmed ∷ []) _ _ (own s))))

  -- ---- any of them

  -- what an operation leaves at two moments agrees, but for an ExpireItems
  operates_leave : (op : Operation) (m n : ℕ) (ms : Members) → op ≢ ExpireItems
      → Leave s (operates s op m ms) (operates s op n ms)
  operates_leave CreateTable m n ms other = create_leaves m n ms
  operates_leave DescribeTable m n ms other = describe_leaves ms
  operates_leave ListTables m n ms other = list_leaves ms
  operates_leave DeleteTable m n ms other = drop_leaves ms
  operates_leave PutItem m n ms other = put_leaves m n ms
  operates_leave GetItem m n ms other = get_leaves ms
  operates_leave DeleteItem m n ms other = delete_leaves m n ms
  operates_leave UpdateItem m n ms other = update_leaves m n ms
  operates_leave Query m n ms other = query_leaves ms
  operates_leave Scan m n ms other = scan_leaves ms
  operates_leave BatchWriteItem m n ms other = batch_leaves m n ms
  operates_leave BatchGetItem m n ms other = batch_get_leaves ms
  operates_leave ListStreams m n ms other = list_streams_leaves ms
  operates_leave DescribeStream m n ms other = describe_stream_leaves ms
  operates_leave GetShardIterator m n ms other = shard_iterator_leaves ms
  operates_leave GetRecords m n ms other = records_leave ms
  operates_leave UpdateTimeToLive m n ms other = time_leaves ms
  operates_leave DescribeTimeToLive m n ms other = time_told ms
  operates_leave ExpireItems m n ms other = absurd (other refl)
  operates_leave UpdateTable m n ms other = alter_leaves ms

  body_leaves : (op : Operation) (m n : ℕ) (ms : Option Members) → op ≢ ExpireItems
      → Leave s (with_body s op m ms) (with_body s op n ms)
  body_leaves op m n None other = (own s)
  body_leaves op m n (Some ms) other = operates_leave op m n ms other

  -- so does what any request leaves
  step_leaves : (op : Option Operation) (body : List ℕ) (m n : ℕ) → op ≢ Some ExpireItems
      → Leave s (step s op body m) (step s op body n)
  step_leaves None body m n other = (own s)
  step_leaves (Some op) body m n other = body_leaves op m n (body_of body) (λ e. other (ap Some e))

-- ---- the law

-- no request but an ExpireItems deletes an item because of its time
pub others_expire_none : OthersExpireNone
others_expire_none = record {
  items = λ s op body m n name other. (step_leaves s op body m n other).items name;
  changes = λ s op body moment name other. (step_leaves s op body moment moment other).changes name;
}
