-- Two bodies with the same members come to the same, operation by operation.
use Rattle.std.proofs.Common.{◌≡◌, refl, ap, ℕ, nat_le, List, [], ◌∷◌, true, Option, Some, None}
use Rattle.std.specs.Prelude.{codes, if◌then◌else◌}
use Rattle.std.specs.FinMap as finite
use Rattle.std.specs.Option.{option_map_or}
use Rattle.serde_json.specs.Data.{Members, item, no_items, no_members, object}
use Rattle.alt_machine.specs.declared.TheConstants.{MOST_TABLES}
use Rattle.alt_machine.specs.Expressions.{given_at, texts_say, expressions}
use Rattle.alt_machine.specs.Lists.{is_given}
use Rattle.alt_machine.specs.Members.{table_name}
use Rattle.alt_machine.specs.Older.{older_said}
use Rattle.alt_machine.specs.Ops.CreateTable as create
use Rattle.alt_machine.specs.Ops.DescribeStream as describe
use Rattle.alt_machine.specs.Outcomes.{says, unless_refused, with_found}
use Rattle.alt_machine.specs.Refusals.{refuse_by, refuse_if}
use Rattle.alt_machine.specs.Replies.{answers}
use Rattle.alt_machine.specs.Streams.{arn_in, stream_at}
use Rattle.alt_schema.specs.Described.{described_by, description_of}
use Rattle.alt_schema.specs.Rules.{create_table_refusal, refused_for}
use Rattle.alt_schema.specs.Stated.{stated}
use Rattle.alt_schema.specs.declared.schema.TableSchema.{TableSchema}
use Rattle.alt_schema.specs.declared.schema.View.{View}
use Rattle.alt_shape.specs.Refusals.{table_exists, too_many_tables}
use Rattle.alt_machine.specs.Ops.CreateTable.{create_table}
use Rattle.alt_machine.specs.Ops.DescribeTable.{describe_table}
use Rattle.alt_machine.specs.Ops.ListTables.{list_tables}
use Rattle.alt_machine.specs.Ops.DeleteTable.{delete_table}
use Rattle.alt_machine.specs.Ops.PutItem.{put_item}
use Rattle.alt_machine.specs.Ops.GetItem.{get_item}
use Rattle.alt_machine.specs.Ops.DeleteItem.{delete_item}
use Rattle.alt_machine.specs.Ops.UpdateItem.{update_item}
use Rattle.alt_machine.specs.Ops.BatchWriteItem.{batch_write_item, writes_asked}
use Rattle.alt_machine.specs.Ops.BatchGetItem.{batch_get_item, reads_asked}
use Rattle.alt_machine.specs.Ops.ListStreams.{list_streams}
use Rattle.alt_machine.specs.Ops.DescribeStream.{describe_stream}
use Rattle.alt_machine.specs.Ops.GetShardIterator.{get_shard_iterator}
use Rattle.alt_machine.specs.Ops.GetRecords.{get_records}
use Rattle.alt_machine.specs.Ops.DescribeTimeToLive.{describe_time_to_live}
use Rattle.alt_machine.specs.Ops.UpdateTable.{update_table}
use Rattle.alt_machine.specs.Ops.UpdateTimeToLive.{update_time_to_live}
use Rattle.alt_machine.specs.State.{State}
use Rattle.alt_machine.specs.declared.Operation.{Operation}
use Rattle.alt_machine.specs.declared.Operation.TheVariants.{CreateTable, DescribeTable, ListTables, DeleteTable, PutItem, GetItem, DeleteItem, UpdateItem, Query, Scan, BatchWriteItem, BatchGetItem, ListStreams, DescribeStream, GetShardIterator, GetRecords, UpdateTimeToLive, DescribeTimeToLive, ExpireItems, UpdateTable}
use Rattle.alt_named.specs.Named.{AreSame, SaysNamed, is_among}
use Rattle.alt_shape.specs.Bodies as bodies
use Rattle.alt_shape.specs.Shape.{given}
use Rattle.alt_members.specs.Heeded.{heeded, Heeds, Suffices}
use Rattle.alt_members.proofs.PageLaws.{same, query_heeds, scan_heeds}

module _ (s : State) (moment : ℕ) (ms bs : Members) where
  -- CreateTable reads all that a body states at once
  module _ (h : AreSame (heeded CreateTable) ms bs) where
    created : (name : List ℕ) → is_among (heeded CreateTable) name ≡ true
        → given name ms ≡ given name bs
    created = same (heeded CreateTable) ms bs h

    create_body : create.of_body ms ≡ create.of_body bs
    unfolding bodies.create_table
    create_body =
        rw (
          created (codes "TableName") refl,
          created (codes "KeySchema") refl,
          created (codes "AttributeDefinitions") refl,
          created (codes "LocalSecondaryIndexes") refl,
          created (codes "GlobalSecondaryIndexes") refl,
          created (codes "StreamSpecification") refl,
        ) refl

    create_name : table_name ms ≡ table_name bs
    create_name = rw (created (codes "TableName") refl) refl

    create_stated : stated ms ≡ stated bs
    create_stated =
        rw (
          created (codes "TableName") refl,
          created (codes "KeySchema") refl,
          created (codes "AttributeDefinitions") refl,
          created (codes "LocalSecondaryIndexes") refl,
          created (codes "GlobalSecondaryIndexes") refl,
          created (codes "StreamSpecification") refl,
        ) refl

    create_refusals : create.of_tables s ms ≡ create.of_tables s bs
    unfolding create_table_refusal
    create_refusals = λ i.
        refuse_by (refused_for (create_stated i)) ∷
        refuse_if (finite.contains_key s.tables (create_name i)) table_exists ∷
        refuse_if (nat_le MOST_TABLES (finite.len s.tables)) too_many_tables ∷ []

    create_described : description_of ms moment s.next_number s.next_family
        ≡ description_of bs moment s.next_number s.next_family
    unfolding description_of
    create_described = λ i. described_by (create_stated i) moment s.next_number s.next_family

    pub create_table_heeds : create_table s moment ms ≡ create_table s moment bs
    unfolding create_table
    create_table_heeds = λ i. unless_refused (create_body i)
        (unless_refused (create_refusals i) (create.creates s (create_described i)))

  pub describe_table_heeds : AreSame (heeded DescribeTable) ms bs → describe_table s ms ≡ describe_table s bs
  unfolding describe_table bodies.describe_table
  describe_table_heeds h =
      let at = same (heeded DescribeTable) ms bs h in
      rw (at (codes "TableName") refl) refl

  pub list_tables_heeds : AreSame (heeded ListTables) ms bs → list_tables s ms ≡ list_tables s bs
  unfolding list_tables bodies.list_tables
  list_tables_heeds h =
      let at = same (heeded ListTables) ms bs h in
      rw (
        at (codes "ExclusiveStartTableName") refl,
        at (codes "Limit") refl,
      ) refl

  pub delete_table_heeds : AreSame (heeded DeleteTable) ms bs → delete_table s ms ≡ delete_table s bs
  unfolding delete_table bodies.delete_table
  delete_table_heeds h =
      let at = same (heeded DeleteTable) ms bs h in
      rw (at (codes "TableName") refl) refl

  pub put_item_heeds : AreSame (heeded PutItem) ms bs → put_item s moment ms ≡ put_item s moment bs
  unfolding put_item bodies.put_item given_at expressions texts_say older_said
  put_item_heeds h =
      let at = same (heeded PutItem) ms bs h in
      rw (
        at (codes "TableName") refl,
        at (codes "Item") refl,
        at (codes "ConditionExpression") refl,
        at (codes "ExpressionAttributeNames") refl,
        at (codes "ExpressionAttributeValues") refl,
        at (codes "ReturnValues") refl,
        at (codes "ReturnValuesOnConditionCheckFailure") refl,
        at (codes "Expected") refl,
        at (codes "ConditionalOperator") refl,
      ) refl

  pub get_item_heeds : AreSame (heeded GetItem) ms bs → get_item s ms ≡ get_item s bs
  unfolding get_item bodies.get_item given_at expressions texts_say older_said
  get_item_heeds h =
      let at = same (heeded GetItem) ms bs h in
      rw (
        at (codes "TableName") refl,
        at (codes "Key") refl,
        at (codes "ProjectionExpression") refl,
        at (codes "ExpressionAttributeNames") refl,
        at (codes "ConsistentRead") refl,
        at (codes "AttributesToGet") refl,
      ) refl

  pub delete_item_heeds : AreSame (heeded DeleteItem) ms bs → delete_item s moment ms ≡ delete_item s moment bs
  unfolding delete_item bodies.delete_item given_at expressions texts_say older_said
  delete_item_heeds h =
      let at = same (heeded DeleteItem) ms bs h in
      rw (
        at (codes "TableName") refl,
        at (codes "Key") refl,
        at (codes "ConditionExpression") refl,
        at (codes "ExpressionAttributeNames") refl,
        at (codes "ExpressionAttributeValues") refl,
        at (codes "ReturnValues") refl,
        at (codes "ReturnValuesOnConditionCheckFailure") refl,
        at (codes "Expected") refl,
        at (codes "ConditionalOperator") refl,
      ) refl

  pub update_item_heeds : AreSame (heeded UpdateItem) ms bs → update_item s moment ms ≡ update_item s moment bs
  unfolding update_item bodies.update_item given_at expressions texts_say older_said
  update_item_heeds h =
      let at = same (heeded UpdateItem) ms bs h in
      rw (
        at (codes "TableName") refl,
        at (codes "Key") refl,
        at (codes "UpdateExpression") refl,
        at (codes "ConditionExpression") refl,
        at (codes "ExpressionAttributeNames") refl,
        at (codes "ExpressionAttributeValues") refl,
        at (codes "ReturnValues") refl,
        at (codes "ReturnValuesOnConditionCheckFailure") refl,
        at (codes "AttributeUpdates") refl,
        at (codes "Expected") refl,
        at (codes "ConditionalOperator") refl,
      ) refl

  pub batch_write_item_heeds : AreSame (heeded BatchWriteItem) ms bs → batch_write_item s moment ms ≡ batch_write_item s moment bs
  unfolding batch_write_item bodies.batch_write_item writes_asked
  batch_write_item_heeds h =
      let at = same (heeded BatchWriteItem) ms bs h in
      rw (at (codes "RequestItems") refl) refl

  pub batch_get_item_heeds : AreSame (heeded BatchGetItem) ms bs → batch_get_item s ms ≡ batch_get_item s bs
  unfolding batch_get_item bodies.batch_get_item reads_asked
  batch_get_item_heeds h =
      let at = same (heeded BatchGetItem) ms bs h in
      rw (at (codes "RequestItems") refl) refl

  pub list_streams_heeds : AreSame (heeded ListStreams) ms bs → list_streams s ms ≡ list_streams s bs
  unfolding list_streams bodies.list_streams
  list_streams_heeds h =
      let at = same (heeded ListStreams) ms bs h in
      rw (
        at (codes "TableName") refl,
        at (codes "ExclusiveStartStreamArn") refl,
        at (codes "Limit") refl,
      ) refl

  -- DescribeStream reads its members in each table that it finds
  module _ (h : AreSame (heeded DescribeStream) ms bs) where
    described : (name : List ℕ) → is_among (heeded DescribeStream) name ≡ true
        → given name ms ≡ given name bs
    described = same (heeded DescribeStream) ms bs h

    describe_body : describe.of_body ms ≡ describe.of_body bs
    unfolding bodies.describe_stream
    describe_body =
        rw (
          described (codes "StreamArn") refl,
          described (codes "ExclusiveStartShardId") refl,
          described (codes "Limit") refl,
        ) refl

    describe_arn : arn_in ms ≡ arn_in bs
    describe_arn = rw (described (codes "StreamArn") refl) refl

    describe_start : is_given (codes "ExclusiveStartShardId") ms
        ≡ is_given (codes "ExclusiveStartShardId") bs
    describe_start = rw (described (codes "ExclusiveStartShardId") refl) refl

    describe_shards : (d : TableSchema) → describe.shards_json d ms ≡ describe.shards_json d bs
    describe_shards d = ap (λ b. if b then no_items else item (describe.shard_json d) no_items)
        describe_start

    describe_json : (d : TableSchema) (view : View)
        → describe.stream_json d ms view ≡ describe.stream_json d bs view
    describe_json d view = rw (describe_shards d) refl

    describe_answer : (d : TableSchema) → describe.described d ms ≡ describe.described d bs
    describe_answer d = λ i. answers (codes "StreamDescription")
        (option_map_or (λ view. describe_json d view i) d.view (object no_members))

    pub describe_stream_heeds : describe_stream s ms ≡ describe_stream s bs
    unfolding describe_stream
    describe_stream_heeds = λ i. unless_refused (describe_body i)
        (with_found (stream_at s (describe_arn i)) (λ t. says (describe_answer t.description i)))

  pub get_shard_iterator_heeds : AreSame (heeded GetShardIterator) ms bs → get_shard_iterator s ms ≡ get_shard_iterator s bs
  unfolding get_shard_iterator bodies.get_shard_iterator
  get_shard_iterator_heeds h =
      let at = same (heeded GetShardIterator) ms bs h in
      rw (
        at (codes "StreamArn") refl,
        at (codes "ShardId") refl,
        at (codes "ShardIteratorType") refl,
        at (codes "SequenceNumber") refl,
      ) refl

  pub get_records_heeds : AreSame (heeded GetRecords) ms bs → get_records s ms ≡ get_records s bs
  unfolding get_records bodies.get_records
  get_records_heeds h =
      let at = same (heeded GetRecords) ms bs h in
      rw (
        at (codes "ShardIterator") refl,
        at (codes "Limit") refl,
      ) refl

  pub update_time_heeds : AreSame (heeded UpdateTimeToLive) ms bs
      → update_time_to_live s ms ≡ update_time_to_live s bs
  unfolding update_time_to_live
  update_time_heeds h =
      let at = same (heeded UpdateTimeToLive) ms bs h in
      rw (
        at (codes "TableName") refl,
        at (codes "TimeToLiveSpecification") refl,
      ) refl

  pub describe_time_heeds : AreSame (heeded DescribeTimeToLive) ms bs
      → describe_time_to_live s ms ≡ describe_time_to_live s bs
  unfolding describe_time_to_live bodies.describe_table
  describe_time_heeds h =
      let at = same (heeded DescribeTimeToLive) ms bs h in
      rw (at (codes "TableName") refl) refl

  pub update_table_heeds : AreSame (heeded UpdateTable) ms bs → update_table s ms ≡ update_table s bs
  unfolding update_table bodies.update_table
  update_table_heeds h =
      let at = same (heeded UpdateTable) ms bs h in
      rw (
        at (codes "TableName") refl,
        at (codes "AttributeDefinitions") refl,
        at (codes "GlobalSecondaryIndexUpdates") refl,
      ) refl

-- so for each operation
pub heeds : (op : Operation) → Heeds op
heeds CreateTable s moment ms bs h = create_table_heeds s moment ms bs h
heeds DescribeTable s moment ms bs h = describe_table_heeds s moment ms bs h
heeds ListTables s moment ms bs h = list_tables_heeds s moment ms bs h
heeds DeleteTable s moment ms bs h = delete_table_heeds s moment ms bs h
heeds PutItem s moment ms bs h = put_item_heeds s moment ms bs h
heeds GetItem s moment ms bs h = get_item_heeds s moment ms bs h
heeds DeleteItem s moment ms bs h = delete_item_heeds s moment ms bs h
heeds UpdateItem s moment ms bs h = update_item_heeds s moment ms bs h
heeds Query s moment ms bs h = query_heeds s moment ms bs h
heeds Scan s moment ms bs h = scan_heeds s moment ms bs h
heeds BatchWriteItem s moment ms bs h = batch_write_item_heeds s moment ms bs h
heeds BatchGetItem s moment ms bs h = batch_get_item_heeds s moment ms bs h
heeds ListStreams s moment ms bs h = list_streams_heeds s moment ms bs h
heeds DescribeStream s moment ms bs h = describe_stream_heeds s moment ms bs h
heeds GetShardIterator s moment ms bs h = get_shard_iterator_heeds s moment ms bs h
heeds GetRecords s moment ms bs h = get_records_heeds s moment ms bs h
heeds UpdateTimeToLive s moment ms bs h = update_time_heeds s moment ms bs h
heeds DescribeTimeToLive s moment ms bs h = describe_time_heeds s moment ms bs h
heeds ExpireItems s moment ms bs h = refl
heeds UpdateTable s moment ms bs h = update_table_heeds s moment ms bs h

-- so a body of which these are read is enough
pub suffices : (op : Operation) (body found : Option Members) → SaysNamed (heeded op) body found
    → Suffices op body found
suffices op None None h = record { comes = λ s moment. refl }
suffices op None (Some bs) h = absurd h
suffices op (Some ms) None h = absurd h
suffices op (Some ms) (Some bs) h = record { comes = λ s moment. heeds op s moment ms bs h }
