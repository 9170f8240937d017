-- One request: refused where its operation or its body can't be read, and else what its operation makes of its members.
use Rattle.std.specs.Prelude.{ℕ, List, Option, Some, None}
use Rattle.serde_json.specs.Data.{Members}
use Rattle.alt_shape.specs.Refusals.{unknown_operation, unreadable}
use Rattle.alt_machine.specs.declared.Operation.{Operation}
use Rattle.alt_machine.specs.declared.Operation.TheVariants.{CreateTable, DescribeTable, ListTables, DeleteTable, PutItem, GetItem, DeleteItem, UpdateItem, Query, Scan, BatchWriteItem, BatchGetItem, ListStreams, DescribeStream, GetShardIterator, GetRecords, UpdateTimeToLive, DescribeTimeToLive, ExpireItems, UpdateTable}
use Rattle.alt_machine.specs.Members.{body_of}
use Rattle.alt_machine.specs.Ops.BatchGetItem.{batch_get_item}
use Rattle.alt_machine.specs.Ops.BatchWriteItem.{batch_write_item}
use Rattle.alt_machine.specs.Ops.CreateTable.{create_table}
use Rattle.alt_machine.specs.Ops.DeleteItem.{delete_item}
use Rattle.alt_machine.specs.Ops.DeleteTable.{delete_table}
use Rattle.alt_machine.specs.Ops.DescribeStream.{describe_stream}
use Rattle.alt_machine.specs.Ops.DescribeTable.{describe_table}
use Rattle.alt_machine.specs.Ops.DescribeTimeToLive.{describe_time_to_live}
use Rattle.alt_machine.specs.Ops.ExpireItems.{expire_items}
use Rattle.alt_machine.specs.Ops.GetItem.{get_item}
use Rattle.alt_machine.specs.Ops.GetRecords.{get_records}
use Rattle.alt_machine.specs.Ops.GetShardIterator.{get_shard_iterator}
use Rattle.alt_machine.specs.Ops.ListStreams.{list_streams}
use Rattle.alt_machine.specs.Ops.ListTables.{list_tables}
use Rattle.alt_machine.specs.Ops.PutItem.{put_item}
use Rattle.alt_machine.specs.Ops.Query.{query}
use Rattle.alt_machine.specs.Ops.Scan.{scan}
use Rattle.alt_machine.specs.Ops.UpdateItem.{update_item}
use Rattle.alt_machine.specs.Ops.UpdateTable.{update_table}
use Rattle.alt_machine.specs.Ops.UpdateTimeToLive.{update_time_to_live}
use Rattle.alt_machine.specs.Outcomes.{Outcome, refuses}
use Rattle.alt_machine.specs.State.{State}

-- a line an operation
abbrev pub operates : State → Operation → ℕ → Members → Outcome
operates s CreateTable moment ms = create_table s moment ms
operates s DescribeTable moment ms = describe_table s ms
operates s ListTables moment ms = list_tables s ms
operates s DeleteTable moment ms = delete_table s ms
operates s PutItem moment ms = put_item s moment ms
operates s GetItem moment ms = get_item s ms
operates s DeleteItem moment ms = delete_item s moment ms
operates s UpdateItem moment ms = update_item s moment ms
operates s Query moment ms = query s ms
operates s Scan moment ms = scan s ms
operates s BatchWriteItem moment ms = batch_write_item s moment ms
operates s BatchGetItem moment ms = batch_get_item s ms
operates s ListStreams moment ms = list_streams s ms
operates s DescribeStream moment ms = describe_stream s ms
operates s GetShardIterator moment ms = get_shard_iterator s ms
operates s GetRecords moment ms = get_records s ms
operates s UpdateTimeToLive moment ms = update_time_to_live s ms
operates s DescribeTimeToLive moment ms = describe_time_to_live s ms
operates s ExpireItems moment ms = expire_items s moment
operates s UpdateTable moment ms = update_table s ms

-- an operation on a body, if that is one
abbrev pub with_body : State → Operation → ℕ → Option Members → Outcome
with_body s op moment None = refuses unreadable
with_body s op moment (Some ms) = operates s op moment ms

-- what a request of an operation, if it is built, and a body comes to at a moment
abbrev pub step : State → Option Operation → List ℕ → ℕ → Outcome
step s None body moment = refuses unknown_operation
step s (Some op) body moment = with_body s op moment (body_of body)
