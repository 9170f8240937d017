-- Each operation carries out what the machine's step makes of it.
use Rattle.std.proofs.Common.{◌≡◌, refl, sym, ap, subst, ◌∙◌, ℕ, Result, IsTrue, false}
use Rattle.std.proofs.lemmas.Bool.{false≢true}
use Rattle.serde_json.specs.Data.{Members}
use Rattle.serde_json.specs.View.{members_view}
use Rattle.alt_machine.specs.State.{State}
use Rattle.alt_machine.specs.Step.{operates}
use Rattle.alt_machine.specs.declared.Operation.{Operation}
use Rattle.alt_request.specs.Carried.{Carries}
use Rattle.alt_request.specs.declared.stop.Stop.{Stop}
use Rattle.alt_shape.specs.declared.refusal.Reply.{Reply}
use Rattle.alt_disk.specs.Disk.{DiskState}
use Rattle.alt_dispatch.specs.Reading.{is_read}
use Rattle.alt_request.proofs.TablesLeft.{reads_nothing}
use Rattle.alt_request.specs.TablesStands.{Reads, Stands}
use Rattle.alt_dispatch.proofs.answers.carry_out.Goals as goal

-- what is carried out of the operation at hand
carried_as : {file : ℕ} (o built : Operation) → o ≡ built
    → (moment : ℕ) (ms : Members) (old now : State → Type 0)
    (r : Result Reply Stop) → Carries file (λ s. operates s built moment ms) old now r
    → Carries file (λ s. operates s o moment ms) old now r
carried_as {file = file} o built is moment ms old now r carried =
    subst (λ x. Carries file (λ s. operates s x moment ms) old now r) (sym is) carried

pub returns-in-CreateTable-clause-carried : goal.returns-in-CreateTable-clause-carried
returns-in-CreateTable-clause-carried g c =
    carried_as c.args.operation _ c.in-CreateTable.is c.args.moment
    (members_view c.args.body.now.entries)
    (Stands (g.D.Disk.state c.args.disk.now) c.args.tables.now)
    (Stands (g.D.Disk.state c.create_table.new.disk) c.create_table.new.tables)
    c.create_table.result c.create_table.ensures.carried

pub returns-in-DescribeTable-clause-carried : goal.returns-in-DescribeTable-clause-carried
returns-in-DescribeTable-clause-carried g c =
    carried_as c.args.operation _ c.in-DescribeTable.is c.args.moment
    (members_view c.args.body.now.entries)
    (Stands (g.D.Disk.state c.args.disk.now) c.args.tables.now)
    (Stands (g.D.Disk.state c.describe_table.new.disk) c.describe_table.new.tables)
    c.describe_table.result c.describe_table.ensures.carried

pub returns-in-ListTables-clause-carried : goal.returns-in-ListTables-clause-carried
returns-in-ListTables-clause-carried g c =
    carried_as c.args.operation _ c.in-ListTables.is c.args.moment
    (members_view c.args.body.now.entries)
    (Stands (g.D.Disk.state c.args.disk.now) c.args.tables.now)
    (Stands (g.D.Disk.state c.list_tables.new.disk) c.list_tables.new.tables) c.list_tables.result
    c.list_tables.ensures.carried

pub returns-in-DeleteTable-clause-carried : goal.returns-in-DeleteTable-clause-carried
returns-in-DeleteTable-clause-carried g c =
    carried_as c.args.operation _ c.in-DeleteTable.is c.args.moment
    (members_view c.args.body.now.entries)
    (Stands (g.D.Disk.state c.args.disk.now) c.args.tables.now)
    (Stands (g.D.Disk.state c.delete_table.new.disk) c.delete_table.new.tables)
    c.delete_table.result c.delete_table.ensures.carried

pub returns-in-PutItem-clause-carried : goal.returns-in-PutItem-clause-carried
returns-in-PutItem-clause-carried g c =
    carried_as c.args.operation _ c.in-PutItem.is c.args.moment
    (members_view c.args.body.now.entries)
    (Stands (g.D.Disk.state c.args.disk.now) c.args.tables.now)
    (Stands (g.D.Disk.state c.put_item.new.disk) c.put_item.new.tables) c.put_item.result
    c.put_item.ensures.carried

pub returns-in-GetItem-clause-carried : goal.returns-in-GetItem-clause-carried
returns-in-GetItem-clause-carried g c =
    carried_as c.args.operation _ c.in-GetItem.is c.args.moment
    (members_view c.args.body.now.entries)
    (Stands (g.D.Disk.state c.args.disk.now) c.args.tables.now)
    (Stands (g.D.Disk.state c.get_item.new.disk) c.get_item.new.tables) c.get_item.result
    c.get_item.ensures.carried

pub returns-in-DeleteItem-clause-carried : goal.returns-in-DeleteItem-clause-carried
returns-in-DeleteItem-clause-carried g c =
    carried_as c.args.operation _ c.in-DeleteItem.is c.args.moment
    (members_view c.args.body.now.entries)
    (Stands (g.D.Disk.state c.args.disk.now) c.args.tables.now)
    (Stands (g.D.Disk.state c.delete_item.new.disk) c.delete_item.new.tables) c.delete_item.result
    c.delete_item.ensures.carried

pub returns-in-UpdateItem-clause-carried : goal.returns-in-UpdateItem-clause-carried
returns-in-UpdateItem-clause-carried g c =
    carried_as c.args.operation _ c.in-UpdateItem.is c.args.moment
    (members_view c.args.body.now.entries)
    (Stands (g.D.Disk.state c.args.disk.now) c.args.tables.now)
    (Stands (g.D.Disk.state c.update_item.new.disk) c.update_item.new.tables) c.update_item.result
    c.update_item.ensures.carried

pub returns-in-Query-clause-carried : goal.returns-in-Query-clause-carried
returns-in-Query-clause-carried g c =
    carried_as c.args.operation _ c.in-Query.is c.args.moment (members_view c.args.body.now.entries)
    (Stands (g.D.Disk.state c.args.disk.now) c.args.tables.now)
    (Stands (g.D.Disk.state c.query.new.disk) c.query.new.tables) c.query.result
    c.query.ensures.carried

pub returns-in-Scan-clause-carried : goal.returns-in-Scan-clause-carried
returns-in-Scan-clause-carried g c =
    carried_as c.args.operation _ c.in-Scan.is c.args.moment (members_view c.args.body.now.entries)
    (Stands (g.D.Disk.state c.args.disk.now) c.args.tables.now)
    (Stands (g.D.Disk.state c.scan.new.disk) c.scan.new.tables) c.scan.result c.scan.ensures.carried

pub returns-in-BatchWriteItem-clause-carried : goal.returns-in-BatchWriteItem-clause-carried
returns-in-BatchWriteItem-clause-carried g c =
    carried_as c.args.operation _ c.in-BatchWriteItem.is c.args.moment
    (members_view c.args.body.now.entries)
    (Stands (g.D.Disk.state c.args.disk.now) c.args.tables.now)
    (Stands (g.D.Disk.state c.batch_write_item.new.disk) c.batch_write_item.new.tables)
    c.batch_write_item.result c.batch_write_item.ensures.carried

pub returns-in-BatchGetItem-clause-carried : goal.returns-in-BatchGetItem-clause-carried
returns-in-BatchGetItem-clause-carried g c =
    carried_as c.args.operation _ c.in-BatchGetItem.is c.args.moment
    (members_view c.args.body.now.entries)
    (Stands (g.D.Disk.state c.args.disk.now) c.args.tables.now)
    (Stands (g.D.Disk.state c.batch_get_item.new.disk) c.batch_get_item.new.tables)
    c.batch_get_item.result c.batch_get_item.ensures.carried

pub returns-in-ListStreams-clause-carried : goal.returns-in-ListStreams-clause-carried
returns-in-ListStreams-clause-carried g c =
    carried_as c.args.operation _ c.in-ListStreams.is c.args.moment
    (members_view c.args.body.now.entries)
    (Stands (g.D.Disk.state c.args.disk.now) c.args.tables.now)
    (Stands (g.D.Disk.state c.list_streams.new.disk) c.list_streams.new.tables)
    c.list_streams.result c.list_streams.ensures.carried

pub returns-in-DescribeStream-clause-carried : goal.returns-in-DescribeStream-clause-carried
returns-in-DescribeStream-clause-carried g c =
    carried_as c.args.operation _ c.in-DescribeStream.is c.args.moment
    (members_view c.args.body.now.entries)
    (Stands (g.D.Disk.state c.args.disk.now) c.args.tables.now)
    (Stands (g.D.Disk.state c.describe_stream.new.disk) c.describe_stream.new.tables)
    c.describe_stream.result c.describe_stream.ensures.carried

pub returns-in-GetShardIterator-clause-carried : goal.returns-in-GetShardIterator-clause-carried
returns-in-GetShardIterator-clause-carried g c =
    carried_as c.args.operation _ c.in-GetShardIterator.is c.args.moment
    (members_view c.args.body.now.entries)
    (Stands (g.D.Disk.state c.args.disk.now) c.args.tables.now)
    (Stands (g.D.Disk.state c.get_shard_iterator.new.disk) c.get_shard_iterator.new.tables)
    c.get_shard_iterator.result c.get_shard_iterator.ensures.carried

pub returns-in-GetRecords-clause-carried : goal.returns-in-GetRecords-clause-carried
returns-in-GetRecords-clause-carried g c =
    carried_as c.args.operation _ c.in-GetRecords.is c.args.moment
    (members_view c.args.body.now.entries)
    (Stands (g.D.Disk.state c.args.disk.now) c.args.tables.now)
    (Stands (g.D.Disk.state c.get_records.new.disk) c.get_records.new.tables) c.get_records.result
    c.get_records.ensures.carried

pub returns-in-UpdateTimeToLive-clause-carried : goal.returns-in-UpdateTimeToLive-clause-carried
returns-in-UpdateTimeToLive-clause-carried g c =
    carried_as c.args.operation _ c.in-UpdateTimeToLive.is c.args.moment
    (members_view c.args.body.now.entries)
    (Stands (g.D.Disk.state c.args.disk.now) c.args.tables.now)
    (Stands (g.D.Disk.state c.update_time_to_live.new.disk) c.update_time_to_live.new.tables)
    c.update_time_to_live.result c.update_time_to_live.ensures.carried

pub returns-in-DescribeTimeToLive-clause-carried : goal.returns-in-DescribeTimeToLive-clause-carried
returns-in-DescribeTimeToLive-clause-carried g c =
    carried_as c.args.operation _ c.in-DescribeTimeToLive.is c.args.moment
    (members_view c.args.body.now.entries)
    (Stands (g.D.Disk.state c.args.disk.now) c.args.tables.now)
    (Stands (g.D.Disk.state c.describe_time_to_live.new.disk) c.describe_time_to_live.new.tables)
    c.describe_time_to_live.result c.describe_time_to_live.ensures.carried

pub returns-in-ExpireItems-clause-carried : goal.returns-in-ExpireItems-clause-carried
returns-in-ExpireItems-clause-carried g c =
    carried_as c.args.operation _ c.in-ExpireItems.is c.args.moment
    (members_view c.args.body.now.entries)
    (Stands (g.D.Disk.state c.args.disk.now) c.args.tables.now)
    (Stands (g.D.Disk.state c.expire_items.new.disk) c.expire_items.new.tables)
    c.expire_items.result c.expire_items.ensures.carried

pub returns-in-UpdateTable-clause-carried : goal.returns-in-UpdateTable-clause-carried
returns-in-UpdateTable-clause-carried g c =
    carried_as c.args.operation _ c.in-UpdateTable.is c.args.moment
    (members_view c.args.body.now.entries)
    (Stands (g.D.Disk.state c.args.disk.now) c.args.tables.now)
    (Stands (g.D.Disk.state c.update_table.new.disk) c.update_table.new.tables)
    c.update_table.result c.update_table.ensures.carried

-- ---- what only reads

-- a call that wasn't made of the disk reads
unread : (a b : DiskState) → b ≡ a → Reads a b
unread a b same = subst (Reads a) (sym same) (reads_nothing a)

-- no operation that writes only reads
writes_not : (o built : Operation) → o ≡ built → is_read built ≡ false → IsTrue (is_read o) → ⊥
writes_not o built is writes reads =
    false≢true (sym writes ∙ ap is_read (sym is) ∙ reads)

pub returns-in-CreateTable-clause-reads : goal.returns-in-CreateTable-clause-reads
returns-in-CreateTable-clause-reads g c reads = absurd (writes_not c.args.operation _ c.in-CreateTable.is refl reads)

pub returns-in-DescribeTable-clause-reads : goal.returns-in-DescribeTable-clause-reads
returns-in-DescribeTable-clause-reads g c reads = unread (g.D.Disk.state c.args.disk.now)
    (g.D.Disk.state c.describe_table.new.disk) c.describe_table.ensures.disk

pub returns-in-ListTables-clause-reads : goal.returns-in-ListTables-clause-reads
returns-in-ListTables-clause-reads g c reads = unread (g.D.Disk.state c.args.disk.now)
    (g.D.Disk.state c.list_tables.new.disk) c.list_tables.ensures.disk

pub returns-in-DeleteTable-clause-reads : goal.returns-in-DeleteTable-clause-reads
returns-in-DeleteTable-clause-reads g c reads = absurd (writes_not c.args.operation _ c.in-DeleteTable.is refl reads)

pub returns-in-PutItem-clause-reads : goal.returns-in-PutItem-clause-reads
returns-in-PutItem-clause-reads g c reads = absurd (writes_not c.args.operation _ c.in-PutItem.is refl reads)

pub returns-in-GetItem-clause-reads : goal.returns-in-GetItem-clause-reads
returns-in-GetItem-clause-reads g c reads = c.get_item.ensures.disk

pub returns-in-DeleteItem-clause-reads : goal.returns-in-DeleteItem-clause-reads
returns-in-DeleteItem-clause-reads g c reads = absurd (writes_not c.args.operation _ c.in-DeleteItem.is refl reads)

pub returns-in-UpdateItem-clause-reads : goal.returns-in-UpdateItem-clause-reads
returns-in-UpdateItem-clause-reads g c reads = absurd (writes_not c.args.operation _ c.in-UpdateItem.is refl reads)

pub returns-in-Query-clause-reads : goal.returns-in-Query-clause-reads
returns-in-Query-clause-reads g c reads = c.query.ensures.disk

pub returns-in-Scan-clause-reads : goal.returns-in-Scan-clause-reads
returns-in-Scan-clause-reads g c reads = c.scan.ensures.disk

pub returns-in-BatchWriteItem-clause-reads : goal.returns-in-BatchWriteItem-clause-reads
returns-in-BatchWriteItem-clause-reads g c reads = absurd (writes_not c.args.operation _ c.in-BatchWriteItem.is refl reads)

pub returns-in-BatchGetItem-clause-reads : goal.returns-in-BatchGetItem-clause-reads
returns-in-BatchGetItem-clause-reads g c reads = c.batch_get_item.ensures.disk

pub returns-in-ListStreams-clause-reads : goal.returns-in-ListStreams-clause-reads
returns-in-ListStreams-clause-reads g c reads = unread (g.D.Disk.state c.args.disk.now)
    (g.D.Disk.state c.list_streams.new.disk) c.list_streams.ensures.disk

pub returns-in-DescribeStream-clause-reads : goal.returns-in-DescribeStream-clause-reads
returns-in-DescribeStream-clause-reads g c reads = unread (g.D.Disk.state c.args.disk.now)
    (g.D.Disk.state c.describe_stream.new.disk) c.describe_stream.ensures.disk

pub returns-in-GetShardIterator-clause-reads : goal.returns-in-GetShardIterator-clause-reads
returns-in-GetShardIterator-clause-reads g c reads = unread (g.D.Disk.state c.args.disk.now)
    (g.D.Disk.state c.get_shard_iterator.new.disk) c.get_shard_iterator.ensures.disk

pub returns-in-GetRecords-clause-reads : goal.returns-in-GetRecords-clause-reads
returns-in-GetRecords-clause-reads g c reads = c.get_records.ensures.disk

pub returns-in-UpdateTimeToLive-clause-reads : goal.returns-in-UpdateTimeToLive-clause-reads
returns-in-UpdateTimeToLive-clause-reads g c reads = absurd (writes_not c.args.operation _ c.in-UpdateTimeToLive.is refl reads)

pub returns-in-DescribeTimeToLive-clause-reads : goal.returns-in-DescribeTimeToLive-clause-reads
returns-in-DescribeTimeToLive-clause-reads g c reads = unread (g.D.Disk.state c.args.disk.now)
    (g.D.Disk.state c.describe_time_to_live.new.disk) c.describe_time_to_live.ensures.disk

pub returns-in-ExpireItems-clause-reads : goal.returns-in-ExpireItems-clause-reads
returns-in-ExpireItems-clause-reads g c reads = absurd (writes_not c.args.operation _ c.in-ExpireItems.is refl reads)

pub returns-in-UpdateTable-clause-reads : goal.returns-in-UpdateTable-clause-reads
returns-in-UpdateTable-clause-reads g c reads = absurd (writes_not c.args.operation _ c.in-UpdateTable.is refl reads)
