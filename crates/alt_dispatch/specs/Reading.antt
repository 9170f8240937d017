-- Which requests only read, whatever becomes of them.
use Rattle.std.specs.Prelude.{Bool, true, false, Option, Some, None, IsTrue}
use Rattle.alt_machine.specs.declared.Operation.{Operation}
use Rattle.alt_machine.specs.declared.Operation.TheVariants.{CreateTable, DescribeTable, ListTables, DeleteTable, PutItem, GetItem, DeleteItem, UpdateItem, Query, Scan, BatchWriteItem, BatchGetItem, ListStreams, DescribeStream, GetShardIterator, GetRecords, UpdateTimeToLive, DescribeTimeToLive, ExpireItems, UpdateTable}

-- The operation has no writes.
abbrev pub is_read : Operation → Bool
is_read CreateTable = false
is_read DescribeTable = true
is_read ListTables = true
is_read DeleteTable = false
is_read PutItem = false
is_read GetItem = true
is_read DeleteItem = false
is_read UpdateItem = false
is_read Query = true
is_read Scan = true
is_read BatchWriteItem = false
is_read BatchGetItem = true
is_read ListStreams = true
is_read DescribeStream = true
is_read GetShardIterator = true
is_read GetRecords = true
is_read UpdateTimeToLive = false
is_read DescribeTimeToLive = true
is_read ExpireItems = false
is_read UpdateTable = false

-- So it is of a request that names no operation that is built.
abbrev pub OperationOnlyReads : Option Operation → Type 0
OperationOnlyReads None = Unit {0}
OperationOnlyReads (Some operation) = IsTrue (is_read operation)
