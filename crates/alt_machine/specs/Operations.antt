-- The names of the operations.
use Rattle.std.specs.Prelude.{ℕ, List, [], ◌∷◌, Option, option_map, codes}
use Rattle.std.specs.List.{find}
use Rattle.std.specs.Str.{bytes_eq}
use Rattle.alt_machine.specs.declared.Operation.{Operation}
use Rattle.alt_machine.specs.declared.Operation.TheVariants.{CreateTable, DescribeTable, ListTables, DeleteTable, PutItem, GetItem, DeleteItem, UpdateItem, Query, Scan, BatchWriteItem, BatchGetItem, ListStreams, DescribeStream, GetShardIterator, GetRecords, UpdateTimeToLive, DescribeTimeToLive, ExpireItems, UpdateTable}

-- the operations that are built
abbrev pub operations : List (List ℕ × Operation)
operations =
    (codes "CreateTable", CreateTable) ∷
    (codes "DescribeTable", DescribeTable) ∷
    (codes "ListTables", ListTables) ∷
    (codes "DeleteTable", DeleteTable) ∷
    (codes "PutItem", PutItem) ∷
    (codes "GetItem", GetItem) ∷
    (codes "DeleteItem", DeleteItem) ∷
    (codes "UpdateItem", UpdateItem) ∷
    (codes "Query", Query) ∷
    (codes "Scan", Scan) ∷
    (codes "BatchWriteItem", BatchWriteItem) ∷
    (codes "BatchGetItem", BatchGetItem) ∷
    (codes "ListStreams", ListStreams) ∷
    (codes "DescribeStream", DescribeStream) ∷
    (codes "GetShardIterator", GetShardIterator) ∷
    (codes "GetRecords", GetRecords) ∷
    (codes "UpdateTimeToLive", UpdateTimeToLive) ∷
    (codes "DescribeTimeToLive", DescribeTimeToLive) ∷
    (codes "ExpireItems", ExpireItems) ∷
    (codes "UpdateTable", UpdateTable) ∷ []

-- the operation of a name among these
abbrev pub named_in : List (List ℕ × Operation) → List ℕ → Option Operation
named_in entries word = option_map (λ p. p.1) (find (λ p. bytes_eq p.0 word) entries)

-- the operation of that name, if it is built
abbrev pub operation_named : List ℕ → Option Operation
operation_named = named_in operations
