-- The operation that the target of a request names.
use Rattle.std.specs.Prelude.{ℕ, Bool, true, false, List, length, take, drop, Option, Some, None, option_and_then, if◌then◌else◌, codes}
use Rattle.std.specs.Str.{bytes_eq}
use Rattle.alt_machine.specs.Operations.{operation_named}
use Rattle.alt_machine.specs.declared.Operation.{Operation}
use Rattle.alt_machine.specs.declared.Operation.TheVariants.{ListStreams, DescribeStream, GetShardIterator, GetRecords}

-- what stands before the name of an operation on tables and items
abbrev pub tables_version : List ℕ
tables_version = codes "DynamoDB_20120810."

-- what stands before the name of one on streams
abbrev pub streams_version : List ℕ
streams_version = codes "DynamoDBStreams_20120810."

-- the operation is one on streams
abbrev pub is_on_streams : Operation → Bool
is_on_streams ListStreams = true
is_on_streams DescribeStream = true
is_on_streams GetShardIterator = true
is_on_streams GetRecords = true
is_on_streams _ = false

-- the operation, where it is one on tables and items
abbrev pub on_tables : Operation → Option Operation
on_tables operation = if is_on_streams operation then None else Some operation

-- the operation, where it is one on streams
abbrev pub on_streams : Operation → Option Operation
on_streams operation = if is_on_streams operation then Some operation else None

-- the built operation whose name stands behind this version, where it passes
abbrev pub operation_behind : List ℕ → (Operation → Option Operation) → List ℕ → Option Operation
operation_behind version passes target =
    option_and_then passes (operation_named (drop (length version) target))

-- a text begins with this version
abbrev pub begins_with_version : List ℕ → List ℕ → Bool
begins_with_version version target = bytes_eq (take (length version) target) version

-- the operation on streams of a target
abbrev pub stream_operation_at : List ℕ → Option Operation
stream_operation_at target = if begins_with_version streams_version target
    then operation_behind streams_version on_streams target else None

-- the operation of a target: one on tables and items behind the first version, and one on streams behind the second
abbrev pub operation_at : List ℕ → Option Operation
operation_at target = if begins_with_version tables_version target
    then operation_behind tables_version on_tables target else stream_operation_at target
