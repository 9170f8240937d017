-- The members that an operation heeds: those that its rules of shape name (docs/API.md).
use Rattle.std.specs.Prelude.{◌≡◌, ℕ, List, [], ◌∷◌, Option, codes}
use Rattle.serde_json.specs.Data.{Members}
use Rattle.alt_machine.specs.State.{State}
use Rattle.alt_machine.specs.Step.{operates, with_body}
use Rattle.alt_machine.specs.declared.Operation.{Operation}
use Rattle.alt_machine.specs.declared.Operation.TheVariants.{CreateTable, DescribeTable, ListTables, DeleteTable, PutItem, GetItem, DeleteItem, UpdateItem, Query, Scan, BatchWriteItem, BatchGetItem, ListStreams, DescribeStream, GetShardIterator, GetRecords, UpdateTimeToLive, DescribeTimeToLive, ExpireItems, UpdateTable}
use Rattle.alt_named.specs.Named.{AreSame}

-- by their names
abbrev pub heeded : Operation → List (List ℕ)
heeded CreateTable = codes "TableName" ∷ codes "KeySchema" ∷ codes "AttributeDefinitions" ∷
    codes "LocalSecondaryIndexes" ∷ codes "GlobalSecondaryIndexes" ∷ codes "StreamSpecification" ∷
    []
heeded DescribeTable = codes "TableName" ∷ []
heeded ListTables = codes "ExclusiveStartTableName" ∷ codes "Limit" ∷ []
heeded DeleteTable = codes "TableName" ∷ []
heeded PutItem = codes "TableName" ∷ codes "Item" ∷ codes "ConditionExpression" ∷
    codes "ExpressionAttributeNames" ∷ codes "ExpressionAttributeValues" ∷ codes "ReturnValues" ∷
    codes "ReturnValuesOnConditionCheckFailure" ∷ codes "Expected" ∷ codes "ConditionalOperator" ∷
    []
heeded GetItem = codes "TableName" ∷ codes "Key" ∷ codes "ProjectionExpression" ∷
    codes "ExpressionAttributeNames" ∷ codes "ConsistentRead" ∷ codes "AttributesToGet" ∷ []
heeded DeleteItem = codes "TableName" ∷ codes "Key" ∷ codes "ConditionExpression" ∷
    codes "ExpressionAttributeNames" ∷ codes "ExpressionAttributeValues" ∷ codes "ReturnValues" ∷
    codes "ReturnValuesOnConditionCheckFailure" ∷ codes "Expected" ∷ codes "ConditionalOperator" ∷
    []
heeded UpdateItem = codes "TableName" ∷ codes "Key" ∷ codes "UpdateExpression" ∷
    codes "ConditionExpression" ∷ codes "ExpressionAttributeNames" ∷
    codes "ExpressionAttributeValues" ∷ codes "ReturnValues" ∷
    codes "ReturnValuesOnConditionCheckFailure" ∷ codes "AttributeUpdates" ∷ codes "Expected" ∷
    codes "ConditionalOperator" ∷ []
heeded Query = codes "TableName" ∷ codes "IndexName" ∷ codes "KeyConditionExpression" ∷
    codes "FilterExpression" ∷ codes "ProjectionExpression" ∷ codes "ExpressionAttributeNames" ∷
    codes "ExpressionAttributeValues" ∷ codes "Limit" ∷ codes "ScanIndexForward" ∷
    codes "ExclusiveStartKey" ∷ codes "ConsistentRead" ∷ codes "Select" ∷ codes "KeyConditions" ∷
    codes "QueryFilter" ∷ codes "ConditionalOperator" ∷ codes "AttributesToGet" ∷ []
heeded Scan = codes "TableName" ∷ codes "IndexName" ∷ codes "FilterExpression" ∷
    codes "ProjectionExpression" ∷ codes "ExpressionAttributeNames" ∷
    codes "ExpressionAttributeValues" ∷ codes "Limit" ∷ codes "ExclusiveStartKey" ∷
    codes "ConsistentRead" ∷ codes "Select" ∷ codes "Segment" ∷ codes "TotalSegments" ∷
    codes "ScanFilter" ∷ codes "ConditionalOperator" ∷ codes "AttributesToGet" ∷ []
heeded BatchWriteItem = codes "RequestItems" ∷ []
heeded BatchGetItem = codes "RequestItems" ∷ []
heeded ListStreams = codes "TableName" ∷ codes "ExclusiveStartStreamArn" ∷ codes "Limit" ∷ []
heeded DescribeStream = codes "StreamArn" ∷ codes "ExclusiveStartShardId" ∷ codes "Limit" ∷ []
heeded GetShardIterator = codes "StreamArn" ∷ codes "ShardId" ∷ codes "ShardIteratorType" ∷
    codes "SequenceNumber" ∷ []
heeded GetRecords = codes "ShardIterator" ∷ codes "Limit" ∷ []
heeded UpdateTimeToLive = codes "TableName" ∷ codes "TimeToLiveSpecification" ∷ []
heeded DescribeTimeToLive = codes "TableName" ∷ []
heeded ExpireItems = []
heeded UpdateTable = codes "TableName" ∷ codes "AttributeDefinitions" ∷
    codes "GlobalSecondaryIndexUpdates" ∷ []

-- two bodies that have the same at these names come to the same
abbrev pub Heeds : Operation → Type 0
Heeds op = (s : State) (moment : ℕ) (ms bs : Members) → AreSame (heeded op) ms bs
    → operates s op moment ms ≡ operates s op moment bs

-- What was found of a body is enough: in every state it comes to what the body does.
pub record Suffices (op : Operation) (body found : Option Members) : Type 0 where
  pub comes : (s : State) (moment : ℕ) → with_body s op moment body ≡ with_body s op moment found
