-- How the body of each operation first breaks its shape, the objects inside it included: DynamoDB API
-- Reference, the "Request Parameters" of each action (docs/API.md).
use Rattle.std.specs.Prelude.{ℕ, List, [], ◌∷◌, ◌++◌, not, Option, codes, is_some}
use Rattle.serde_json.specs.Data.{Items, Members}
use Rattle.alt_shape.specs.declared.rule.Broken.{Broken}
use Rattle.alt_shape.specs.Shape.{a_text, a_whole, a_truth, an_object, an_array, a_word, Demand, given, first_unmet}
use Rattle.alt_shape.specs.BodyParts.{required, optional, first_shape_fault, in_items, in_members, text_fault, key_fault, object_fault, array_fault, in_array, in_object, condition_entry, expected_entry, update_entry, in_entries, in_names, operator_demand}

-- ---- operations on tables

-- the members of a CreateTable's body
abbrev pub create_table_demands : List Demand
create_table_demands =
    required (codes "TableName") a_text ∷
    required (codes "KeySchema") an_array ∷
    required (codes "AttributeDefinitions") an_array ∷
    optional (codes "LocalSecondaryIndexes") an_array ∷
    optional (codes "GlobalSecondaryIndexes") an_array ∷
    optional (codes "StreamSpecification") an_object ∷ []

-- an element of a key schema: an attribute's name and HASH or RANGE
abbrev pub key_schema_element : Members → Option Broken
key_schema_element = first_unmet (
    required (codes "AttributeName") a_text ∷
    required (codes "KeyType") (a_word (codes "HASH" ∷ codes "RANGE" ∷ [])) ∷ [])

-- the elements of a key schema, in list order
abbrev pub key_schema : Items → Option Broken
key_schema = in_items (object_fault key_schema_element)

-- a defined attribute: its name and its type
abbrev pub attribute_definition : Members → Option Broken
attribute_definition = first_unmet (
    required (codes "AttributeName") a_text ∷
    required (codes "AttributeType") (a_word (codes "S" ∷ codes "N" ∷ codes "B" ∷ [])) ∷ [])

-- a Projection: its type, and the names that it includes, which are texts
abbrev pub projection : Members → Option Broken
projection ms = first_shape_fault (
    first_unmet (
    required (codes "ProjectionType")
    (a_word (codes "ALL" ∷ codes "KEYS_ONLY" ∷ codes "INCLUDE" ∷ [])) ∷
    optional (codes "NonKeyAttributes") an_array ∷ []) ms ∷
    in_array (codes "NonKeyAttributes") (in_items text_fault) ms ∷ [])

-- an index: its own members, then its key schema, then its projection
abbrev pub secondary_index : Members → Option Broken
secondary_index ms = first_shape_fault (
    first_unmet (
    required (codes "IndexName") a_text ∷
    required (codes "KeySchema") an_array ∷
    required (codes "Projection") an_object ∷ []) ms ∷
    in_array (codes "KeySchema") key_schema ms ∷
    in_object (codes "Projection") projection ms ∷ [])

-- the words of StreamViewType
abbrev pub stream_view_words : List (List ℕ)
stream_view_words = codes "KEYS_ONLY" ∷ codes "NEW_IMAGE" ∷ codes "OLD_IMAGE" ∷ codes "NEW_AND_OLD_IMAGES" ∷ []

-- whether there is a stream, and what it shows
abbrev pub stream_specification : Members → Option Broken
stream_specification = first_unmet (
    required (codes "StreamEnabled") a_truth ∷
    optional (codes "StreamViewType") (a_word stream_view_words) ∷ [])

-- CreateTable: its own members, then the objects inside them in their order
unfoldable pub create_table : Members → Option Broken
create_table ms = first_shape_fault (
    first_unmet create_table_demands ms ∷
    in_array (codes "KeySchema") key_schema ms ∷
    in_array (codes "AttributeDefinitions") (in_items (object_fault attribute_definition)) ms ∷
    in_array (codes "LocalSecondaryIndexes") (in_items (object_fault secondary_index)) ms ∷
    in_array (codes "GlobalSecondaryIndexes") (in_items (object_fault secondary_index)) ms ∷
    in_object (codes "StreamSpecification") stream_specification ms ∷ [])

-- a change of an index: one that comes, as CreateTable has it, one whose throughput changes, or one that goes, by its name
abbrev pub index_update : Members → Option Broken
index_update ms = first_shape_fault (
    first_unmet (
    optional (codes "Create") an_object ∷
    optional (codes "Update") an_object ∷
    optional (codes "Delete") an_object ∷ []) ms ∷
    in_object (codes "Create") secondary_index ms ∷
    in_object (codes "Delete") (first_unmet (required (codes "IndexName") a_text ∷ [])) ms ∷ [])

-- UpdateTable names a table, and may define attributes and change indexes
unfoldable pub update_table : Members → Option Broken
update_table ms = first_shape_fault (
    first_unmet (
    required (codes "TableName") a_text ∷
    optional (codes "AttributeDefinitions") an_array ∷
    optional (codes "GlobalSecondaryIndexUpdates") an_array ∷ []) ms ∷
    in_array (codes "AttributeDefinitions") (in_items (object_fault attribute_definition)) ms ∷
    in_array (codes "GlobalSecondaryIndexUpdates") (in_items (object_fault index_update)) ms ∷ [])

-- DescribeTable names a table
unfoldable pub describe_table : Members → Option Broken
describe_table = first_unmet (required (codes "TableName") a_text ∷ [])

-- DeleteTable names a table
unfoldable pub delete_table : Members → Option Broken
delete_table = first_unmet (required (codes "TableName") a_text ∷ [])

-- ListTables says where to start and how many to list, from 1 to 100
unfoldable pub list_tables : Members → Option Broken
list_tables = first_unmet (
    optional (codes "ExclusiveStartTableName") a_text ∷
    optional (codes "Limit") (a_whole 1 100) ∷ [])

-- ---- operations on an item

-- the members of every write of one item, after those that are its own
abbrev pub write_demands : List (List ℕ) → List Demand → List Demand
write_demands return_values updates =
    optional (codes "ConditionExpression") a_text ∷
    optional (codes "ExpressionAttributeNames") an_object ∷
    optional (codes "ExpressionAttributeValues") an_object ∷
    optional (codes "ReturnValues") (a_word return_values) ∷
    optional (codes "ReturnValuesOnConditionCheckFailure")
    (a_word (codes "NONE" ∷ codes "ALL_OLD" ∷ [])) ∷
    optional (codes "Expected") an_object ∷
    updates ++ operator_demand ∷ []

-- PutItem gives an item
unfoldable pub put_item : Members → Option Broken
put_item ms = first_shape_fault (
    first_unmet (
    required (codes "TableName") a_text ∷
    required (codes "Item") an_object ∷
    write_demands (codes "NONE" ∷ codes "ALL_OLD" ∷ []) []) ms ∷
    in_entries (codes "Expected") expected_entry ms ∷ [])

-- DeleteItem gives a key
unfoldable pub delete_item : Members → Option Broken
delete_item ms = first_shape_fault (
    first_unmet (
    required (codes "TableName") a_text ∷
    required (codes "Key") an_object ∷
    write_demands (codes "NONE" ∷ codes "ALL_OLD" ∷ []) []) ms ∷
    in_entries (codes "Expected") expected_entry ms ∷ [])

-- UpdateItem gives a key and what to do with its item
unfoldable pub update_item : Members → Option Broken
update_item ms = first_shape_fault (
    first_unmet (
    required (codes "TableName") a_text ∷
    required (codes "Key") an_object ∷
    optional (codes "UpdateExpression") a_text ∷
    write_demands (
    codes "NONE" ∷ codes "ALL_OLD" ∷ codes "UPDATED_OLD" ∷ codes "ALL_NEW" ∷
    codes "UPDATED_NEW" ∷ []) (optional (codes "AttributeUpdates") an_object ∷ [])) ms ∷
    in_entries (codes "Expected") expected_entry ms ∷
    in_entries (codes "AttributeUpdates") update_entry ms ∷ [])

-- GetItem gives a key and what to show of its item
unfoldable pub get_item : Members → Option Broken
get_item ms = first_shape_fault (
    first_unmet (
    required (codes "TableName") a_text ∷
    required (codes "Key") an_object ∷
    optional (codes "ProjectionExpression") a_text ∷
    optional (codes "ExpressionAttributeNames") an_object ∷
    optional (codes "ConsistentRead") a_truth ∷
    optional (codes "AttributesToGet") an_array ∷ []) ms ∷
    in_names ms ∷ [])

-- ---- Query and Scan

-- the words of Select
abbrev pub selections : List (List ℕ)
selections =
    codes "ALL_ATTRIBUTES" ∷ codes "ALL_PROJECTED_ATTRIBUTES" ∷ codes "SPECIFIC_ATTRIBUTES" ∷
    codes "COUNT" ∷ []

-- the condition on keys is a text that has to be there, unless there are KeyConditions
abbrev pub key_condition_demand : Members → Demand
key_condition_demand ms = record {
  name = codes "KeyConditionExpression";
  form = a_text;
  must = not (is_some (given (codes "KeyConditions") ms));
}

-- the members of a Query's body alone
abbrev pub own_of_query : Members → Option Broken
own_of_query ms = first_unmet (
    required (codes "TableName") a_text ∷
    optional (codes "IndexName") a_text ∷
    key_condition_demand ms ∷
    optional (codes "FilterExpression") a_text ∷
    optional (codes "ProjectionExpression") a_text ∷
    optional (codes "ExpressionAttributeNames") an_object ∷
    optional (codes "ExpressionAttributeValues") an_object ∷
    optional (codes "Limit") (a_whole 1 2147483647) ∷
    optional (codes "ScanIndexForward") a_truth ∷
    optional (codes "ExclusiveStartKey") an_object ∷
    optional (codes "ConsistentRead") a_truth ∷
    optional (codes "Select") (a_word selections) ∷
    optional (codes "KeyConditions") an_object ∷
    optional (codes "QueryFilter") an_object ∷
    operator_demand ∷
    optional (codes "AttributesToGet") an_array ∷ []) ms

-- Query gives a condition on keys, and what to show of the items found
unfoldable pub query : Members → Option Broken
query ms = first_shape_fault (own_of_query ms ∷
    in_entries (codes "KeyConditions") condition_entry ms ∷
    in_entries (codes "QueryFilter") condition_entry ms ∷
    in_names ms ∷ [])

-- Scan says which part of a table to walk through, and what to show of it
unfoldable pub scan : Members → Option Broken
scan ms = first_shape_fault (
    first_unmet (
    required (codes "TableName") a_text ∷
    optional (codes "IndexName") a_text ∷
    optional (codes "FilterExpression") a_text ∷
    optional (codes "ProjectionExpression") a_text ∷
    optional (codes "ExpressionAttributeNames") an_object ∷
    optional (codes "ExpressionAttributeValues") an_object ∷
    optional (codes "Limit") (a_whole 1 2147483647) ∷
    optional (codes "ExclusiveStartKey") an_object ∷
    optional (codes "ConsistentRead") a_truth ∷
    optional (codes "Select") (a_word selections) ∷
    optional (codes "Segment") (a_whole 0 999999) ∷
    optional (codes "TotalSegments") (a_whole 1 1000000) ∷
    optional (codes "ScanFilter") an_object ∷
    operator_demand ∷
    optional (codes "AttributesToGet") an_array ∷ []) ms ∷
    in_entries (codes "ScanFilter") condition_entry ms ∷
    in_names ms ∷ [])

-- ---- batches

-- a put in a batch gives an item
abbrev pub put_request : Members → Option Broken
put_request = first_unmet (required (codes "Item") an_object ∷ [])

-- a delete in a batch gives a key
abbrev pub delete_request : Members → Option Broken
delete_request = first_unmet (required (codes "Key") an_object ∷ [])

-- a write in a batch: a put, then a delete
abbrev pub write_request : Members → Option Broken
write_request ms = first_shape_fault (
    first_unmet (
    optional (codes "PutRequest") an_object ∷
    optional (codes "DeleteRequest") an_object ∷ []) ms ∷
    in_object (codes "PutRequest") put_request ms ∷
    in_object (codes "DeleteRequest") delete_request ms ∷ [])

-- BatchWriteItem gives writes by table
unfoldable pub batch_write_item : Members → Option Broken
batch_write_item ms = first_shape_fault (
    first_unmet (required (codes "RequestItems") an_object ∷ []) ms ∷
    in_object (codes "RequestItems")
    (in_members (array_fault (in_items (object_fault write_request)))) ms ∷ [])

-- the reads of one table in a batch: its own members, then the keys, then the names to show
abbrev pub keys_and_attributes : Members → Option Broken
keys_and_attributes ms = first_shape_fault (
    first_unmet (
    required (codes "Keys") an_array ∷
    optional (codes "ProjectionExpression") a_text ∷
    optional (codes "ExpressionAttributeNames") an_object ∷
    optional (codes "ConsistentRead") a_truth ∷
    optional (codes "AttributesToGet") an_array ∷ []) ms ∷
    in_array (codes "Keys") (in_items key_fault) ms ∷
    in_names ms ∷ [])

-- BatchGetItem gives reads by table
unfoldable pub batch_get_item : Members → Option Broken
batch_get_item ms = first_shape_fault (
    first_unmet (required (codes "RequestItems") an_object ∷ []) ms ∷
    in_object (codes "RequestItems") (in_members (object_fault keys_and_attributes)) ms ∷ [])

-- ---- streams

-- ListStreams says whose streams, where to start, and how many to list
unfoldable pub list_streams : Members → Option Broken
list_streams = first_unmet (
    optional (codes "TableName") a_text ∷
    optional (codes "ExclusiveStartStreamArn") a_text ∷
    optional (codes "Limit") (a_whole 1 100) ∷ [])

-- DescribeStream names a stream, and where to start among its shards
unfoldable pub describe_stream : Members → Option Broken
describe_stream = first_unmet (
    required (codes "StreamArn") a_text ∷
    optional (codes "ExclusiveStartShardId") a_text ∷
    optional (codes "Limit") (a_whole 1 100) ∷ [])

-- the words of ShardIteratorType
abbrev pub iterator_types : List (List ℕ)
iterator_types =
    codes "TRIM_HORIZON" ∷ codes "LATEST" ∷ codes "AT_SEQUENCE_NUMBER" ∷
    codes "AFTER_SEQUENCE_NUMBER" ∷ []

-- GetShardIterator names a shard and a place in it
unfoldable pub get_shard_iterator : Members → Option Broken
get_shard_iterator = first_unmet (
    required (codes "StreamArn") a_text ∷
    required (codes "ShardId") a_text ∷
    required (codes "ShardIteratorType") (a_word iterator_types) ∷
    optional (codes "SequenceNumber") a_text ∷ [])

-- GetRecords gives an iterator, and how many records to read, from 1 to 1,000
unfoldable pub get_records : Members → Option Broken
get_records = first_unmet (
    required (codes "ShardIterator") a_text ∷
    optional (codes "Limit") (a_whole 1 1000) ∷ [])
