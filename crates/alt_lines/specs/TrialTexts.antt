-- The lines of the generated requests (docs/formats/trial.md): an operation, a space, and compact JSON with its members in the
-- order of their bytes.
use Rattle.std.specs.Prelude.{ℕ, ◌%◌, List, [], ◌∷◌, ◌++◌, codes, decimal, nat_le, ◌==◌, if◌then◌else◌}

-- the parts of a line, one behind the other
abbrev pub joined : List (List ℕ) → List ℕ
joined [] = []
joined (part ∷ parts) = part ++ joined parts

-- what is drawn for a request: its kind below 10, the numbers of the HASH and RANGE parts of the key, and a value
pub record Draws : Type 0 where
  pub kind : ℕ
  pub partition : ℕ
  pub range : ℕ
  pub value : ℕ

-- the first request: the table with its index and its stream
abbrev pub create_table_line : List ℕ
create_table_line = joined (
    codes "CreateTable {\"AttributeDefinitions\":["
    ∷ codes "{\"AttributeName\":\"g\",\"AttributeType\":\"S\"},"
    ∷ codes "{\"AttributeName\":\"k\",\"AttributeType\":\"S\"},"
    ∷ codes "{\"AttributeName\":\"r\",\"AttributeType\":\"N\"}],"
    ∷ codes "\"GlobalSecondaryIndexes\":[{\"IndexName\":\"Gix\","
    ∷ codes "\"KeySchema\":[{\"AttributeName\":\"g\",\"KeyType\":\"HASH\"}],"
    ∷ codes "\"Projection\":{\"ProjectionType\":\"KEYS_ONLY\"}}],"
    ∷ codes "\"KeySchema\":[{\"AttributeName\":\"k\",\"KeyType\":\"HASH\"},"
    ∷ codes "{\"AttributeName\":\"r\",\"KeyType\":\"RANGE\"}],"
    ∷ codes "\"StreamSpecification\":{\"StreamEnabled\":true,\"StreamViewType\":\"NEW_AND_OLD_IMAGES\"},"
    ∷ codes "\"TableName\":\"Trial\"}" ∷ [])

-- a put of the key's attributes, g and v
abbrev pub put_item_line : Draws → List ℕ
put_item_line d = joined (
    codes "PutItem {\"Item\":{\"g\":{\"S\":\"g" ∷ decimal (d.value % 7)
    ∷ codes "\"},\"k\":{\"S\":\"k" ∷ decimal d.partition
    ∷ codes "\"},\"r\":{\"N\":\"" ∷ decimal d.range
    ∷ codes "\"},\"v\":{\"N\":\"" ∷ decimal d.value
    ∷ codes "\"}},\"TableName\":\"Trial\"}" ∷ [])

-- what the lines of a delete and a read of the key have behind the operation
abbrev pub keyed_line : List ℕ → Draws → List ℕ
keyed_line operation d = joined (
    operation
    ∷ codes " {\"Key\":{\"k\":{\"S\":\"k" ∷ decimal d.partition
    ∷ codes "\"},\"r\":{\"N\":\"" ∷ decimal d.range
    ∷ codes "\"}},\"TableName\":\"Trial\"}" ∷ [])

-- an update of the item at the key, where there is one: the value is added to v
abbrev pub update_item_line : Draws → List ℕ
update_item_line d = joined (
    codes "UpdateItem {\"ConditionExpression\":\"attribute_exists(k)\","
    ∷ codes "\"ExpressionAttributeValues\":{\":d\":{\"N\":\"" ∷ decimal d.value
    ∷ codes "\"}},\"Key\":{\"k\":{\"S\":\"k" ∷ decimal d.partition
    ∷ codes "\"},\"r\":{\"N\":\"" ∷ decimal d.range
    ∷ codes "\"}},\"TableName\":\"Trial\",\"UpdateExpression\":\"ADD v :d\"}" ∷ [])

-- a query of the table by the HASH value
abbrev pub query_line : Draws → List ℕ
query_line d = joined (
    codes "Query {\"ExpressionAttributeValues\":{\":k\":{\"S\":\"k" ∷ decimal d.partition
    ∷ codes "\"}},\"KeyConditionExpression\":\"k = :k\",\"Limit\":10,\"TableName\":\"Trial\"}" ∷ [])

-- a query of the index by the HASH value that a put of this value has
abbrev pub query_index_line : Draws → List ℕ
query_index_line d = joined (
    codes "Query {\"ExpressionAttributeValues\":{\":g\":{\"S\":\"g" ∷ decimal (d.value % 7)
    ∷ codes "\"}},\"IndexName\":\"Gix\",\"KeyConditionExpression\":\"g = :g\",\"Limit\":10,\"TableName\":\"Trial\"}" ∷ [])

-- the line of a request of this kind: four kinds of ten put, one deletes, two update, one reads and two query
unfoldable pub line_of_kind : ℕ → Draws → List ℕ
line_of_kind kind d =
    if nat_le kind 3 then put_item_line d
    else (if kind == 4 then keyed_line (codes "DeleteItem") d
    else (if nat_le kind 6 then update_item_line d
    else (if kind == 7 then keyed_line (codes "GetItem") d
    else (if kind == 8 then query_line d else query_index_line d))))

-- the line of a request that was drawn
abbrev pub drawn_line : Draws → List ℕ
drawn_line d = line_of_kind d.kind d
