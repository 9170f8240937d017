-- What a refused client is told (DynamoDB Developer Guide, "Error handling with DynamoDB": the names
-- of the exceptions; the messages and the one prefix are Alternator's own, docs/API.md).
use Rattle.std.specs.Prelude.{ℕ, ◌≤◌, List, [], ◌∷◌, Option, Some, None, codes, slice_get, unwrap_or}
use Rattle.serde_json.specs.Data.{Data, string, object, Members, no_members, member}
use Rattle.alt_codec.specs.Writing.{json_of_pairs}
use Rattle.alt_value.specs.Tree.{Pair}
use Rattle.alt_shape.specs.Body.{body_json}
use Rattle.alt_shape.specs.declared.refusal.Refusal.{Refusal}
use Rattle.alt_shape.specs.declared.refusal.Refusal.TheVariants.{E1, E2, E4, E5, E6, E7, E8, Invalid}
use Rattle.alt_shape.specs.declared.refusal.Reply.{Reply}
use Rattle.alt_shape.specs.declared.rule.Broken.{Broken}
use Rattle.alt_shape.specs.declared.rule.Broken.TheVariants.{WrongKind, Missing, OutOfRange}

-- the text of `__type`: the one prefix, and the name of the exception
abbrev pub exception_type : Refusal → List ℕ
exception_type E1 = codes "com.amazonaws.dynamodb.v20120810#UnknownOperationException"
exception_type E2 = codes "com.amazonaws.dynamodb.v20120810#SerializationException"
exception_type E4 = codes "com.amazonaws.dynamodb.v20120810#ResourceNotFoundException"
exception_type E5 = codes "com.amazonaws.dynamodb.v20120810#ResourceInUseException"
exception_type E6 = codes "com.amazonaws.dynamodb.v20120810#ConditionalCheckFailedException"
exception_type E7 = codes "com.amazonaws.dynamodb.v20120810#LimitExceededException"
exception_type E8 = codes "com.amazonaws.dynamodb.v20120810#TrimmedDataAccessException"
exception_type (Invalid number) = codes "com.amazonaws.dynamodb.v20120810#ValidationException"

-- the messages of ValidationException, by number from 0
abbrev pub messages : List (List ℕ)
messages =
    codes "not built yet" ∷
    codes "a required member is missing" ∷
    codes "a member is out of its range" ∷
    codes "members do not go together" ∷
    codes "bad table or index name" ∷
    codes "bad key schema or attribute definitions" ∷
    codes "bad index" ∷
    codes "an attribute value needs one known kind" ∷
    codes "not a number" ∷
    codes "a number has more than 38 digits" ∷
    codes "a number is too large" ∷
    codes "a number is too small" ∷
    codes "bad base64" ∷
    codes "an empty set" ∷
    codes "a repeated member in a set" ∷
    codes "NULL must be true" ∷
    codes "nested too deep" ∷
    codes "no such index" ∷
    codes "bad expression" ∷
    codes "undefined name or value" ∷
    codes "unused name or value" ∷
    codes "expression too large" ∷
    codes "overlapping paths or a repeated clause" ∷
    codes "bad key" ∷
    codes "key too long" ∷
    codes "bad index key" ∷
    codes "an update of a key attribute" ∷
    codes "bad path or kind in an update" ∷
    codes "item too large" ∷
    codes "bad key condition" ∷
    codes "bad start key" ∷
    codes "bad batch" ∷
    codes "bad stream argument" ∷
    codes "bad time to live" ∷
    codes "bad index update" ∷
    codes "bad legacy parameter" ∷ []

-- ---- the refusals by name

-- "unknown operation"
abbrev pub unknown_operation : Refusal
unknown_operation = E1

-- "the body cannot be read"
abbrev pub unreadable : Refusal
unreadable = E2

-- "Requested resource not found"
abbrev pub not_found : Refusal
not_found = E4

-- "table already exists"
abbrev pub table_exists : Refusal
table_exists = E5

-- "The conditional request failed"
abbrev pub condition_failed : Refusal
condition_failed = E6

-- "too many tables"
abbrev pub too_many_tables : Refusal
too_many_tables = E7

-- "the change records were trimmed"
abbrev pub change_records_trimmed : Refusal
change_records_trimmed = E8

-- "not built yet"
abbrev pub not_built : Refusal
not_built = Invalid 0

-- "a required member is missing"
abbrev pub member_missing : Refusal
member_missing = Invalid 1

-- "a member is out of its range"
abbrev pub out_of_range : Refusal
out_of_range = Invalid 2

-- "members do not go together"
abbrev pub not_together : Refusal
not_together = Invalid 3

-- "bad table or index name"
abbrev pub bad_name : Refusal
bad_name = Invalid 4

-- "bad key schema or attribute definitions"
abbrev pub bad_key_schema : Refusal
bad_key_schema = Invalid 5

-- "bad index"
abbrev pub bad_index : Refusal
bad_index = Invalid 6

-- "an attribute value needs one known kind"
abbrev pub not_one_kind : Refusal
not_one_kind = Invalid 7

-- "not a number"
abbrev pub not_a_number : Refusal
not_a_number = Invalid 8

-- "a number has more than 38 digits"
abbrev pub too_many_digits : Refusal
too_many_digits = Invalid 9

-- "a number is too large"
abbrev pub number_too_large : Refusal
number_too_large = Invalid 10

-- "a number is too small"
abbrev pub number_too_small : Refusal
number_too_small = Invalid 11

-- "bad base64"
abbrev pub bad_base64 : Refusal
bad_base64 = Invalid 12

-- "an empty set"
abbrev pub empty_set : Refusal
empty_set = Invalid 13

-- "a repeated member in a set"
abbrev pub repeat_in_set : Refusal
repeat_in_set = Invalid 14

-- "NULL must be true"
abbrev pub null_not_true : Refusal
null_not_true = Invalid 15

-- "nested too deep"
abbrev pub nested_too_deep : Refusal
nested_too_deep = Invalid 16

-- "no such index"
abbrev pub no_such_index : Refusal
no_such_index = Invalid 17

-- "bad expression"
abbrev pub bad_expression : Refusal
bad_expression = Invalid 18

-- "undefined name or value"
abbrev pub undefined_name : Refusal
undefined_name = Invalid 19

-- "unused name or value"
abbrev pub unused_name : Refusal
unused_name = Invalid 20

-- "expression too large"
abbrev pub expression_too_large : Refusal
expression_too_large = Invalid 21

-- "overlapping paths or a repeated clause"
abbrev pub overlapping_paths : Refusal
overlapping_paths = Invalid 22

-- "bad key"
abbrev pub bad_key : Refusal
bad_key = Invalid 23

-- "key too long"
abbrev pub key_too_long : Refusal
key_too_long = Invalid 24

-- "bad index key"
abbrev pub bad_index_key : Refusal
bad_index_key = Invalid 25

-- "an update of a key attribute"
abbrev pub key_update : Refusal
key_update = Invalid 26

-- "bad path or kind in an update"
abbrev pub bad_update : Refusal
bad_update = Invalid 27

-- "item too large"
abbrev pub item_too_large : Refusal
item_too_large = Invalid 28

-- "bad key condition"
abbrev pub bad_key_condition : Refusal
bad_key_condition = Invalid 29

-- "bad start key"
abbrev pub bad_start_key : Refusal
bad_start_key = Invalid 30

-- "bad batch"
abbrev pub bad_batch : Refusal
bad_batch = Invalid 31

-- "bad stream argument"
abbrev pub bad_stream_argument : Refusal
bad_stream_argument = Invalid 32

-- "bad time to live"
abbrev pub bad_time_to_live : Refusal
bad_time_to_live = Invalid 33

-- "bad index update"
abbrev pub bad_index_update : Refusal
bad_index_update = Invalid 34

-- "bad legacy parameter"
abbrev pub bad_legacy_parameter : Refusal
bad_legacy_parameter = Invalid 35

-- a refusal that has a message
abbrev pub IsKnown : Refusal → Type 0
IsKnown E1 = Unit {0}
IsKnown E2 = Unit {0}
IsKnown E4 = Unit {0}
IsKnown E5 = Unit {0}
IsKnown E6 = Unit {0}
IsKnown E7 = Unit {0}
IsKnown E8 = Unit {0}
IsKnown (Invalid number) = number ≤ 35

-- the text of `message`
abbrev pub message_of : Refusal → List ℕ
message_of E1 = codes "unknown operation"
message_of E2 = codes "the body cannot be read"
message_of E4 = codes "Requested resource not found"
message_of E5 = codes "table already exists"
message_of E6 = codes "The conditional request failed"
message_of E7 = codes "too many tables"
message_of E8 = codes "the change records were trimmed"
message_of (Invalid number) = unwrap_or (slice_get messages number) []

-- ---- replies

-- what a client is answered: a status and a body
pub record Answer : Type 0 where
  pub status : ℕ
  pub body : Data

-- the answer that a reply of the program stands for
abbrev pub answer_of : Reply → Answer
answer_of reply = record { status = reply.status; body = body_json reply.body }

-- the answer to a request that wasn't refused
abbrev pub answered : Members → Answer
answered ms = record { status = 200; body = object ms }

-- the answer to a request that was refused
abbrev pub refused : Refusal → Answer
refused r = record {
  status = 400;
  body = object
      (member (codes "__type") (string (exception_type r))
      (member (codes "message") (string (message_of r)) no_members));
}

-- the answer to a request that was refused, which shows an item
abbrev pub refused_showing_item : Data → Refusal → Answer
refused_showing_item shown r = record {
  status = 400;
  body = object
      (member (codes "Item") shown
      (member (codes "__type") (string (exception_type r))
      (member (codes "message") (string (message_of r)) no_members)));
}

-- the one or the other, whether there is an item
abbrev pub refused_as : Option (List Pair) → Refusal → Answer
refused_as None r = refused r
refused_as (Some i) r = refused_showing_item (json_of_pairs i) r

-- the refusal of a body that breaks a rule
abbrev pub refusal_of : Broken → Refusal
refusal_of WrongKind = unreadable
refusal_of Missing = member_missing
refusal_of OutOfRange = out_of_range
