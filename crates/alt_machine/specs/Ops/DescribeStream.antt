-- DescribeStream: answers what a stream is, with its one shard (DynamoDB Streams API Reference, "DescribeStream"). Its Limit has no effect.
use Rattle.std.specs.Prelude.{List, [], ◌∷◌, Option, codes, if◌then◌else◌}
use Rattle.std.specs.Option.{option_map_or}
use Rattle.serde_json.specs.Data.{Data, number, unsigned, string, object, array, Items, item, no_items, Members, member, no_members}
use Rattle.alt_schema.specs.Json.{key_schema_json, label, stream_arn, view_word}
use Rattle.alt_schema.specs.declared.schema.TableSchema.{TableSchema}
use Rattle.alt_schema.specs.declared.schema.View.{View}
use Rattle.alt_shape.specs.Bodies as bodies
use Rattle.alt_shape.specs.Refusals.{Answer, bad_stream_argument}
use Rattle.alt_machine.specs.Body.{of_shape}
use Rattle.alt_machine.specs.Lists.{is_given}
use Rattle.alt_machine.specs.Outcomes.{Outcome, says, unless_refused, with_found}
use Rattle.alt_machine.specs.Refusals.{refuse_unless}
use Rattle.alt_machine.specs.Replies.{answers}
use Rattle.alt_machine.specs.State.{State}
use Rattle.alt_machine.specs.Streams.{arn_in, may_be_shard, shard, stream_at}

-- what the body alone says
abbrev pub of_body : Members → List (Option Answer)
of_body ms =
    of_shape (bodies.describe_stream ms) ∷
    refuse_unless (may_be_shard (codes "ExclusiveStartShardId") ms) bad_stream_argument ∷ []

-- the shard, whose first number is that of the table's making
abbrev pub shard_json : TableSchema → Data
shard_json d = object
    (member (codes "SequenceNumberRange") (object
    (member (codes "StartingSequenceNumber") (string (label d.number)) no_members))
    (member (codes "ShardId") (string shard) no_members))

-- the shards behind the one to start after
abbrev pub shards_json : TableSchema → Members → Items
shards_json d ms = if is_given (codes "ExclusiveStartShardId") ms
    then no_items else item (shard_json d) no_items

-- the stream of a table, which shows so much
abbrev pub stream_json : TableSchema → Members → View → Data
stream_json d ms view = object
    (member (codes "CreationRequestDateTime") (number (unsigned d.created))
    (member (codes "KeySchema") (key_schema_json d.hash d.range)
    (member (codes "Shards") (array (shards_json d ms))
    (member (codes "StreamArn") (string (stream_arn d.name d.number))
    (member (codes "StreamLabel") (string (label d.number))
    (member (codes "StreamStatus") (string (codes "ENABLED"))
    (member (codes "StreamViewType") (string (view_word view))
    (member (codes "TableName") (string d.name) no_members))))))))

-- a table that is found by its stream has one
abbrev pub described : TableSchema → Members → Answer
described d ms = answers (codes "StreamDescription")
    (option_map_or (stream_json d ms) d.view (object no_members))

-- behind the tests the description of the stream that is named is answered
unfoldable pub describe_stream : State → Members → Outcome
describe_stream s ms = unless_refused (of_body ms)
    (with_found (stream_at s (arn_in ms)) (λ t. says (described t.description ms)))
