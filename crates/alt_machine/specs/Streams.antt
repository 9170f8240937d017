-- Streams: which of them there are, and the places in one that iterators stand for (DynamoDB Streams API Reference). A stream has
-- one shard.
use Rattle.std.specs.Prelude.{ℕ, ◌+◌, ◌-◌, ◌^◌, nat_le, ◌&&◌, Bool, true, List, [], ◌∷◌, ◌++◌, map, length, take, drop, Option, Some, None, option_map, option_and_then, is_some, Result, codes, if◌then◌else◌}
use Rattle.std.specs.List.{find}
use Rattle.std.specs.FinMap as finite
use Rattle.std.specs.Option.{option_map_or}
use Rattle.std.specs.Str.{all_ascii_digits, bytes_eq}
use Rattle.std.specs.Str.Parse.{digits_value}
use Rattle.serde_json.specs.Data.{Members}
use Rattle.serde_json.specs.Find.{as_str}
use Rattle.alt_schema.specs.Json.{label, stream_arn}
use Rattle.alt_schema.specs.Stated.{text_of}
use Rattle.alt_schema.specs.declared.schema.TableSchema.{TableSchema}
use Rattle.alt_shape.specs.Refusals.{Answer, not_found}
use Rattle.alt_shape.specs.Shape.{given}
use Rattle.alt_machine.specs.Refusals.{or_refused}
use Rattle.alt_machine.specs.State.{State, Table}

-- ---- streams

-- a table's stream has this name
abbrev pub is_stream : List ℕ → TableSchema → Bool
is_stream arn d = is_some d.view && bytes_eq (stream_arn d.name d.number) arn

-- the tables, in the order of their names
abbrev pub all_tables : State → List Table
all_tables s = map (λ e. e.1) (finite.entries s.tables)

-- the table whose stream has this name, if there is one
abbrev pub table_of_stream : State → List ℕ → Option Table
table_of_stream s arn = find (λ t. is_stream arn t.description) (all_tables s)

-- the table of the stream that a request names, or that it isn't there
abbrev pub stream_at : State → List ℕ → Result Table Answer
stream_at s arn = or_refused not_found (table_of_stream s arn)

-- the name of the stream of a request
abbrev pub arn_in : Members → List ℕ
arn_in = text_of (codes "StreamArn")

-- the name of the one shard
abbrev pub shard : List ℕ
shard = codes "shardId-00000000000000000000"

-- the member, where it is there, names the shard
abbrev pub may_be_shard : List ℕ → Members → Bool
may_be_shard name ms = option_map_or (λ text. bytes_eq text shard)
    (option_and_then as_str (given name ms)) true

-- ---- numbers

-- the number that a text of digits alone denotes, where it is at most the largest
abbrev pub number_within : ℕ → List ℕ → Option ℕ
number_within largest digits =
    if all_ascii_digits digits && nat_le (digits_value 10 digits) largest
    then Some (digits_value 10 digits) else None

-- a sequence number has 1 to 40 digits, and its value is below 2^62
abbrev pub sequence_number : List ℕ → Option ℕ
sequence_number text = if nat_le 1 (length text) && nat_le (length text) 40
    then number_within (2 ^ 62 - 1) text else None

-- ---- iterators

-- a place in a stream: the changes from a number on
pub record Iterator : Type 0 where
  pub arn : List ℕ
  pub from : ℕ

-- its text: the stream's name, `|`, and the number in 21 digits
abbrev pub iterator_text : Iterator → List ℕ
iterator_text i = i.arn ++ (124 ∷ label i.from)

-- how many bytes of a text stand before its last 22
abbrev pub before_number : List ℕ → ℕ
before_number text = length text - 22

-- what a text stands for, where it ends in `|` and 21 digits of a value of at most 2^62
abbrev pub iterator_of : List ℕ → Option Iterator
iterator_of text =
    if nat_le 22 (length text) && bytes_eq (take 1 (drop (before_number text) text)) (124 ∷ [])
    then option_map (λ n. record { arn = take (before_number text) text; from = n })
    (number_within (2 ^ 62) (drop (before_number text + 1) text))
    else None
