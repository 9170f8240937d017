-- What a DescribeStream comes to.
use Rattle.std.proofs.Common.{◌≡◌, refl, sym, ap, ◌∙◌, ℕ, Bool, true, false, List, Some, None, codes, Result, Ok, Err, IfOk}
use Rattle.std.proofs.lemmas.Bool.{or_from}
use Rattle.std.specs.Prelude.{if◌then◌else◌}
use Rattle.serde_json.specs.Data.{Items, Members, no_items, item}
use Rattle.serde_json.specs.View.{view}
use Rattle.serde_json.specs.declared.value.Value.{Value}
use Rattle.serde_json.specs.Written.{has_float, items_have_float}
use Rattle.alt_machine.specs.Lists.{is_given}
use Rattle.alt_machine.specs.Ops.DescribeStream.{of_body, described, shard_json, shards_json, stream_json, describe_stream}
use Rattle.alt_machine.specs.Outcomes.{says, refuses, with_found}
use Rattle.alt_machine.specs.Refusals.{first_answer}
use Rattle.alt_machine.specs.State.{State}
use Rattle.alt_machine.specs.Streams.{arn_in, stream_at}
use Rattle.alt_machine.proofs.Tests.{passed, stopped}
use Rattle.alt_schema.specs.declared.schema.TableSchema.{TableSchema}
use Rattle.alt_schema.specs.declared.schema.View.{View}
use Rattle.alt_schema.proofs.Plain.{key_schema_plain}
use Rattle.alt_shape.specs.Refusals.{refused}
use Rattle.alt_shape.specs.declared.refusal.Refusal.{Refusal}

-- a DescribeStream that its body refuses is refused so
pub describe-refused : (s : State) (ms : Members) (r : Refusal)
    → first_answer (of_body ms) ≡ Some (refused r) → describe_stream s ms ≡ refuses r
unfolding describe_stream
describe-refused s ms r e = stopped (of_body ms) _ (refused r) e

-- behind the tests of the body it goes on with the stream of that name
pub describe-on : (ms : Members) (arn : List ℕ) → arn ≡ arn_in ms → first_answer (of_body ms) ≡ None
    → (s : State) → describe_stream s ms
    ≡ with_found (stream_at s arn) (λ t. says (described t.description ms))
unfolding describe_stream
describe-on ms arn is free s = passed (of_body ms) _ free
    ∙ ap (λ a. with_found (stream_at s a) (λ t. says (described t.description ms))) (sym is)

-- ---- no float stands in it

abbrev shards_by : TableSchema → Bool → Items
shards_by d b = if b then no_items else item (shard_json d) no_items

shards_plain : (d : TableSchema) (ms : Members) → items_have_float (shards_json d ms) ≡ false
shards_plain d ms = elim (is_given (codes "ExclusiveStartShardId") ms) as
    (λ b. items_have_float (shards_by d b) ≡ false) [
      | true ↦ refl
      | false ↦ refl
    ]

stream_plain : (d : TableSchema) (ms : Members) (shows : View)
    → has_float (stream_json d ms shows) ≡ false
stream_plain d ms shows = or_from _ _ (key_schema_plain d.hash d.range)
    (or_from _ false (shards_plain d ms) refl)

-- a description that was written has no float in it
pub written_plain : {E : Type 0} (r : Result Value E) (d : TableSchema) (ms : Members)
    (shows : View)
    → IfOk r (λ v. view v ≡ stream_json d ms shows) → IfOk r (λ v. has_float (view v) ≡ false)
written_plain (Ok v) d ms shows is = ap has_float is ∙ stream_plain d ms shows
written_plain (Err e) d ms shows is = tt
