-- A body from which the item was read ahead says what it said before, beside the item.
use Rattle.std.proofs.Common.{◌≡◌, refl, ap, ◌∙◌, ℕ, ◌<◌, true, List, length, Ok, arith}
use Rattle.std.specs.Prelude.{codes, Option, Some}
use Rattle.serde_json.specs.Data.{Members}
use Rattle.alt_expr.specs.Given.{Given}
use Rattle.alt_machine.specs.declared.Expressions.{Expressions}
use Rattle.alt_machine.specs.Body.{body_refusals}
use Rattle.alt_machine.specs.Expressions.{conditional, given_at, words_given, texts_say, expressions}
use Rattle.alt_machine.specs.Members.{table_name, unless_fault, item_of, item_at}
use Rattle.alt_machine.specs.Older.{older_said}
use Rattle.alt_machine.specs.Ops.PutItem.{rules, of_body}
use Rattle.alt_machine.specs.State.{State, Table}
use Rattle.alt_machine.specs.declared.Operation.TheVariants.{PutItem}
use Rattle.alt_members.specs.Heeded.{heeded}
use Rattle.alt_named.specs.Named.{is_among}
use Rattle.alt_schema.specs.declared.schema.TableSchema.{TableSchema}
use Rattle.alt_shape.specs.Bodies.{put_item}
use Rattle.alt_shape.specs.Shape.{given}
use Rattle.alt_shape.specs.declared.rule.Broken.{Broken}
use Rattle.alt_value.specs.Tree.{Pair}
use Rattle.alt_readahead.specs.Direct.{IsReadAhead}
use Rattle.alt_request.specs.ItemWrites.{IsAsked, changes_item}
use Rattle.alt_request.specs.Targets.{SaySame}
use Rattle.alt_ops_item.specs.private.Writes.{putting}

module _ (ms bs : Members) (item : List Pair) (h : IsReadAhead (heeded PutItem) ms bs item) where
  -- a member that a put heeds, whose name is longer than that of the item
  same : (name : List ℕ) → is_among (heeded PutItem) name ≡ true → 4 < length name
      → given name ms ≡ given name bs
  same name named long = h.others name named (λ e. omega (arith, long, ap length e))

  -- the shape of the body has the same fault, since an object stands at the item in both
  shape_same : put_item ms ≡ put_item bs
  unfolding put_item
  shape_same =
      rw (
        same (codes "TableName") refl (omega arith),
        same (codes "ConditionExpression") refl (omega arith),
        same (codes "ExpressionAttributeNames") refl (omega arith),
        same (codes "ExpressionAttributeValues") refl (omega arith),
        same (codes "ReturnValues") refl (omega arith),
        same (codes "ReturnValuesOnConditionCheckFailure") refl (omega arith),
        same (codes "Expected") refl (omega arith),
        same (codes "ConditionalOperator") refl (omega arith),
        h.read.1,
        h.stub,
      ) refl

  -- and the same tests refuse it
  body_same : (broken : Option Broken) → body_refusals broken rules ms
      ≡ body_refusals broken rules bs
  body_same broken =
      rw (
        same (codes "Expected") refl (omega arith),
        same (codes "ConditionExpression") refl (omega arith),
        same (codes "ConditionalOperator") refl (omega arith),
        same (codes "TableName") refl (omega arith),
      ) refl

  -- those of the body's shape too
  tests_same : of_body ms ≡ of_body bs
  tests_same = ap (λ broken. body_refusals broken rules ms) shape_same ∙ body_same (put_item bs)

  -- the names and the values are the same
  given_same : words_given conditional ms ≡ words_given conditional bs
  unfolding given_at
  given_same =
      rw (
        same (codes "ExpressionAttributeNames") refl (omega arith),
        same (codes "ExpressionAttributeValues") refl (omega arith),
        same (codes "Expected") refl (omega arith),
      ) refl

  -- and the name of the table
  name_same : table_name ms ≡ table_name bs
  name_same = rw (same (codes "TableName") refl (omega arith)) refl

  -- and what the expressions say
  said_same : (d : TableSchema) (g : Given)
      → expressions conditional d ms g ≡ expressions conditional d bs g
  unfolding expressions older_said texts_say
  said_same d g =
      rw (
        same (codes "ConditionExpression") refl (omega arith),
        same (codes "ExpressionAttributeNames") refl (omega arith),
        same (codes "Expected") refl (omega arith),
        same (codes "ConditionalOperator") refl (omega arith),
      ) refl

  -- so they say the same beside the item
  say_same : SaySame conditional ms bs
  say_same = record { words = given_same; table = name_same; says = said_same }

  -- and come to the same
  changes_same : (s : State) (moment : ℕ) (said : Expressions) (i : List Pair) (t : Table)
      (place : List ℕ)
      → changes_item putting s moment ms said i t place ≡ changes_item putting s moment bs said i t place
  changes_same s moment said i t place =
      rw (
        same (codes "TableName") refl (omega arith),
        same (codes "ReturnValues") refl (omega arith),
        same (codes "ReturnValuesOnConditionCheckFailure") refl (omega arith),
      ) refl

  -- the item is that which was read ahead
  item_read : item_at (codes "Item") ms ≡ Ok item
  item_read = ap item_of h.read.1 ∙ ap unless_fault h.read.2

  -- so the put that the body asks for is at hand
  pub asked_ahead : IsAsked putting ms bs (Some item)
  asked_ahead = record {
    tests = tests_same;
    at_hand = record { beside = say_same; item = item_read };
    changed = changes_same;
  }
