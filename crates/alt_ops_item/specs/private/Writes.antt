-- What the operations that write an item say of themselves.
use Rattle.std.specs.Prelude.{List, [], Option, Some, None, Ok, codes, unwrap_or}
use Rattle.serde_json.specs.Data.{Members}
use Rattle.alt_machine.specs.Conditional.{asked}
use Rattle.alt_machine.specs.declared.Expressions.{Expressions}
use Rattle.alt_machine.specs.declared.Sought.TheVariants.{Item, Key}
use Rattle.alt_machine.specs.Expressions as words
use Rattle.alt_machine.specs.Ops.DeleteItem as delete
use Rattle.alt_machine.specs.Ops.PutItem as put
use Rattle.alt_machine.specs.Ops.UpdateItem as update
use Rattle.alt_ops_item.specs.private.Updates.{left_or_refusal}
use Rattle.alt_request.specs.ItemWrites.{Writer}
use Rattle.alt_shape.specs.Bodies as bodies
use Rattle.alt_value.specs.Tree.{Pair}

-- the item that was there, where it is asked for
abbrev pub shown_old : Members → Expressions → Option (List Pair) → Option (List Pair)
    → Option (List Pair)
shown_old ms said old new = asked (codes "ReturnValues") ms old

-- a put leaves its item, where its table takes that
abbrev pub putting : Writer
putting = record {
  shape = bodies.put_item;
  rules = put.rules;
  sought = Item;
  texts = words.conditional;
  takes = put.of_item;
  leaves = λ d said item old. Ok (Some item);
  shows = shown_old;
}

-- a delete leaves nothing
abbrev pub deleting : Writer
deleting = record {
  shape = bodies.delete_item;
  rules = delete.rules;
  sought = Key;
  texts = words.conditional;
  takes = λ d key. [];
  leaves = λ d said key old. Ok None;
  shows = shown_old;
}

-- an update leaves what it makes of what is there
abbrev pub update_writer : Writer
update_writer = record {
  shape = bodies.update_item;
  rules = update.rules;
  sought = Key;
  texts = words.updating;
  takes = λ d key. [];
  leaves = left_or_refusal;
  shows = λ ms said old new.
      update.not_empty (update.returned ms (unwrap_or said.update []) old new);
}
