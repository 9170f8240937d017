-- Writes of an item that are made only where a condition holds of the one that is there (API Reference, "PutItem", "DeleteItem" and
-- "UpdateItem").
use Rattle.std.specs.Prelude.{ℕ, Bool, true, List, Option, Some, None, option_and_then, codes, if◌then◌else◌}
use Rattle.std.specs.Option.{option_map_or}
use Rattle.std.specs.FinMap as map
use Rattle.serde_json.specs.Data.{Members}
use Rattle.alt_codec.specs.Writing.{json_of_pairs}
use Rattle.alt_expr.specs.Holds.{holds}
use Rattle.alt_expr.specs.Located.{View}
use Rattle.alt_expr.specs.declared.cond.Cond.{Cond}
use Rattle.alt_machine.specs.Members.{table_name}
use Rattle.alt_machine.specs.Outcomes.{Outcome, says, writes}
use Rattle.alt_machine.specs.Replies.{member_is_word, item_answer}
use Rattle.alt_machine.specs.State.{State, Table}
use Rattle.alt_machine.specs.Writes.{item_writes}
use Rattle.alt_shape.specs.Refusals.{Answer, refused, refused_showing_item, condition_failed}
use Rattle.alt_value.specs.Item.{at_name}
use Rattle.alt_value.specs.Tree.{Pair}

-- the attributes of an item, by their names; one that isn't there has none
abbrev pub seen : Option (List Pair) → View
seen old = λ name. option_and_then (at_name name) old

-- the condition holds of what is there, or there is no condition
abbrev pub meets_condition : Option Cond → Option (List Pair) → Bool
meets_condition condition old = option_map_or (holds (seen old)) condition true

-- the item that was there, where a member asks for it
abbrev pub asked : List ℕ → Members → Option (List Pair) → Option (List Pair)
asked name ms old = if member_is_word name (codes "ALL_OLD") ms then old else None

-- the refusal, and in it the item, if there is one to show
abbrev pub failed : Option (List Pair) → Answer
failed None = refused condition_failed
failed (Some item) = refused_showing_item (json_of_pairs item) condition_failed

-- It goes on where the condition holds of what is there. Else nothing is written, and the refusal shows what is there where that is
-- asked for.
abbrev pub if_met : Option Cond → Members → Option (List Pair) → Outcome → Outcome
if_met condition ms old go =
    if meets_condition condition old then go
    else says (failed (asked (codes "ReturnValuesOnConditionCheckFailure") ms old))

-- Where the condition holds of what is at the place, `new` is left there, or nothing, and the answer shows what was there where it is
-- asked for.
abbrev pub writes_if : Option Cond → State → ℕ → Members → Table → List ℕ → Option (List Pair)
    → Outcome
writes_if condition s moment ms t place new = if_met condition ms (map.get t.items place)
    (writes (item_writes s moment (table_name ms) t place new)
    (item_answer (codes "Attributes") (asked (codes "ReturnValues") ms (map.get t.items place))))
