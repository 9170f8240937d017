-- An update is a write of an item.
use Rattle.std.proofs.Common.{◌≡◌, refl, sym, ap, ℕ, List, [], Option, Some, None, Result, Ok, Err}
use Rattle.std.specs.Prelude.{codes, unwrap_or, if◌then◌else◌}
use Rattle.std.specs.FinMap as map
use Rattle.serde_json.specs.Data.{Members}
use Rattle.alt_machine.specs.Conditional.{meets_condition, asked, failed}
use Rattle.alt_machine.specs.declared.Expressions.{Expressions}
use Rattle.alt_machine.specs.declared.Sought.TheVariants.{Key}
use Rattle.alt_machine.specs.Expressions as words
use Rattle.alt_machine.specs.Members.{table_name}
use Rattle.alt_machine.specs.Ops.UpdateItem.{of_body, updates_item, update_item, item_after, left_by_update, of_left, not_empty, returned}
use Rattle.alt_machine.specs.Outcomes.{Outcome, says, writes, answer_or, unless_refused, with_found}
use Rattle.alt_machine.specs.Refusals.{first_answer, unless_answer, ◌>>=◌}
use Rattle.alt_machine.specs.Replies.{item_answer}
use Rattle.alt_machine.specs.State.{State, Table}
use Rattle.alt_machine.specs.Targets.{on_item}
use Rattle.alt_machine.specs.Writes.{item_writes}
use Rattle.alt_ops_item.proofs.Left.{left_stored}
use Rattle.alt_ops_item.specs.private.Writes.{update_writer}
use Rattle.alt_request.specs.ItemWrites.{LeavesStored, changes_item, writes_item}
use Rattle.alt_shape.specs.Refusals.{Answer}
use Rattle.alt_value.specs.Tree.{Pair}

-- the tests of what is made of what was found
found_or : (r : Result (List Pair) Answer) (make : List Pair → Option (List Pair))
    (tests : Option (List Pair) → List (Option Answer)) (go : Option (List Pair) → Outcome)
    → with_found r (λ item. unless_refused (tests (make item)) (go (make item)))
    ≡ with_found (r >>= (λ item. unless_answer (first_answer (tests (make item))) (make item))) go
found_or (Err a) make tests go = refl
found_or (Ok item) make tests go = by (first_answer (tests (make item)))
  where
    by : (o : Option Answer)
        → answer_or o (go (make item))
        ≡ with_found (unless_answer o (make item)) go
    by None = refl
    by (Some a) = refl

-- an update changes the item as a write of its kind does
updates_are : (s : State) (moment : ℕ) (ms : Members) (said : Expressions) (key : List Pair)
    (t : Table) (place : List ℕ)
    → updates_item s moment ms said key t place ≡ changes_item update_writer s moment ms said key t place
updates_are s moment ms said key t place =
    let old : Option (List Pair) = map.get t.items place in
    ap (λ (o : Outcome). if meets_condition said.condition old then o
    else says (failed (asked (codes "ReturnValuesOnConditionCheckFailure") ms old)))
    (found_or (item_after (unwrap_or said.update []) old) (left_by_update said key old)
    (of_left t.description) (λ new. writes (item_writes s moment (table_name ms) t place new)
    (item_answer (codes "Attributes")
    (not_empty (returned ms (unwrap_or said.update []) old new)))))

-- and so is the whole of it
pub update_is : (s : State) (moment : ℕ) (ms : Members)
    → writes_item update_writer s moment ms ≡ update_item s moment ms
unfolding update_item
update_is s moment ms = λ i. on_item (of_body ms) Key words.updating s ms
    (λ said key t place. sym (updates_are s moment ms said key t place) i)

-- what it leaves may be stored
pub update_stored : LeavesStored update_writer
update_stored s ms said key t place placed free valid there new e =
    left_stored s ms said key t place placed valid there new e
