-- What holds of the changes of a state: they can be read back from their rows.
use Rattle.std.proofs.Common.{◌≡◌, ◌<◌, ◌≤◌, ◌+◌, ◌^◌, ℕ, List, Option, Some, None, All, IfSome, arith}
use Rattle.std.specs.FinMap as finite
use Rattle.alt_tablerows.specs.ChangeRows.{IsReadItem}
use Rattle.alt_machine.specs.State.{Change, State, Table}
use Rattle.alt_machine.specs.Valid.{AreChanges, IsChange, IsValid, IsStored}
use Rattle.alt_machine.specs.declared.TheConstants.{NUMBERS_END}
use Rattle.alt_schema.specs.declared.schema.TableSchema.{TableSchema}
use Rattle.alt_opening.specs.StateRows.{IsHeldWhole}
use Rattle.alt_value.specs.Tree.{Pair}
use Rattle.alt_value.specs.Values.{IsItemOfValues}
use Rattle.alt_opening.proofs.StreamKeys.{IsKept, IsSmall}

-- what holds of each holds of each in other words
pub each_so : (P Q : Change → Type 0) (cs : List Change) → ((c : Change) → P c → Q c) → All P cs
    → All Q cs
each_so P Q cs f all k x within = f _ (all k x within)

-- their numbers fit
pub are_small : (d : TableSchema) (next trimmed : ℕ) (cs : List Change) → next ≤ NUMBERS_END + 1
    → AreChanges d next trimmed cs → All IsSmall cs
are_small d next trimmed cs high changes = each_so (IsChange d next) IsSmall cs
    (λ c is. let low = is.number in omega (arith, low, high)) changes.each

-- an item that was stored, and is made of values, can be read back
read_item : (d : TableSchema) (place : List ℕ) (o : Option (List Pair))
    → IfSome o (IsStored d place) → IfSome o IsItemOfValues → IfSome o IsReadItem
read_item d place None was held = tt
read_item d place (Some item) was held = record { whole = (held, was.full); depth = was.depth }

-- and they can be read back from their rows
pub are_kept : (s : State) → IsValid s → IsHeldWhole s → (name : List ℕ) (t : Table)
    → finite.get s.tables name ≡ Some t → All IsKept t.changes
are_kept s valid held name t at k x within =
    let is = (valid.tables name t at).changes.each k x within in
    let low = is.number in
    let high = valid.next_number.1 in
    let whole = held.items.changes name t at k x within in
    let above = (valid.tables name t at).changes.above k x within in (
      omega (arith, low, high),
      record {
        moment = held.moments name t at k x within;
        old = read_item t.description is.place _ is.old whole.0;
        new = read_item t.description is.place _ is.new whole.1;
      },
      omega (arith, above),
    )

-- so can what was trimmed of them
pub trimmed_small : (s : State) → IsValid s → (name : List ℕ) (t : Table)
    → finite.get s.tables name ≡ Some t → t.trimmed < 2 ^ 64
trimmed_small s valid name t at =
    let low = (valid.tables name t at).changes.trimmed_before in
    let high = valid.next_number.1 in
    omega (arith, low, high)
