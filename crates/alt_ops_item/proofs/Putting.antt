-- What a put and a delete leave may be stored.
use Rattle.std.proofs.Common.{◌≡◌, subst, Option, Some, None, List, Result, Ok, IfSome}
use Rattle.std.specs.Prelude.{codes}
use Rattle.alt_machine.specs.Valid.{IsStored}
use Rattle.alt_machine.proofs.Puts.{is_read, may_stand}
use Rattle.alt_ops_item.specs.private.Writes.{putting, deleting}
use Rattle.alt_request.specs.ItemWrites.{LeavesStored}
use Rattle.alt_shape.specs.Refusals.{Answer}
use Rattle.alt_value.specs.Tree.{Pair}

-- what is left, where nothing refuses it
abbrev left_ok : Option (List Pair) → Result (Option (List Pair)) Answer
left_ok x = Ok x

-- it is what was to be left
same_left : (x y : Option (List Pair)) → left_ok x ≡ left_ok y → x ≡ y
same_left x y e = cc

-- the item that is put
pub put_stored : LeavesStored putting
put_stored s ms said item t place placed free valid there new e =
    subst (λ o. IfSome o (IsStored t.description place)) (same_left (Some item) new e)
    (may_stand t.description place item (is_read (codes "Item") ms item placed.read) placed.at
    placed.fits free)

-- nothing
pub delete_stored : LeavesStored deleting
delete_stored s ms said key t place placed free valid there new e =
    subst (λ o. IfSome o (IsStored t.description place)) (same_left None new e) tt
