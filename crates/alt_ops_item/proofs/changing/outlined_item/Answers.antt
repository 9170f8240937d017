-- A sketch of the changes makes an outline of the item.
use Rattle.std.proofs.Common.{◌≡◌, sym, subst, List}
use Rattle.alt_machine.specs.Ops.UpdateItem.{item_after}
use Rattle.alt_ops_item.specs.private.Outlines.{IsOutline}
use Rattle.alt_ops_item.specs.private.Updates.{with_changes}
use Rattle.alt_ops_item.proofs.Outlined.{outline_is}
use Rattle.alt_value.specs.Tree.{Pair}
use Rattle.alt_ops_item.proofs.changing.outlined_item.Goals as goal

pub returns-in-Ok-with_changes-clause-outline : goal.returns-in-Ok-with_changes-clause-outline
returns-in-Ok-with_changes-clause-outline c =
    let s = c.in-Ok-sketched.field-0 in
    let before = c.in-Ok.item in
    let made : c.in-Ok-with_changes.outline ≡ with_changes s.changes.items before =
    c.in-Ok-with_changes.ensures.item in
    subst (λ (i : List Pair). IsOutline (item_after c.args.update.now c.args.old.now) i s.whole)
    (sym made) (outline_is c.args.old.now c.args.update.now before c.in-Ok.ensures.same
    c.in-Ok.ensures.item s c.in-Ok-sketched.ensures.sketch)
