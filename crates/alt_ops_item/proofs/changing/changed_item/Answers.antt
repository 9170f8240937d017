-- The changes are made of the item, or the update is refused by its fault.
use Rattle.std.proofs.Common.{List, Err, sym, subst}
use Rattle.alt_machine.specs.Ops.UpdateItem.{item_after}
use Rattle.alt_ops_item.specs.private.Updates.{with_changes}
use Rattle.alt_ops_item.proofs.Evaluated.{after-changes, after-fault, comes_made}
use Rattle.alt_request.specs.Steps.{Comes}
use Rattle.alt_request.specs.declared.stop.Stop.{Stop}
use Rattle.alt_value.specs.Tree.{Pair}
use Rattle.alt_ops_item.proofs.changing.changed_item.Goals as goal

pub returns-in-Ok-changed : goal.returns-in-Ok-changed
returns-in-Ok-changed c = record {
  item = comes_made (item_after c.args.update.now c.args.old.now)
      (with_changes c.in-Ok-changed.changes.items c.in-Ok.item)
      (after-changes c.args.old.now c.args.update.now c.in-Ok.item c.in-Ok.ensures.same
      c.in-Ok-changed.changes.items c.in-Ok.ensures.item c.in-Ok-changed.ensures.changed)
      c.with_changes.result c.with_changes.ensures.item c.with_changes.ensures.cause;
}

pub returns-in-Err : goal.returns-in-Err
returns-in-Err c = record {
  item = subst (λ (stop : Stop). Comes {X = List Pair} (λ i. i)
      (item_after c.args.update.now c.args.old.now) (Err stop)) (sym c.stop_of.ensures)
      (after-fault c.args.old.now c.args.update.now c.in-Ok.item c.in-Ok.ensures.same
      c.in-Err.fault c.in-Err.ensures.changed);
}
