-- All of the body is at hand.
use Rattle.serde_json.specs.View.{members_view}
use Rattle.alt_machine.specs.Ops.DeleteItem.{delete_item}
use Rattle.alt_ops_item.specs.private.Writes.{deleting}
use Rattle.alt_ops_item.proofs.Putting.{delete_stored}
use Rattle.alt_request.proofs.Asking.{all_asked}
use Rattle.alt_ops_item.proofs.delete.delete_item.Goals as goal

pub write_item-requires-clause-asked : goal.write_item-requires-clause-asked
write_item-requires-clause-asked g c = (
  members_view c.args.body.now.entries,
  all_asked deleting (members_view c.args.body.now.entries),
)

pub write_item-requires-clause-stored : goal.write_item-requires-clause-stored
write_item-requires-clause-stored g c = delete_stored

pub returns-clause-carried : goal.returns-clause-carried
unfolding delete_item
returns-clause-carried g c = c.write_item.ensures.carried (members_view c.args.body.now.entries)
    (all_asked deleting (members_view c.args.body.now.entries))

pub returns-clause-moves : goal.returns-clause-moves
unfolding delete_item
returns-clause-moves g c = c.write_item.ensures.moves (members_view c.args.body.now.entries)
    (all_asked deleting (members_view c.args.body.now.entries))
