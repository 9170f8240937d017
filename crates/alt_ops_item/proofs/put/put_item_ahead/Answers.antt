-- Of the body all is at hand but its item, which was read ahead.
use Rattle.serde_json.specs.View.{members_view}
use Rattle.alt_machine.specs.Ops.PutItem.{put_item}
use Rattle.alt_ops_item.proofs.BesideItem.{asked_ahead}
use Rattle.alt_ops_item.proofs.Putting.{put_stored}
use Rattle.alt_ops_item.proofs.put.put_item_ahead.Goals as goal

pub write_item-requires-clause-asked : goal.write_item-requires-clause-asked
write_item-requires-clause-asked g c =
    let (ms, ahead) = c.requires.read in
    (ms, asked_ahead ms (members_view c.args.body.now.entries) c.args.item ahead)

pub write_item-requires-clause-stored : goal.write_item-requires-clause-stored
write_item-requires-clause-stored g c = put_stored

pub returns-clause-carried : goal.returns-clause-carried
unfolding put_item
returns-clause-carried g c ms ahead = c.write_item.ensures.carried ms
    (asked_ahead ms (members_view c.args.body.now.entries) c.args.item ahead)

pub returns-clause-moves : goal.returns-clause-moves
unfolding put_item
returns-clause-moves g c ms ahead = c.write_item.ensures.moves ms
    (asked_ahead ms (members_view c.args.body.now.entries) c.args.item ahead)
