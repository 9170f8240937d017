-- What is made of the writes that the body asks for.
use Rattle.serde_json.specs.View.{members_view}
use Rattle.alt_ops_batch.proofs.write.batch_write_item.Goals as goal

pub returns-clause-carried : goal.returns-clause-carried
returns-clause-carried g c = c.write_asked.ensures.carried (members_view c.args.body.now.entries)
    c.writes_asked-asked.ensures.asked

pub returns-clause-moves : goal.returns-clause-moves
returns-clause-moves g c = c.write_asked.ensures.moves (members_view c.args.body.now.entries)
    c.writes_asked-asked.ensures.asked
