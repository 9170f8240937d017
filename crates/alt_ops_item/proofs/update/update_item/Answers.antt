-- An update is a write of an item, of which all of the body is at hand.
use Rattle.std.proofs.Common.{◌≡◌, ℕ, subst}
use Rattle.serde_json.specs.Data.{Members}
use Rattle.serde_json.specs.View.{members_view}
use Rattle.alt_machine.specs.Outcomes.{Outcome}
use Rattle.alt_machine.specs.Ops.UpdateItem.{update_item}
use Rattle.alt_machine.specs.State.{State}
use Rattle.alt_ops_item.specs.private.Writes.{update_writer}
use Rattle.alt_ops_item.proofs.Updating.{update_is, update_stored}
use Rattle.alt_request.specs.Carried.{Carries, Moves}
use Rattle.alt_request.specs.ItemWrites.{writes_item}
use Rattle.alt_request.proofs.Asking.{all_asked}
use Rattle.alt_request.specs.TablesStands.{Stands, bounds_of}
use Rattle.alt_ops_item.proofs.update.update_item.Goals as goal

-- what the write comes to in each state
same : (moment : ℕ) (ms : Members)
    → ◌≡◌ {A = State → Outcome} (λ s. writes_item update_writer s moment ms)
    (λ s. update_item s moment ms)
same moment ms = λ i s. update_is s moment ms i

pub write_item-requires-clause-asked : goal.write_item-requires-clause-asked
write_item-requires-clause-asked g c = (
  members_view c.args.body.now.entries,
  all_asked update_writer (members_view c.args.body.now.entries),
)

pub write_item-requires-clause-stored : goal.write_item-requires-clause-stored
write_item-requires-clause-stored g c = update_stored

pub returns-clause-carried : goal.returns-clause-carried
returns-clause-carried g c =
    let ms : Members = members_view c.args.body.now.entries in
    subst (λ (o : State → Outcome). Carries (bounds_of c.args.tables.now).file o
    (Stands (g.D.Disk.state c.args.disk.now) c.args.tables.now)
    (Stands (g.D.Disk.state c.write_item.new.disk) c.write_item.new.tables) c.write_item.result)
    (same c.args.moment ms) (c.write_item.ensures.carried ms (all_asked update_writer ms))

pub returns-clause-moves : goal.returns-clause-moves
returns-clause-moves g c =
    let ms : Members = members_view c.args.body.now.entries in
    subst (λ (o : State → Outcome). Moves o
    (Stands (g.D.Disk.state c.args.disk.now) c.args.tables.now) (g.D.Disk.state c.args.disk.now)
    (g.D.Disk.state c.write_item.new.disk) c.write_item.result) (same c.args.moment ms)
    (c.write_item.ensures.moves ms (all_asked update_writer ms))
