-- A put whose item was read ahead is the one that its body asks for; where memory was wanting for that, no call of the disk was made.
use Rattle.std.proofs.Common.{◌≡◌, Option, Some, sym, subst}
use Rattle.serde_json.specs.Data.{Members, object}
use Rattle.alt_machine.specs.Members.{body_of}
use Rattle.alt_machine.specs.declared.Operation.TheVariants.{PutItem}
use Rattle.alt_machine.specs.Step.{with_body}
use Rattle.alt_request.specs.Carried.{Carries, Moves}
use Rattle.alt_request.proofs.Moving.{moves_nothing}
use Rattle.alt_request.specs.TablesStands.{Stands, bounds_of}
use Rattle.alt_dispatch.proofs.Reading.{body_of_read}
use Rattle.alt_dispatch.proofs.answers.respond_to_put.Goals as goal

pub returns-in-Ok-Some-clause-carried : goal.returns-in-Ok-Some-clause-carried
returns-in-Ok-Some-clause-carried g c =
    let (ms, says, ahead) =
    rw (c.heeded.ensures.names, c.in-Ok-Some.field-0-is) at c.in-Ok-Some.ensures.body in
    let is : body_of c.args.body.now ≡ Some ms =
    body_of_read c.args.body.now (object ms) says.0 says.1 in
    subst (λ (b : Option Members). Carries (bounds_of c.args.tables.now).file (λ s. with_body s PutItem c.args.moment b)
    (Stands (g.D.Disk.state c.args.disk.now) c.args.tables.now)
    (Stands (g.D.Disk.state c.put_item_ahead.new.disk) c.put_item_ahead.new.tables)
    c.put_item_ahead.result) (sym is) (c.put_item_ahead.ensures.carried ms ahead)

pub returns-in-Ok-Some-clause-moves : goal.returns-in-Ok-Some-clause-moves
returns-in-Ok-Some-clause-moves g c =
    let (ms, says, ahead) =
    rw (c.heeded.ensures.names, c.in-Ok-Some.field-0-is) at c.in-Ok-Some.ensures.body in
    let is : body_of c.args.body.now ≡ Some ms =
    body_of_read c.args.body.now (object ms) says.0 says.1 in
    subst (λ (b : Option Members). Moves (λ s. with_body s PutItem c.args.moment b)
    (Stands (g.D.Disk.state c.args.disk.now) c.args.tables.now)
    (g.D.Disk.state c.args.disk.now) (g.D.Disk.state c.put_item_ahead.new.disk)
    c.put_item_ahead.result) (sym is) (c.put_item_ahead.ensures.moves ms ahead)

pub returns-in-Err-clause-moves : goal.returns-in-Err-clause-moves
returns-in-Err-clause-moves g c =
    moves_nothing (λ s. with_body s PutItem c.args.moment (body_of c.args.body.now))
    c.args.tables.now (g.D.Disk.state c.args.disk.now) _ tt
