-- A request whose body is one is carried out on what its operation heeds of it; where memory was wanting for that, no call of the disk was made.
use Rattle.std.proofs.Common.{Option, Some, None}
use Rattle.serde_json.specs.Data.{Members}
use Rattle.serde_json.specs.View.{members_view}
use Rattle.alt_machine.specs.Members.{body_of}
use Rattle.alt_machine.specs.Step.{with_body}
use Rattle.alt_members.specs.Heeded.{Suffices}
use Rattle.alt_request.specs.TablesStands.{Stands}
use Rattle.alt_request.proofs.Moving.{moves_nothing}
use Rattle.alt_request.proofs.TablesLeft.{reads_nothing}
use Rattle.alt_dispatch.proofs.Heeding.{carries_on, moves_on, unread}
use Rattle.alt_dispatch.proofs.answers.respond_to.Goals as goal

pub returns-in-Ok-Some-clause-carried : goal.returns-in-Ok-Some-clause-carried
returns-in-Ok-Some-clause-carried g c =
    let found : Option Members = Some (members_view c.in-Ok-Some.members.entries) in
    let enough : Suffices c.args.operation (body_of c.args.body.now) found =
    rw (c.in-Ok-Some.field-0-is) at c.in-Ok-Some.ensures.suffices in
    carries_on c.args.operation c.args.moment (body_of c.args.body.now) found enough
    (Stands (g.D.Disk.state c.args.disk.now) c.args.tables.now)
    (Stands (g.D.Disk.state c.carry_out.new.disk) c.carry_out.new.tables)
    c.carry_out.result c.carry_out.ensures.carried

pub returns-in-Ok-Some-clause-moves : goal.returns-in-Ok-Some-clause-moves
returns-in-Ok-Some-clause-moves g c =
    let found : Option Members = Some (members_view c.in-Ok-Some.members.entries) in
    let enough : Suffices c.args.operation (body_of c.args.body.now) found =
    rw (c.in-Ok-Some.field-0-is) at c.in-Ok-Some.ensures.suffices in
    moves_on c.args.operation c.args.moment (body_of c.args.body.now) found enough
    (Stands (g.D.Disk.state c.args.disk.now) c.args.tables.now)
    (g.D.Disk.state c.args.disk.now) (g.D.Disk.state c.carry_out.new.disk)
    c.carry_out.result c.carry_out.ensures.moves

pub returns-in-Ok-None-clause-carried : goal.returns-in-Ok-None-clause-carried
returns-in-Ok-None-clause-carried g c =
    let enough : Suffices c.args.operation (body_of c.args.body.now) None =
    rw (c.in-Ok-None.field-0-is) at c.in-Ok-None.ensures.suffices in
    unread c.args.operation c.args.moment (body_of c.args.body.now) enough
    (Stands (g.D.Disk.state c.args.disk.now) c.args.tables.now)

pub returns-in-Ok-None-clause-moves : goal.returns-in-Ok-None-clause-moves
returns-in-Ok-None-clause-moves g c =
    moves_nothing (λ s. with_body s c.args.operation c.args.moment (body_of c.args.body.now))
    c.args.tables.now (g.D.Disk.state c.args.disk.now) _ tt

pub returns-in-Ok-None-clause-reads : goal.returns-in-Ok-None-clause-reads
returns-in-Ok-None-clause-reads g c reads = reads_nothing (g.D.Disk.state c.args.disk.now)

pub returns-in-Err-clause-moves : goal.returns-in-Err-clause-moves
returns-in-Err-clause-moves g c =
    moves_nothing (λ s. with_body s c.args.operation c.args.moment (body_of c.args.body.now))
    c.args.tables.now (g.D.Disk.state c.args.disk.now) _ tt

pub returns-in-Err-clause-reads : goal.returns-in-Err-clause-reads
returns-in-Err-clause-reads g c reads = reads_nothing (g.D.Disk.state c.args.disk.now)
