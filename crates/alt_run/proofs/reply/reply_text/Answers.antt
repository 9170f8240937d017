use Rattle.std.proofs.Common.{Option, subst}
use Rattle.alt_machine.specs.Step.{step}
use Rattle.alt_machine.specs.declared.Operation.{Operation}
use Rattle.alt_tables.specs.Images.{Leaves}
use Rattle.alt_machine.specs.Wanted.{wanted}
use Rattle.alt_tables.specs.Stands.{Stands, bounds_of}
use Rattle.alt_talks.specs.Faults.{IsAnswerFault}
use Rattle.alt_talks.proofs.Answering.{caused, uncut_leaves}
use Rattle.alt_run.proofs.reply.reply_text.Goals as goal

pub returns-in-Ok-line_of-clause-leaves : goal.returns-in-Ok-line_of-clause-leaves
returns-in-Ok-line_of-clause-leaves g c = λ s stands.
    let a = g.D.Disk.state c.args.disk.now in
    let b = g.D.Disk.state c.answer.new.disk in
    uncut_leaves a b c.args.tables.now s _ c.args.body.now c.args.moment stands
    (subst (λ (o : Option Operation). Leaves a b s (step s o c.args.body.now c.args.moment).atoms)
    c.operation_named.ensures.named (c.answer.ensures.leaves s stands))

pub returns-in-Ok-clause-leaves : goal.returns-in-Ok-clause-leaves
returns-in-Ok-clause-leaves g c = λ s stands.
    let a = g.D.Disk.state c.args.disk.now in
    let b = g.D.Disk.state c.answer.new.disk in
    uncut_leaves a b c.args.tables.now s _ c.args.body.now c.args.moment stands
    (subst (λ (o : Option Operation). Leaves a b s (step s o c.args.body.now c.args.moment).atoms)
    c.operation_named.ensures.named (c.answer.ensures.leaves s stands))

pub returns-clause-leaves : goal.returns-clause-leaves
returns-clause-leaves g c = λ s stands.
    let a = g.D.Disk.state c.args.disk.now in
    let b = g.D.Disk.state c.answer.new.disk in
    uncut_leaves a b c.args.tables.now s _ c.args.body.now c.args.moment stands
    (subst (λ (o : Option Operation). Leaves a b s (step s o c.args.body.now c.args.moment).atoms)
    c.operation_named.ensures.named (c.answer.ensures.leaves s stands))

pub returns-clause-cause : goal.returns-clause-cause
returns-clause-cause g c = λ s stands.
    let fault = c.from.result in
    let body = c.args.body.now in
    let moment = c.args.moment in
    subst (λ (o : Option Operation). IsAnswerFault (bounds_of c.args.tables.now).file
    (wanted s (step s o body moment)) (step s o body moment).atoms fault)
    c.operation_named.ensures.named
    (caused (bounds_of c.args.tables.now).file (Stands (g.D.Disk.state c.answer.new.disk) c.answer.new.tables) s
    (step s c.operation_named.result body moment) c.in-Err.fault fault c.from.ensures
    (c.in-Err.ensures.settles s stands))
