-- An operation that is built is carried out, a put and a batch of writes by their own ways.
use Rattle.std.proofs.Common.{Option, Some, sym, subst, ap, ◌∙◌}
use Rattle.std.proofs.lemmas.Bool.{false≢true}
use Rattle.alt_machine.specs.declared.Operation.{Operation}
use Rattle.alt_machine.specs.Step.{step}
use Rattle.alt_request.specs.Carried.{Carries, Moves}
use Rattle.alt_request.specs.TablesStands.{Stands, bounds_of}
use Rattle.alt_dispatch.specs.Reading.{OperationOnlyReads}
use Rattle.alt_request.proofs.TablesLeft.{reads_nothing}
use Rattle.alt_dispatch.proofs.answers.respond.Goals as goal

pub returns-in-PutItem-clause-carried : goal.returns-in-PutItem-clause-carried
returns-in-PutItem-clause-carried g c =
    subst (λ (o : Option Operation). Carries (bounds_of c.args.tables.now).file (λ s. step s o c.args.body.now c.args.moment)
    (Stands (g.D.Disk.state c.args.disk.now) c.args.tables.now)
    (Stands (g.D.Disk.state c.respond_to_put.new.disk) c.respond_to_put.new.tables)
    c.respond_to_put.result)
    (sym (c.in-Some.is ∙ ap Some c.in-PutItem.is)) c.respond_to_put.ensures.carried

pub returns-in-PutItem-clause-moves : goal.returns-in-PutItem-clause-moves
returns-in-PutItem-clause-moves g c =
    subst (λ (o : Option Operation). Moves (λ s. step s o c.args.body.now c.args.moment)
    (Stands (g.D.Disk.state c.args.disk.now) c.args.tables.now)
    (g.D.Disk.state c.args.disk.now) (g.D.Disk.state c.respond_to_put.new.disk)
    c.respond_to_put.result)
    (sym (c.in-Some.is ∙ ap Some c.in-PutItem.is)) c.respond_to_put.ensures.moves

pub returns-in_default-operation-clause-carried : goal.returns-in_default-operation-clause-carried
returns-in_default-operation-clause-carried g c =
    subst (λ (o : Option Operation). Carries (bounds_of c.args.tables.now).file (λ s. step s o c.args.body.now c.args.moment)
    (Stands (g.D.Disk.state c.args.disk.now) c.args.tables.now)
    (Stands (g.D.Disk.state c.respond_to.new.disk) c.respond_to.new.tables)
    c.respond_to.result) (sym c.in-Some.is) c.respond_to.ensures.carried

pub returns-in_default-operation-clause-moves : goal.returns-in_default-operation-clause-moves
returns-in_default-operation-clause-moves g c =
    subst (λ (o : Option Operation). Moves (λ s. step s o c.args.body.now c.args.moment)
    (Stands (g.D.Disk.state c.args.disk.now) c.args.tables.now)
    (g.D.Disk.state c.args.disk.now) (g.D.Disk.state c.respond_to.new.disk)
    c.respond_to.result) (sym c.in-Some.is) c.respond_to.ensures.moves

pub returns-in_default-clause-reads : goal.returns-in_default-clause-reads
returns-in_default-clause-reads g c reads = reads_nothing (g.D.Disk.state c.args.disk.now)

pub returns-in-PutItem-clause-reads : goal.returns-in-PutItem-clause-reads
returns-in-PutItem-clause-reads g c reads = absurd (false≢true
    (subst OperationOnlyReads (c.in-Some.is ∙ ap Some c.in-PutItem.is) reads))

pub returns-in_default-operation-clause-reads : goal.returns-in_default-operation-clause-reads
returns-in_default-operation-clause-reads g c reads =
    c.respond_to.ensures.reads (subst OperationOnlyReads c.in-Some.is reads)

pub returns-in-BatchWriteItem-clause-carried : goal.returns-in-BatchWriteItem-clause-carried
returns-in-BatchWriteItem-clause-carried g c =
    subst (λ (o : Option Operation). Carries (bounds_of c.args.tables.now).file (λ s. step s o c.args.body.now c.args.moment)
    (Stands (g.D.Disk.state c.args.disk.now) c.args.tables.now)
    (Stands (g.D.Disk.state c.respond_to_writes.new.disk) c.respond_to_writes.new.tables)
    c.respond_to_writes.result)
    (sym (c.in-Some.is ∙ ap Some c.in-BatchWriteItem.is)) c.respond_to_writes.ensures.carried

pub returns-in-BatchWriteItem-clause-moves : goal.returns-in-BatchWriteItem-clause-moves
returns-in-BatchWriteItem-clause-moves g c =
    subst (λ (o : Option Operation). Moves (λ s. step s o c.args.body.now c.args.moment)
    (Stands (g.D.Disk.state c.args.disk.now) c.args.tables.now)
    (g.D.Disk.state c.args.disk.now) (g.D.Disk.state c.respond_to_writes.new.disk)
    c.respond_to_writes.result)
    (sym (c.in-Some.is ∙ ap Some c.in-BatchWriteItem.is)) c.respond_to_writes.ensures.moves

pub returns-in-BatchWriteItem-clause-reads : goal.returns-in-BatchWriteItem-clause-reads
returns-in-BatchWriteItem-clause-reads g c reads = absurd (false≢true
    (subst OperationOnlyReads (c.in-Some.is ∙ ap Some c.in-BatchWriteItem.is) reads))
