-- What was carried out, once its refusal is told.
use Rattle.alt_machine.specs.Step.{step}
use Rattle.alt_dispatch.proofs.Settling.{settled, settled_valid, told_failed, told_refused, told_wants}
use Rattle.alt_request.specs.TablesStands.{Stands, bounds_of}
use Rattle.alt_dispatch.proofs.answers.answer.Goals as goal

pub returns-clause-settles : goal.returns-clause-settles
returns-clause-settles g c s stands =
    settled (bounds_of c.args.tables.now).file
    (Stands (g.D.Disk.state c.respond-carried.new.disk) c.respond-carried.new.tables) s
    (step s c.args.operation c.args.body.now c.args.moment)
    c.respond-carried.result c.told.result (c.respond-carried.ensures.carried.does s stands)
    c.told.ensures.told

pub returns-clause-valid : goal.returns-clause-valid
returns-clause-valid g c s stands =
    settled_valid (bounds_of c.args.tables.now).file
    (Stands (g.D.Disk.state c.respond-carried.new.disk) c.respond-carried.new.tables)
    s (step s c.args.operation c.args.body.now c.args.moment)
    c.told.result (λ r now. now.valid) (returns-clause-settles g c s stands)

pub returns-clause-leaves : goal.returns-clause-leaves
returns-clause-leaves g c s stands = c.respond-carried.ensures.moves.leaves s stands

pub returns-clause-goes : goal.returns-clause-goes
returns-clause-goes g c = c.respond-carried.ensures.moves.goes

pub returns-clause-cause : goal.returns-clause-cause
returns-clause-cause g c = told_failed _ c.respond-carried.result c.told.result
    c.respond-carried.ensures.moves.failed c.told.ensures.told

pub returns-clause-wanting : goal.returns-clause-wanting
returns-clause-wanting g c none s stands =
    told_wants (g.D.Disk.state c.args.disk.now) (g.D.Disk.state c.respond-carried.new.disk)
    c.args.tables.now s (λ r. step r c.args.operation c.args.body.now c.args.moment) stands
    c.respond-carried.result c.told.result c.respond-carried.ensures.moves c.told.ensures.told none

pub returns-clause-refused : goal.returns-clause-refused
returns-clause-refused g c = told_refused _ c.respond-carried.result c.told.result
    c.respond-carried.ensures.moves.refused c.told.ensures.told

pub returns-clause-reads : goal.returns-clause-reads
returns-clause-reads g c reads = c.respond-carried.ensures.reads reads
