-- It stands where the place is.
use Rattle.std.proofs.Common.{refl}
use Rattle.std.specs.FinMap.{entries}
use Rattle.alt_rowfile.proofs.WalkCalls.{walk_keeps, walk_fails, well_failed}
use Rattle.alt_rowfile.proofs.walk.RowFileWalkRowSource.seek.Goals as goal

pub returns-in-Ok-clause-sought : goal.returns-in-Ok-clause-sought
returns-in-Ok-clause-sought g c = λ told rows h. c.in-Ok.ensures.left told (entries rows) h

pub returns-in-Ok-clause-keeps : goal.returns-in-Ok-clause-keeps
returns-in-Ok-clause-keeps g c =
    walk_keeps (g.D.Disk.state c.args.disk.now)
    (g.D.Disk.state c.start.new.disk)
    c.args.self.now _ refl c.in-Ok.ensures.goes c.in-Ok.ensures.quiet

pub returns-in-Ok-clause-well : goal.returns-in-Ok-clause-well
returns-in-Ok-clause-well g c = λ t. c.in-Ok.ensures.well (λ e. cc e)

pub returns-in-Err-clause-keeps : goal.returns-in-Err-clause-keeps
returns-in-Err-clause-keeps g c =
    walk_keeps (g.D.Disk.state c.args.disk.now)
    (g.D.Disk.state c.start.new.disk)
    c.args.self.now c.args.self.now refl c.in-Err.ensures.goes c.in-Err.ensures.quiet

pub returns-in-Err-clause-well : goal.returns-in-Err-clause-well
returns-in-Err-clause-well g c = well_failed c.in-Err.stop c.in-Err.ensures.well

pub returns-in-Err-clause-fails : goal.returns-in-Err-clause-fails
returns-in-Err-clause-fails g c =
    walk_fails (g.D.Disk.state c.args.disk.now)
    (g.D.Disk.state c.start.new.disk)
    c.args.self.now c.in-Err.stop c.in-Err.ensures.cause c.in-Err.ensures.undamaged
    c.in-Err.ensures.damage

pub returns-in-Ok-clause-given : goal.returns-in-Ok-clause-given
returns-in-Ok-clause-given g c = (refl, refl, c.in-Ok.ensures.given)
