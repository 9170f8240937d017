-- The engine stays.
use Rattle.std.proofs.Common.{refl}
use Rattle.alt_engine.proofs.EngineLaws.{stays_quiet}
use Rattle.alt_engine.proofs.engine.Engine.rows.Goals as goal

pub returns-clause-same : goal.returns-clause-same
returns-clause-same g c told = record {
  next = refl;
  reads = λ l reads. (c.rows.ensures.same told).reads l reads;
  stands = λ l stands. stays_quiet (g.D.Disk.state c.args.disk.now) (g.D.Disk.state c.rows.new.disk)
      c.args.self.now l stands (c.rows.ensures.quiet told);
}
