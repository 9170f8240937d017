-- No merge is under way.
use Rattle.alt_engine.proofs.engine.Engine.recover.Goals as goal

pub returns-in-Ok-clause-stands : goal.returns-in-Ok-clause-stands
returns-in-Ok-clause-stands g c trusted l reads = record {
  hand = c.in-Ok.ensures.stands trusted l reads;
  merging = tt;
  few = c.any_many-many.ensures;
}
