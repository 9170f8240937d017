-- The laws of engines.
use Rattle.std.proofs.Common.{refl}
use Rattle.alt_engine.proofs.HistoryLaws.{shows_since}
use Rattle.alt_engine.proofs.laws.engine_laws.Goals as goal

pub returns : goal.returns
returns c = record {
  batches = λ cs l m family past none lead named key.
      shows_since cs l l m family past past refl (λ k. refl) none lead named key;
}
