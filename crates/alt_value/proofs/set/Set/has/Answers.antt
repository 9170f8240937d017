-- The search tells whether the member is there.
use Rattle.std.proofs.Common.{◌∙◌}
use Rattle.alt_value.proofs.Places.{searched}
use Rattle.alt_value.proofs.set.Set.has.Goals as goal

pub returns : goal.returns
returns g c = record {
  has = c.is_ok.ensures.value ∙ searched g.K.Ord.cmp g.met.K.Ord.total _ _ _ _ _
      c.deref.ensures.value c.self.view_is c.self.invariant.1
      c.binary_search.ensures.bound c.binary_search.ensures.position;
}
