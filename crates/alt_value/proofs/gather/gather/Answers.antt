-- Sorted, the members are a set exactly where each is below the next.
use Rattle.alt_value.proofs.Gathered.{set_of-looked}
use Rattle.alt_value.proofs.gather.gather.Goals as goal

pub returns : goal.returns
returns g c = set_of-looked g.K.Ord.cmp g.met.K.Ord.total c.requires _ _ _ _
    c.as_slice.ensures.value c.sort_unstable.ensures.permutation c.sort_unstable.ensures.sorted
    c.rise.ensures
