use Rattle.std.proofs.Common.{sym}
use Rattle.alt_updeval.proofs.within.pair.Goals as goal
use Rattle.alt_value.proofs.NamedPairs.{name_some}

pub returns-clause-named : goal.returns-clause-named
returns-clause-named c =
    name_some c.args.map.now c.args.i _ _ c.len-held.ensures.item (sym c.in-Some.ensures.pair)
