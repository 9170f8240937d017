use Rattle.std.proofs.Common.{arith}
use Rattle.alt_projection.proofs.Kept.{some_map-is}
use Rattle.alt_projection.proofs.choosing.some_map.Goals as goal

pub returns-else-len-eq0 : goal.returns-else-len-eq0
returns-else-len-eq0 c =
    some_map-is c.args.map (λ e. omega (arith, c.len.ensures.count, c.if-len-eq0.false))
