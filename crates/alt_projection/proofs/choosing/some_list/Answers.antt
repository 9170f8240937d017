use Rattle.std.proofs.Common.{arith}
use Rattle.alt_projection.proofs.Kept.{some_list-is}
use Rattle.alt_projection.proofs.choosing.some_list.Goals as goal

pub returns-else-len-eq0 : goal.returns-else-len-eq0
returns-else-len-eq0 c =
    some_list-is c.args.list (λ e. omega (arith, c.len.ensures.count, c.if-len-eq0.false))
