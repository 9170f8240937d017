use Rattle.std.proofs.Common.{◌∙◌, ap, nat_le, arith}
use Rattle.alt_projection.proofs.Order.{whole_first}
use Rattle.alt_projection.proofs.choosing.is_whole.Goals as goal

pub returns-in-len1-up : goal.returns-in-len1-up
returns-in-len1-up c =
    ap (λ n. nat_le n c.args.depth) c.len.ensures.count
    ∙ whole_first c.args.depth c.args.ways.now c.first-item.result
    (omega (arith, c.in-len1-up.len_at_least)) c.first-item.is c.requires
