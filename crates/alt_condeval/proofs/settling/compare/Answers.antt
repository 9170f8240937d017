use Rattle.std.proofs.Common.{◌∙◌}
use Rattle.alt_expr.specs.Holds.{denoted, compares}
use Rattle.alt_expr.proofs.HoldsLaws.{holds-Compare}
use Rattle.alt_condeval.proofs.settling.compare.Goals as goal

pub returns-in_ok-b-in_default : goal.returns-in_ok-b-in_default
returns-in_ok-b-in_default c item =
    holds-Compare item c.args.by c.in_ok-a-in_default.a c.in_ok-b-in_default.b
    ∙ (λ i. compares c.args.by (denoted item (c.in_ok-a-in_default.ensures i))
    (denoted item (c.in_ok-b-in_default.ensures i)))
