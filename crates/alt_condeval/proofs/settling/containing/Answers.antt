use Rattle.std.proofs.Common.{◌∙◌}
use Rattle.alt_expr.specs.Holds.{denoted, contains}
use Rattle.alt_expr.proofs.HoldsLaws.{holds-Contains}
use Rattle.alt_condeval.proofs.settling.containing.Goals as goal

pub returns-in_ok-b-in_default : goal.returns-in_ok-b-in_default
returns-in_ok-b-in_default c item =
    holds-Contains item c.in_ok-a-in_default.a c.in_ok-b-in_default.b
    ∙ (λ i. contains (denoted item (c.in_ok-a-in_default.ensures i))
    (denoted item (c.in_ok-b-in_default.ensures i)))
