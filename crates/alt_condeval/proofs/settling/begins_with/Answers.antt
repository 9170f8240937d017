use Rattle.std.proofs.Common.{◌∙◌}
use Rattle.alt_expr.specs.Holds.{denoted, begins}
use Rattle.alt_expr.proofs.HoldsLaws.{holds-BeginsWith}
use Rattle.alt_condeval.proofs.settling.begins_with.Goals as goal

pub returns-in_ok-front-in_default : goal.returns-in_ok-front-in_default
returns-in_ok-front-in_default c item =
    holds-BeginsWith item c.in_ok-a-in_default.a c.in_ok-front-in_default.front
    ∙ (λ i. begins (denoted item (c.in_ok-a-in_default.ensures i))
    (denoted item (c.in_ok-front-in_default.ensures i)))
