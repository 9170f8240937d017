-- A number is a time.
use Rattle.std.proofs.Common.{sym, subst}
use Rattle.alt_machine.specs.Expiry.{is_over}
use Rattle.alt_rowchanges.specs.Moments.{IsMetFrom}
use Rattle.alt_rowchanges.proofs.MomentLaws.{over_from}
use Rattle.alt_value.specs.Stands.{tree_of}
use Rattle.alt_rowchanges.proofs.moments.is_over_from.Goals as goal

pub returns-in-N : goal.returns-in-N
returns-in-N c = subst (λ v. IsMetFrom (λ moment. is_over moment (tree_of v)) c.passed_from.result)
    (sym c.in-N.is) (over_from c.in-N.time c.passed_from.result c.passed_from.ensures)
