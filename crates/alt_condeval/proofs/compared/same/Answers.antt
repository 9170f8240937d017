use Rattle.alt_expr.proofs.SameValues.{same-told}
use Rattle.alt_condeval.proofs.compared.same.Goals as goal

pub returns : goal.returns
returns c = same-told _ _ _ c.equal.ensures.same
