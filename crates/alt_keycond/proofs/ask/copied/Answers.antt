-- A copy has the tree of the value, and so is that value.
use Rattle.alt_expr.proofs.Copied.{same_copy}
use Rattle.alt_keycond.proofs.ask.copied.Goals as goal

pub returns-in-Ok : goal.returns-in-Ok
returns-in-Ok c = same_copy c.in-Ok.copied c.args.value.now c.in-Ok.ensures.same
