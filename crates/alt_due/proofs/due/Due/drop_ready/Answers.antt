-- Only the place that is dropped isn't listed any more.
use Rattle.std.proofs.Common.{sym, ◌∙◌}
use Rattle.std.proofs.Math.Logic.{⊎_map}
use Rattle.alt_due.proofs.Orders.{spots_apart}
use Rattle.alt_due.proofs.due.Due.drop_ready.Goals as goal

pub returns-clause-keeps : goal.returns-clause-keeps
returns-clause-keeps c moment spot other known covered =
    ⊎_map (λ r. c.remove.ensures.updates.2 spot
    (spots_apart c.args.spot.now spot (λ e. other (sym e))) ∙ r) (λ w. w) (known covered)
