-- All of no conditions hold, and one of none doesn't.
use Rattle.std.proofs.Common.{sym, ap, ◌∙◌, []}
use Rattle.alt_expr.specs.declared.cond.Cond.TheVariants as cond
use Rattle.alt_expr.specs.Holds.{holds}
use Rattle.alt_expr.proofs.HoldsLaws.{holds-Any, holds-All}
use Rattle.alt_condeval.proofs.settling.answer.Goals as goal

pub returns-then-truth : goal.returns-then-truth
returns-then-truth c item =
    ap (λ cs. holds item (cond.All cs)) c.new.ensures.empty ∙ holds-All item [] ∙ sym c.if-truth.true

pub returns-else-truth : goal.returns-else-truth
returns-else-truth c item =
    ap (λ cs. holds item (cond.Any cs)) c.new-else-truth.ensures.empty ∙ holds-Any item [] ∙ sym c.if-truth.false
