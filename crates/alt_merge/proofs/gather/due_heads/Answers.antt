use Rattle.std.proofs.Common.{sym, subst, arith}
use Rattle.alt_merge.specs.Merges.{AllDue}
use Rattle.alt_merge.proofs.Merging.{due_push}
use Rattle.alt_merge.proofs.gather.due_heads.Goals as goal

pub loop-preserved : goal.loop-preserved
loop-preserved c = (
  omega (arith, c.in_ok-push.ensures.len, c.loop.invariant.0),
  subst AllDue (sym c.in_ok-push.ensures.items) (due_push c.loop.heads.items c.loop.invariant.1),
)
