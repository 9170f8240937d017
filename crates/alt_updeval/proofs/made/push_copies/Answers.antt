use Rattle.alt_updeval.proofs.Taking.{copied_more}
use Rattle.alt_updeval.proofs.made.push_copies.Goals as goal

pub loop-i-preserved : goal.loop-i-preserved
loop-i-preserved c = copied_more _ _ _ _ _ _ _ c.in_ok-push.ensures.ok c.in_ok-copy.ensures.same
    c.element.ensures c.loop-i.invariant
