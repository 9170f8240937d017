-- One change more.
use Rattle.alt_recovery.proofs.JoinLaws.{joined_more, joined_start}
use Rattle.alt_recovery.proofs.replay.join_later.Goals as goal

pub loop-change-init : goal.loop-change-init
loop-change-init c = joined_start c.args.flushed.now c.args.families.now c.args.number

pub loop-change-preserved : goal.loop-change-preserved
loop-change-preserved c =
    joined_more c.args.flushed.now c.args.families.now c.loop-change.families
    c.join_one.new.families c.args.number c.loop-change.change-index c.args.changes.now
    c.change-item.result c.loop-change-test.true c.change-item.is c.loop-change.invariant
    c.in_ok-join_one.ensures
