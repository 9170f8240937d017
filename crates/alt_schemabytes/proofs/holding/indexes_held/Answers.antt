-- One more, and all.
use Rattle.alt_schemabytes.specs.Held.{IsHeldIndex}
use Rattle.alt_base.proofs.Lists.{all_more, all_whole}
use Rattle.alt_schemabytes.proofs.holding.indexes_held.Goals as goal

pub loop-index-preserved : goal.loop-index-preserved
loop-index-preserved c =
    all_more IsHeldIndex c.args.indexes.now c.loop-index.index-index c.index-item.result
    c.loop-index-test.true c.index-item.is c.index_held.ensures c.loop-index.invariant

pub returns-clause-each : goal.returns-clause-each
returns-clause-each c =
    all_whole IsHeldIndex c.args.indexes.now c.loop-index.index-index c.loop-index-test.false
    c.loop-index.invariant
