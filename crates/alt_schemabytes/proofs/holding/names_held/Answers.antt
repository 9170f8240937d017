-- One more, and all.
use Rattle.alt_schemabytes.specs.Held.{IsHeldText}
use Rattle.alt_base.proofs.Lists.{all_more, all_whole}
use Rattle.alt_schemabytes.proofs.holding.names_held.Goals as goal

pub loop-name-preserved : goal.loop-name-preserved
loop-name-preserved c =
    all_more IsHeldText c.args.names.now c.loop-name.name-index c.name-item.result
    c.loop-name-test.true c.name-item.is c.text_held.ensures c.loop-name.invariant

pub returns-clause-each : goal.returns-clause-each
returns-clause-each c =
    all_whole IsHeldText c.args.names.now c.loop-name.name-index c.loop-name-test.false
    c.loop-name.invariant
