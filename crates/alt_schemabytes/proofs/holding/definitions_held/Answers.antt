-- One more, and all.
use Rattle.alt_schemabytes.specs.Held.{IsHeldText}
use Rattle.alt_base.proofs.Lists.{all_more, all_whole}
use Rattle.alt_schemabytes.proofs.holding.definitions_held.Goals as goal

pub loop-definition-preserved : goal.loop-definition-preserved
loop-definition-preserved c =
    all_more (λ d. IsHeldText d.name) c.args.definitions.now c.loop-definition.definition-index
    c.definition-item.result c.loop-definition-test.true c.definition-item.is
    c.text_held.ensures c.loop-definition.invariant

pub returns-clause-each : goal.returns-clause-each
returns-clause-each c =
    all_whole (λ d. IsHeldText d.name) c.args.definitions.now c.loop-definition.definition-index
    c.loop-definition-test.false c.loop-definition.invariant
