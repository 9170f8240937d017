-- A name that comes again is found among those before it.
use Rattle.alt_schema.specs.Named.{kind_at}
use Rattle.alt_schema.proofs.NamedLemmas.{goes_on, has_kind_already, none_of, some_of}
use Rattle.alt_schema.proofs.named.kinds_of.Goals as goal

pub loop-definition-preserved : goal.loop-definition-preserved
loop-definition-preserved c =
    goes_on c.loop-definition.kinds c.add.new.self c.args.definitions.now
    c.loop-definition.definition-index c.definition-item.result c.as_str.result.now
    c.loop-definition-test.true c.definition-item.is c.as_str.ensures.same
    c.loop-definition.invariant.0
    (none_of (kind_at c.loop-definition.kinds c.as_str.result.now) c.in_ok-add.field-0
    c.in_ok-add.ensures.fresh c.if-not-branch.false)
    c.in_ok-add.ensures.added c.loop-definition.invariant.1

pub returns-then-not-branch-clause-differ : goal.returns-then-not-branch-clause-differ
returns-then-not-branch-clause-differ c =
    has_kind_already c.loop-definition.kinds c.args.definitions.now
    c.loop-definition.definition-index c.definition-item.result c.as_str.result.now
    c.loop-definition-test.true c.definition-item.is c.as_str.ensures.same
    c.loop-definition.invariant.0
    (some_of (kind_at c.loop-definition.kinds c.as_str.result.now) c.in_ok-add.field-0
    c.in_ok-add.ensures.fresh c.if-not-branch.true)
