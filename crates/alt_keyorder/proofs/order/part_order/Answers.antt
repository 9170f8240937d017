use Rattle.std.proofs.Common.{ap}
use Rattle.alt_value.specs.Stands.{tree_of}
use Rattle.alt_keyorder.proofs.Parts.{from_texts, from_binaries, apart_from_texts, apart_from_binaries}
use Rattle.alt_keyorder.proofs.order.part_order.Goals as goal

pub returns-in-S-clause-parts : goal.returns-in-S-clause-parts
returns-in-S-clause-parts c = from_texts _ (tree_of c.args.a.now)
    (tree_of c.args.b.now) c.in-S.field-0 c.order.ensures.order (ap tree_of c.in-S.is)

pub returns-in-S-clause-apart : goal.returns-in-S-clause-apart
returns-in-S-clause-apart c = apart_from_texts _ (tree_of c.args.a.now)
    (tree_of c.args.b.now) c.in-S.field-0 c.order.ensures.order (ap tree_of c.in-S.is)

pub returns-in-B-clause-parts : goal.returns-in-B-clause-parts
returns-in-B-clause-parts c = from_binaries _ (tree_of c.args.a.now)
    (tree_of c.args.b.now) c.in-B.field-0 c.order-in-B.ensures.order (ap tree_of c.in-B.is)

pub returns-in-B-clause-apart : goal.returns-in-B-clause-apart
returns-in-B-clause-apart c = apart_from_binaries _ (tree_of c.args.a.now)
    (tree_of c.args.b.now) c.in-B.field-0 c.order-in-B.ensures.order (ap tree_of c.in-B.is)
