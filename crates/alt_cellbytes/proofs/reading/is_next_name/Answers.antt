-- The last name decides.
use Rattle.alt_value.specs.Tree.{NULL_tree}
use Rattle.alt_cellbytes.proofs.Cuts.{name_tested, past}
use Rattle.alt_cellbytes.proofs.reading.is_next_name.Goals as goal

pub returns-in-Some : goal.returns-in-Some
returns-in-Some c =
    name_tested c.args.map.now _ (c.in-Some.last.now, _) c.args.name.now NULL_tree _
    c.len-count.ensures.item c.len-count.ensures.count c.if-count-eq0.false
    c.in-Some.ensures.pair c.lt.ensures

pub returns-in-None : goal.returns-in-None
returns-in-None c = absurd (past c.args.map.now _ c.len-count.ensures.count c.if-count-eq0.false
    c.in-None.ensures.pair)
