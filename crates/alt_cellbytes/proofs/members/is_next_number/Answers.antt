-- The last member decides.
use Rattle.std.specs.Ordering.{int_cmp}
use Rattle.std.proofs.lemmas.Cmp.{int_cmp_total}
use Rattle.alt_cellbytes.proofs.Cuts.{next_tested, past}
use Rattle.alt_cellbytes.proofs.members.is_next_number.Goals as goal

pub returns-in-Some : goal.returns-in-Some
returns-in-Some c =
    next_tested int_cmp int_cmp_total c.args.set.now _ c.in-Some.last c.args.number.now _
    c.len-count.ensures.rising c.len-count.ensures.count c.if-count-eq0.false
    c.in-Some.ensures.member c.lt.ensures

pub returns-in-None : goal.returns-in-None
returns-in-None c = absurd (past c.args.set.now _ c.len-count.ensures.count c.if-count-eq0.false
    c.in-None.ensures.member)
