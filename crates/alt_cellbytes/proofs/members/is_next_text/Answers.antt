-- The last member decides.
use Rattle.alt_value.specs.Members.{text_order}
use Rattle.alt_value.proofs.Texts.{text_total}
use Rattle.alt_cellbytes.proofs.Cuts.{next_tested, past}
use Rattle.alt_cellbytes.proofs.members.is_next_text.Goals as goal

pub returns-in-Some : goal.returns-in-Some
returns-in-Some c =
    next_tested text_order text_total c.args.set.now _ c.in-Some.last.now c.args.text.now _
    c.len-count.ensures.rising c.len-count.ensures.count c.if-count-eq0.false
    c.in-Some.ensures.member c.lt.ensures

pub returns-in-None : goal.returns-in-None
returns-in-None c = absurd (past c.args.set.now _ c.len-count.ensures.count c.if-count-eq0.false
    c.in-None.ensures.member)
