-- The last member decides.
use Rattle.std.proofs.Common.{ap, ◌∙◌}
use Rattle.std.specs.Ordering.{is_lt}
use Rattle.alt_value.specs.Members.{text_order}
use Rattle.alt_value.proofs.Texts.{text_total}
use Rattle.alt_cellbytes.proofs.Cuts.{next_tested, past}
use Rattle.alt_cellbytes.proofs.members.is_next_binary.Goals as goal

pub returns-in-Some : goal.returns-in-Some
returns-in-Some c =
    next_tested text_order text_total c.args.set.now _ c.in-Some.last.now c.args.binary.now _
    c.len-count.ensures.rising c.len-count.ensures.count c.if-count-eq0.false
    c.in-Some.ensures.member (c.is_lt.ensures ∙ ap is_lt c.cmp.ensures)

pub returns-in-None : goal.returns-in-None
returns-in-None c = absurd (past c.args.set.now _ c.len-count.ensures.count c.if-count-eq0.false
    c.in-None.ensures.member)
