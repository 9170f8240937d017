use Rattle.alt_keyorder.proofs.Unclosed.{unfinished_at, unmarked_at, clean-unclosed}
use Rattle.alt_keyorder.proofs.take.cut_at_mark.Goals as goal

pub returns-in-empty : goal.returns-in-empty
returns-in-empty c = unfinished_at c.args.bytes.now c.in-Some.front.now c.in-Some.behind.now
    c.in-Some.ensures.0 c.in-Some.ensures.1 c.in-empty.len_below

pub returns-else-mark-eq0 : goal.returns-else-mark-eq0
returns-else-mark-eq0 c =
    unmarked_at c.args.bytes.now c.in-Some.front.now c.in-Some.behind.now c.in-Some.ensures.0
    c.in-Some.ensures.1 c.in-len1-up.len_at_least
    c.if-mark.false c.if-mark-eq0.false

pub returns-in-None : goal.returns-in-None
returns-in-None c = clean-unclosed c.args.bytes.now c.in-None.ensures
