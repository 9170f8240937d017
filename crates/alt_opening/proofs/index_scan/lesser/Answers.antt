-- The second key, where it is below the first.
use Rattle.std.proofs.Common.{sym, ◌∙◌, true, false}
use Rattle.alt_opening.proofs.IndexKeys.{lesser_is}
use Rattle.alt_opening.proofs.index_scan.lesser.Goals as goal

pub returns-then-lt : goal.returns-then-lt
returns-then-lt c = lesser_is c.args.a c.args.b c.in-Some-Some.a c.in-Some-Some.b
    c.in-Some-Some.is-0 c.in-Some-Some.is-1 true (sym c.lt.ensures ∙ c.if-lt.true)

pub returns-else-lt : goal.returns-else-lt
returns-else-lt c = lesser_is c.args.a c.args.b c.in-Some-Some.a c.in-Some-Some.b
    c.in-Some-Some.is-0 c.in-Some-Some.is-1 false (sym c.lt.ensures ∙ c.if-lt.false)
