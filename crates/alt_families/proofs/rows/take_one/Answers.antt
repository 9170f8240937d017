-- One row is given, or none.
use Rattle.std.proofs.Common.{◌<◌, ◌-◌, arith}
use Rattle.alt_families.proofs.GatherLaws.{given_all, given_first, given_end, given_none}
use Rattle.alt_families.proofs.PayLaws.{paid_now, wanted_next, wanted_some}
use Rattle.alt_families.proofs.rows.take_one.Goals as goal

pub returns-then-left-eq0-clause-gives : goal.returns-then-left-eq0-clause-gives
returns-then-left-eq0-clause-gives g c told p bound shows passes ahead =
    given_all shows c.args.out.now.items c.args.left c.if-left-eq0.true

pub returns-then-left-eq0-clause-reads : goal.returns-then-left-eq0-clause-reads
returns-then-left-eq0-clause-reads g c told p bound shows ahead =
    paid_now p bound (g.D.Disk.state c.args.disk.now) c.args.walk.now c.args.forward ahead.rest
    ahead.left

pub returns-in-Ok-Gave-clause-gives : goal.returns-in-Ok-Gave-clause-gives
returns-in-Ok-Gave-clause-gives g c told p bound shows passes ahead =
    let from = c.args.range.now.from in
    let to = c.args.range.now.to in
    let some : 0 < c.args.left = let some = c.if-left-eq0.false in omega (arith, some) in
    let s = rw c.in-Ok-Gave.field-0-is at c.in-Ok-Gave.ensures.gives told p bound (c.args.left - 1)
    shows (wanted_some c.args.forward from to c.args.left shows p some passes) ahead in (
      s.1,
      given_first shows c.args.out.now.items c.go_on.new.out.items s.1 c.args.left s.0 some s.2 s.3,
      (s.4, wanted_next c.args.forward from to c.args.left shows s.1 s.0 p s.2 passes),
    )

pub returns-in-Ok-Passed-clause-gives : goal.returns-in-Ok-Passed-clause-gives
returns-in-Ok-Passed-clause-gives g c told p bound shows passes ahead =
    let some : 0 < c.args.left = let some = c.if-left-eq0.false in omega (arith, some) in
    let s = rw c.in-Ok-Passed.field-0-is at c.in-Ok-Passed.ensures.gives told p bound
    (c.args.left - 1) shows (wanted_some c.args.forward c.args.range.now.from c.args.range.now.to
    c.args.left shows p some passes) ahead in (
      shows,
      given_none shows c.args.out.now.items c.go_on.new.out.items c.args.left s.0,
      (s.1, passes),
    )

pub returns-in-Ok-Ended-clause-gives : goal.returns-in-Ok-Ended-clause-gives
returns-in-Ok-Ended-clause-gives g c told p bound shows passes ahead =
    let some : 0 < c.args.left = let some = c.if-left-eq0.false in omega (arith, some) in
    let s = rw c.in-Ok-Ended.field-0-is at c.in-Ok-Ended.ensures.gives told p bound
    (c.args.left - 1) shows (wanted_some c.args.forward c.args.range.now.from c.args.range.now.to
    c.args.left shows p some passes) ahead in
    given_end shows c.args.out.now.items c.go_on.new.out.items c.args.left s.0 s.1
