use Rattle.std.proofs.Common.{◌<◌}
use Rattle.alt_shell.specs.declared.shell.TheConstants.{CLOCK_END}
use Rattle.alt_shell.proofs.Ticking.{tell_another, count_another, all_behind}
use Rattle.alt_shell.proofs.clock.Clock.tell.Goals as goal

pub invariant_of-self-2-clause-counted : goal.invariant_of-self-2-clause-counted
invariant_of-self-2-clause-counted c =
    let d = c.args.self.now in
    count_another d.past.items c.push_reserved.new.self.items d.count d.times d.last
    c.min-more.result
    c.in-Some.moment c.push_reserved.ensures.items d.counted

pub returns-clause-told : goal.returns-clause-told
returns-clause-told c =
    let d = c.args.self.now in
    tell_another d.past.items c.push_reserved.new.self.items d.count d.times d.last
    c.min-more.result
    c.in-Some.moment c.push_reserved.ensures.items d.counted c.min-more.ensures

pub invariant_of-self-2-clause-all_below : goal.invariant_of-self-2-clause-all_below
invariant_of-self-2-clause-all_below c =
    let d = c.args.self.now in
    all_behind (λ t. t < CLOCK_END) d.ahead.items c.in-Some.moment c.pop_front.new.self.items
    c.in-Some.ensures.items d.all_below
