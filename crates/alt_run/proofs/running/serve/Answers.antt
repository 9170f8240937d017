use Rattle.std.proofs.Common.{arith}
use Rattle.alt_talks.specs.TalkRules.{talk_rules}
use Rattle.alt_talks.specs.declared.fault.RunFault.TheVariants.{NoMemory}
use Rattle.alt_tables.specs.Stands.{bounds_of}
use Rattle.alt_tables.proofs.Left.{stands_left}
use Rattle.alt_talks.specs.TalkStops.{ServedSomeOn}
use Rattle.alt_talks.proofs.Stretching.{stretch_none}
use Rattle.alt_talks.proofs.TalkAmong.{served_nothing_on}
use Rattle.alt_talks.proofs.TalkReach.{run_served}
use Rattle.alt_talks.proofs.Arriving.{came_none}
use Rattle.alt_run.proofs.running.serve.Goals as goal

pub returns-in_default-clause-served : goal.returns-in_default-clause-served
returns-in_default-clause-served g c = λ s stands.
    let a = g.S.Disk.state c.args.shell.now in
    stretch_none a
    {P = ServedSomeOn talk_rules c.args.per c.args.count NoMemory (bounds_of c.args.tables.now).file s}
    (served_nothing_on talk_rules c.args.per c.args.count _ a s
    (λ trusted image is. stands_left a c.args.tables.now s stands image is))

pub returns-clause-served : goal.returns-clause-served
returns-clause-served g c = λ s stands.
    let state = g.S.Disk.state in
    run_served c.connections.result (state c.args.shell.now) (state c.connections.new.shell)
    c.connections.new.tables c.args.per c.args.count (bounds_of c.args.tables.now).file s
    (c.connections.ensures.served s stands)

pub returns-in_default-clause-most : goal.returns-in_default-clause-most
returns-in_default-clause-most g c = (0, omega arith, came_none (g.S.Disk.state c.args.shell.now))

pub returns-clause-most : goal.returns-clause-most
returns-clause-most g c = c.connections.ensures.most
