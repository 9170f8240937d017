-- The first family in hand that shows a row.
use Rattle.alt_hand.proofs.OpenLaws.{family_reads, stays_on, undamaged_source}
use Rattle.alt_hand.proofs.hand.Hand.first_from.Goals as goal

pub returns-in-Ok-clause-first : goal.returns-in-Ok-clause-first
returns-in-Ok-clause-first g c told l reads =
    c.in-Ok.ensures.first told l.rows
    (family_reads (g.D.Disk.state c.args.disk.now) c.args.self.now l reads)

pub returns-in-Ok-clause-same : goal.returns-in-Ok-clause-same
returns-in-Ok-clause-same g c told =
    stays_on (g.D.Disk.state c.args.disk.now) (g.D.Disk.state c.first_shown.new.disk) c.args.self.now
    (c.first_shown.ensures.quiet told)

pub returns-in-Err-clause-undamaged : goal.returns-in-Err-clause-undamaged
returns-in-Err-clause-undamaged g c told l reads =
    undamaged_source c.in-Err.fault c.from.result c.from.ensures
    (c.in-Err.ensures.undamaged told l.rows
    (family_reads (g.D.Disk.state c.args.disk.now) c.args.self.now l reads))

pub returns-in-Err-clause-same : goal.returns-in-Err-clause-same
returns-in-Err-clause-same g c told =
    stays_on (g.D.Disk.state c.args.disk.now) (g.D.Disk.state c.first_shown.new.disk) c.args.self.now
    (c.first_shown.ensures.quiet told)
