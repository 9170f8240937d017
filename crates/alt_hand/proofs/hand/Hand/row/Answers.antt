-- What the row of the family shows.
use Rattle.alt_hand.proofs.OpenLaws.{family_reads, stays_on, undamaged_source}
use Rattle.alt_hand.proofs.hand.Hand.row.Goals as goal

pub returns-in-Ok-clause-row : goal.returns-in-Ok-clause-row
returns-in-Ok-clause-row g c told l reads =
    c.in-Ok.ensures.row told (l.rows c.args.family)
    (family_reads (g.D.Disk.state c.args.disk.now) c.args.self.now l reads c.args.family)

pub returns-in-Ok-clause-same : goal.returns-in-Ok-clause-same
returns-in-Ok-clause-same g c told =
    stays_on (g.D.Disk.state c.args.disk.now) (g.D.Disk.state c.shown_row.new.disk) c.args.self.now
    (c.shown_row.ensures.quiet told)

pub returns-in-Err-clause-undamaged : goal.returns-in-Err-clause-undamaged
returns-in-Err-clause-undamaged g c told l reads =
    undamaged_source c.in-Err.fault c.from.result c.from.ensures
    (c.in-Err.ensures.undamaged told (l.rows c.args.family)
    (family_reads (g.D.Disk.state c.args.disk.now) c.args.self.now l reads c.args.family))

pub returns-in-Err-clause-same : goal.returns-in-Err-clause-same
returns-in-Err-clause-same g c told =
    stays_on (g.D.Disk.state c.args.disk.now) (g.D.Disk.state c.shown_row.new.disk) c.args.self.now
    (c.shown_row.ensures.quiet told)
