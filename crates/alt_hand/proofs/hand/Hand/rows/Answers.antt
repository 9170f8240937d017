-- What the family shows in the range.
use Rattle.std.proofs.Common.{◌≤◌, ◌+◌, ◌++◌, ℕ, List, take, ap, subst, ◌∙◌}
use Rattle.alt_cells.specs.Changes.{Columns}
use Rattle.alt_disk.specs.Disk.{DiskState}
use Rattle.alt_families.specs.Reads.{most_reads}
use Rattle.alt_hand.specs.InHand.{file_rows}
use Rattle.alt_families.proofs.RangeLaws.{shown_of_layout}
use Rattle.alt_hand.proofs.OpenLaws.{family_reads, stays_on, undamaged_source}
use Rattle.alt_hand.proofs.hand.Hand.rows.Goals as goal

pub returns-in-Ok-clause-rows : goal.returns-in-Ok-clause-rows
returns-in-Ok-clause-rows g c told l reads =
    c.in-Ok.ensures.rows told (l.rows c.args.family)
    (family_reads (g.D.Disk.state c.args.disk.now) c.args.self.now l reads c.args.family)
    ∙ ap (λ shows. c.args.out.now.items ++ take c.args.most shows) (shown_of_layout l c.args.family
    c.args.range.now.from c.args.range.now.to c.args.forward)

pub returns-in-Ok-clause-reads : goal.returns-in-Ok-clause-reads
returns-in-Ok-clause-reads g c told l reads =
    let s : DiskState = g.D.Disk.state c.args.disk.now in
    let b : DiskState = g.D.Disk.state c.shown_rows.new.disk in
    subst (λ (shows : List (List ℕ × Columns)). b.reads ≤ s.reads + most_reads c.args.forward
    c.args.range.now.from c.args.range.now.to c.args.most shows
    (file_rows c.args.self.now reads.held c.args.family))
    (shown_of_layout l c.args.family c.args.range.now.from c.args.range.now.to c.args.forward)
    (c.in-Ok.ensures.reads told (l.rows c.args.family)
    (family_reads s c.args.self.now l reads c.args.family))

pub returns-in-Ok-clause-same : goal.returns-in-Ok-clause-same
returns-in-Ok-clause-same g c told =
    stays_on (g.D.Disk.state c.args.disk.now) (g.D.Disk.state c.shown_rows.new.disk) c.args.self.now
    (c.shown_rows.ensures.quiet told)

pub returns-in-Err-clause-undamaged : goal.returns-in-Err-clause-undamaged
returns-in-Err-clause-undamaged g c told l reads =
    undamaged_source c.in-Err.fault c.from.result c.from.ensures
    (c.in-Err.ensures.undamaged told (l.rows c.args.family)
    (family_reads (g.D.Disk.state c.args.disk.now) c.args.self.now l reads c.args.family))

pub returns-in-Err-clause-same : goal.returns-in-Err-clause-same
returns-in-Err-clause-same g c told =
    stays_on (g.D.Disk.state c.args.disk.now) (g.D.Disk.state c.shown_rows.new.disk) c.args.self.now
    (c.shown_rows.ensures.quiet told)
