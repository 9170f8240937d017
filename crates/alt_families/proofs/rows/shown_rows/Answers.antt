-- The family in hand, or none.
use Rattle.std.proofs.Common.{refl, sym, subst}
use Rattle.alt_disk.specs.Disk.{DiskState}
use Rattle.alt_families.specs.Opened.{FamilyReads}
use Rattle.alt_families.proofs.GatherLaws.{given_end}
use Rattle.alt_families.proofs.OpenLaws.{none_reads, reads_at}
use Rattle.alt_families.proofs.RangeLaws.{none_between}
use Rattle.alt_families.proofs.rows.shown_rows.Goals as goal

pub returns-in-Some-clause-undamaged : goal.returns-in-Some-clause-undamaged
returns-in-Some-clause-undamaged g c told rows reads =
    let s : DiskState = g.D.Disk.state c.args.disk.now in
    c.walk_family.ensures.undamaged told rows
    (subst (λ o. FamilyReads s o rows) (sym c.in-Some.ensures.value) reads)

pub returns-in-None-clause-rows : goal.returns-in-None-clause-rows
returns-in-None-clause-rows g c told rows reads =
    let s : DiskState = g.D.Disk.state c.args.disk.now in
    given_end _ c.args.out.now.items c.args.out.now.items c.args.most refl
    (none_between rows c.args.range.now.from c.args.range.now.to c.args.forward
    (none_reads s rows (subst (λ o. FamilyReads s o rows) (sym c.in-None.ensures.value) reads)))

pub returns-in-Some-clause-reads : goal.returns-in-Some-clause-reads
returns-in-Some-clause-reads g c told rows reads =
    c.walk_family.ensures.reads told rows (reads_at (g.D.Disk.state c.args.disk.now) _ _ rows
    (sym c.in-Some.ensures.value) reads)

pub returns-in-Some-clause-rows : goal.returns-in-Some-clause-rows
returns-in-Some-clause-rows g c told rows reads =
    c.walk_family.ensures.rows told rows (reads_at (g.D.Disk.state c.args.disk.now) _ _ rows
    (sym c.in-Some.ensures.value) reads)
