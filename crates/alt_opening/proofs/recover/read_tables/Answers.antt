-- One table more.
use Rattle.std.proofs.Common.{sym, subst, IsTrue, arith}
use Rattle.alt_opening.specs.Scans.{ItemsRead}
use Rattle.alt_opening.proofs.Recovering.{number_within}
use Rattle.alt_opening.proofs.Scanning.{walk_start, walk_then, reads_on}
use Rattle.alt_opening.specs.private.RowSizes.{RowsAreWithin}
use Rattle.alt_opening.proofs.Sizing.{within_this, within_up}
use Rattle.alt_opening.proofs.TableSteps.{none_yet, one_more, wrong_next}
use Rattle.alt_opening.proofs.recover.read_tables.Goals as goal

pub tables-init : goal.tables-init
tables-init g c = record {
  walked = walk_start (g.D.Disk.state c.args.disk.now) c.args.engine.now;
  read = λ tells layout next reads catalog. none_yet layout next c.args.catalog.now catalog
      (number_within (g.D.Disk.state c.args.disk.now) c.args.engine.now layout reads)
      (ItemsRead layout);
  sized = λ tells layout next reads catalog. none_yet layout next c.args.catalog.now catalog
      (number_within (g.D.Disk.state c.args.disk.now) c.args.engine.now layout reads)
      (RowsAreWithin layout 0);
  small = omega arith;
}

pub returns-in-Err-clause-wrong : goal.returns-in-Err-clause-wrong
returns-in-Err-clause-wrong g c tells l next reads catalog =
    wrong_next l next c.args.catalog.now catalog
    (number_within (g.D.Disk.state c.args.disk.now) c.args.engine.now l reads) c.tables.family
    (c.tables.invariant.read tells l next reads catalog) c.in-Some.schema.now
    c.in-Some.ensures.above c.in-Err.fault
    (c.in-Err.ensures.wrong (subst IsTrue (sym c.tables.invariant.walked.goes.tells) tells) l
    (reads_on (g.D.Disk.state c.args.disk.now) (g.D.Disk.state c.tables.disk) c.args.engine.now
    c.tables.engine l c.tables.invariant.walked tells reads))

pub tables-smaller : goal.tables-smaller
tables-smaller g c =
    let up = c.in-Some.ensures.above.above in
    let small = c.tables.invariant.small in omega (arith, up, small)

pub tables-preserved : goal.tables-preserved
tables-preserved g c = record {
  walked = walk_then (g.D.Disk.state c.args.disk.now) (g.D.Disk.state c.tables.disk)
      (g.D.Disk.state c.read_items.new.disk) c.args.engine.now c.tables.engine
      c.read_items.new.engine c.tables.invariant.walked c.read_items.ensures.walked;
  read = λ tells layout next reads catalog. one_more layout next c.args.catalog.now catalog
      (number_within (g.D.Disk.state c.args.disk.now) c.args.engine.now layout reads)
      (ItemsRead layout) c.tables.family (c.tables.invariant.read tells layout next reads catalog)
      c.in-Some.schema.now c.in-Some.ensures.above
      (c.in-Ok.ensures.read (subst IsTrue (sym c.tables.invariant.walked.goes.tells) tells) layout
      (reads_on (g.D.Disk.state c.args.disk.now) (g.D.Disk.state c.tables.disk)
      c.args.engine.now c.tables.engine layout c.tables.invariant.walked tells reads));
  sized = λ tells layout next reads catalog. one_more layout next c.args.catalog.now catalog
      (number_within (g.D.Disk.state c.args.disk.now) c.args.engine.now layout reads)
      (RowsAreWithin layout c.max-largest.result) c.tables.family
      (within_up layout c.args.catalog.now c.tables.family c.tables.largest c.in-Ok.size
      c.max-largest.result c.max-largest.ensures
      (c.tables.invariant.sized tells layout next reads catalog))
      c.in-Some.schema.now c.in-Some.ensures.above
      (within_this layout c.in-Some.schema.now c.tables.largest c.in-Ok.size c.max-largest.result
      c.max-largest.ensures
      (c.in-Ok.ensures.largest (subst IsTrue (sym c.tables.invariant.walked.goes.tells) tells)
      layout
      (reads_on (g.D.Disk.state c.args.disk.now) (g.D.Disk.state c.tables.disk)
      c.args.engine.now c.tables.engine layout c.tables.invariant.walked tells reads)));
  small = c.held.ensures.held.family;
}

pub returns-in-Err-clause-walked : goal.returns-in-Err-clause-walked
returns-in-Err-clause-walked g c =
    walk_then (g.D.Disk.state c.args.disk.now) (g.D.Disk.state c.tables.disk) (g.D.Disk.state
    c.read_items.new.disk) c.args.engine.now c.tables.engine c.read_items.new.engine
    c.tables.invariant.walked c.read_items.ensures.walked
