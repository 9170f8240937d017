-- The indexes of one table more.
use Rattle.std.proofs.Common.{sym, subst, IsTrue, arith}
use Rattle.alt_opening.specs.private.IndexScans.{IndexesRead}
use Rattle.alt_opening.proofs.Recovering.{number_within}
use Rattle.alt_opening.proofs.Scanning.{walk_start, walk_then, reads_on}
use Rattle.alt_opening.proofs.TableSteps.{none_yet, one_more, wrong_index}
use Rattle.alt_opening.proofs.recover.read_indexes.Goals as goal

pub tables-init : goal.tables-init
tables-init g c = record {
  walked = walk_start (g.D.Disk.state c.args.disk.now) c.args.engine.now;
  read = λ tells layout next reads read. none_yet layout next c.args.catalog.now read.catalog
      (number_within (g.D.Disk.state c.args.disk.now) c.args.engine.now layout reads)
      (IndexesRead layout);
  small = omega arith;
}

pub returns-in-Err-clause-wrong : goal.returns-in-Err-clause-wrong
returns-in-Err-clause-wrong g c tells l next reads read =
    let least = c.in-Some.ensures.above in
    wrong_index l next c.args.catalog.now read.catalog
    (number_within (g.D.Disk.state c.args.disk.now) c.args.engine.now l reads) c.tables.family
    (c.tables.invariant.read tells l next reads read) c.in-Some.schema.now
    least c.in-Err.fault
    (c.in-Err.ensures.wrong (subst IsTrue (sym c.tables.invariant.walked.goes.tells) tells) l
    (reads_on (g.D.Disk.state c.args.disk.now) (g.D.Disk.state c.tables.disk) c.args.engine.now
    c.tables.engine l c.tables.invariant.walked tells reads)
    (read.catalog.good least.name c.in-Some.schema.now least.there).made
    (read.items least.name c.in-Some.schema.now least.there))

pub tables-smaller : goal.tables-smaller
tables-smaller g c =
    let up = c.in-Some.ensures.above.above in
    let small = c.tables.invariant.small in omega (arith, up, small)

pub tables-preserved : goal.tables-preserved
tables-preserved g c = record {
  walked = walk_then (g.D.Disk.state c.args.disk.now) (g.D.Disk.state c.tables.disk)
      (g.D.Disk.state c.read_own_indexes.new.disk) c.args.engine.now c.tables.engine
      c.read_own_indexes.new.engine c.tables.invariant.walked c.read_own_indexes.ensures.walked;
  read = λ tells layout next reads read. one_more layout next c.args.catalog.now read.catalog
      (number_within (g.D.Disk.state c.args.disk.now) c.args.engine.now layout reads)
      (IndexesRead layout) c.tables.family (c.tables.invariant.read tells layout next reads read)
      c.in-Some.schema.now c.in-Some.ensures.above
      (c.in-Ok.ensures.read (subst IsTrue (sym c.tables.invariant.walked.goes.tells) tells) layout
      (reads_on (g.D.Disk.state c.args.disk.now) (g.D.Disk.state c.tables.disk)
      c.args.engine.now c.tables.engine layout c.tables.invariant.walked tells reads)
      (read.catalog.good c.in-Some.ensures.above.name c.in-Some.schema.now
      c.in-Some.ensures.above.there).made
      (read.items c.in-Some.ensures.above.name c.in-Some.schema.now
      c.in-Some.ensures.above.there));
  small = c.held.ensures.held.family;
}

pub returns-clause-read : goal.returns-clause-read
returns-clause-read g c tells l next reads read name d at =
    c.tables.invariant.read tells l next reads read name d at
    (c.in_default.ensures.above name d at)

pub returns-in-Err-clause-walked : goal.returns-in-Err-clause-walked
returns-in-Err-clause-walked g c =
    walk_then (g.D.Disk.state c.args.disk.now) (g.D.Disk.state c.tables.disk) (g.D.Disk.state
    c.read_own_indexes.new.disk) c.args.engine.now c.tables.engine c.read_own_indexes.new.engine
    c.tables.invariant.walked c.read_own_indexes.ensures.walked
