-- The stream of one table more.
use Rattle.std.proofs.Common.{sym, ap, subst, ◌∙◌, IsTrue, arith}
use Rattle.alt_opening.specs.StreamScans.{ChangesRead}
use Rattle.alt_opening.proofs.Recovering.{number_within}
use Rattle.alt_opening.proofs.Scanning.{walk_start, walk_then, reads_on}
use Rattle.alt_opening.proofs.TableSteps.{none_yet, one_more, wrong_stream}
use Rattle.alt_opening.specs.private.Opening.{AreTrimmedUpTo}
use Rattle.alt_opening.specs.Trimmed.{with_number}
use Rattle.alt_opening.proofs.TrimmedSteps.{all_known, more_known, none_known}
use Rattle.alt_opening.proofs.recover.read_streams.Goals as goal

pub tables-init : goal.tables-init
tables-init g c = record {
  walked = walk_start (g.D.Disk.state c.args.disk.now) c.args.engine.now;
  read = λ tells layout next reads read. none_yet layout next c.args.catalog.now read.catalog
      (number_within (g.D.Disk.state c.args.disk.now) c.args.engine.now layout reads)
      (ChangesRead layout);
  trimmed = λ tells layout next reads read. subst (AreTrimmedUpTo layout c.args.catalog.now 0)
      (sym c.new-known.ensures.items) (none_known layout next c.args.catalog.now read.catalog
      (number_within (g.D.Disk.state c.args.disk.now) c.args.engine.now layout reads));
  small = omega arith;
}

pub returns-in-Err-clause-wrong : goal.returns-in-Err-clause-wrong
returns-in-Err-clause-wrong g c tells l next reads read =
    wrong_stream l next c.args.catalog.now read.catalog
    (number_within (g.D.Disk.state c.args.disk.now) c.args.engine.now l reads) c.tables.family
    (c.tables.invariant.read tells l next reads read) c.in-Some.schema.now
    c.in-Some.ensures.above c.in-Err.fault
    (c.in-Err.ensures.wrong (subst IsTrue (sym c.tables.invariant.walked.goes.tells) tells) l
    (reads_on (g.D.Disk.state c.args.disk.now) (g.D.Disk.state c.tables.disk) c.args.engine.now
    c.tables.engine l c.tables.invariant.walked tells reads))

pub tables-smaller : goal.tables-smaller
tables-smaller g c =
    let up = c.in-Some.ensures.above.above in
    let small = c.tables.invariant.small in omega (arith, up, small)

pub tables-preserved : goal.tables-preserved
tables-preserved g c = record {
  walked = walk_then (g.D.Disk.state c.args.disk.now) (g.D.Disk.state c.tables.disk)
      (g.D.Disk.state c.read_stream.new.disk) c.args.engine.now c.tables.engine
      c.read_stream.new.engine c.tables.invariant.walked c.read_stream.ensures.walked;
  read = λ tells layout next reads read. one_more layout next c.args.catalog.now read.catalog
      (number_within (g.D.Disk.state c.args.disk.now) c.args.engine.now layout reads)
      (ChangesRead layout) c.tables.family (c.tables.invariant.read tells layout next reads read)
      c.in-Some.schema.now c.in-Some.ensures.above
      (c.in-Ok.ensures.read (subst IsTrue (sym c.tables.invariant.walked.goes.tells) tells) layout
      (reads_on (g.D.Disk.state c.args.disk.now) (g.D.Disk.state c.tables.disk)
      c.args.engine.now c.tables.engine layout c.tables.invariant.walked tells reads));
  trimmed = λ tells layout next reads read.
      subst (AreTrimmedUpTo layout c.args.catalog.now c.in-Some.schema.now.family)
      (sym (c.in-Ok-know.ensures ∙ ap (λ name. with_number name c.in-Ok.number
      c.tables.known.items) c.as_str.ensures.same))
      (more_known layout next c.args.catalog.now read.catalog
      (number_within (g.D.Disk.state c.args.disk.now) c.args.engine.now layout reads)
      c.tables.family c.tables.known.items
      (c.tables.invariant.trimmed tells layout next reads read) c.in-Some.schema.now
      c.in-Some.ensures.above c.in-Ok.number
      (c.in-Ok.ensures.trimmed (subst IsTrue (sym c.tables.invariant.walked.goes.tells) tells)
      layout
      (reads_on (g.D.Disk.state c.args.disk.now) (g.D.Disk.state c.tables.disk)
      c.args.engine.now c.tables.engine layout c.tables.invariant.walked tells reads)));
  small = c.held.ensures.held.family;
}

pub returns-clause-read : goal.returns-clause-read
returns-clause-read g c tells l next reads read name d at =
    c.tables.invariant.read tells l next reads read name d at
    (c.in_default.ensures.above name d at)

pub returns-clause-trimmed : goal.returns-clause-trimmed
returns-clause-trimmed g c tells l next reads read =
    all_known l next c.args.catalog.now read.catalog
    (number_within (g.D.Disk.state c.args.disk.now) c.args.engine.now l reads) c.tables.family
    c.tables.known.items (c.tables.invariant.trimmed tells l next reads read)
    c.in_default.ensures.above

pub returns-in-Err-know-clause-walked : goal.returns-in-Err-know-clause-walked
returns-in-Err-know-clause-walked g c =
    walk_then (g.D.Disk.state c.args.disk.now) (g.D.Disk.state c.tables.disk) (g.D.Disk.state
    c.read_stream.new.disk) c.args.engine.now c.tables.engine c.read_stream.new.engine
    c.tables.invariant.walked c.read_stream.ensures.walked

pub returns-in-Err-clause-walked : goal.returns-in-Err-clause-walked
returns-in-Err-clause-walked g c =
    walk_then (g.D.Disk.state c.args.disk.now) (g.D.Disk.state c.tables.disk) (g.D.Disk.state
    c.read_stream.new.disk) c.args.engine.now c.tables.engine c.read_stream.new.engine
    c.tables.invariant.walked c.read_stream.ensures.walked
