-- One row more.
use Rattle.std.proofs.Common.{sym, subst, IsTrue}
use Rattle.std.specs.Prelude.{IfSome}
use Rattle.alt_opening.specs.private.Opening.{IsReadOn}
use Rattle.alt_opening.specs.Scans.{IsAhead}
use Rattle.alt_opening.specs.StateRows.{catalog_family}
use Rattle.alt_opening.proofs.Ahead.{none_ahead}
use Rattle.alt_opening.proofs.CatalogSteps.{step_start}
use Rattle.alt_opening.proofs.Scanning.{walk_then, reads_on}
use Rattle.alt_opening.proofs.opened.read_catalog.Goals as goal

pub rows-init : goal.rows-init
rows-init g c = record {
  walked = c.in-Ok.ensures.walked;
  known = λ tells layout reads. step_start layout c.in-Ok.family c.new-catalog.result
      c.in-Ok-key_after.from (c.in-Ok.ensures.read tells layout reads)
      c.new-catalog.ensures.empty c.in-Ok-key_after.ensures;
  ahead = λ tells layout reads. none_ahead layout catalog_family c.in-Ok-key_after.from
      c.new-ahead.result.items c.new-ahead.ensures.items;
}

pub returns-in-Ok-None-clause-read : goal.returns-in-Ok-None-clause-read
returns-in-Ok-None-clause-read g c tells l reads =
    subst (IsReadOn l c.in-Ok.family c.read_table.new.catalog) c.in-Ok-None.field-0-is
    (c.in-Ok-None.ensures.read
    (subst IsTrue (sym c.rows.invariant.walked.goes.tells) tells) l
    (reads_on (g.D.Disk.state c.args.disk.now) (g.D.Disk.state c.rows.disk) c.args.engine.now
    c.rows.engine l c.rows.invariant.walked tells reads)
    (c.rows.invariant.ahead tells l reads) (c.rows.invariant.known tells l reads))

pub returns-in-Err-read_table-clause-wrong : goal.returns-in-Err-read_table-clause-wrong
returns-in-Err-read_table-clause-wrong g c tells l reads =
    c.in-Err-read_table.ensures.wrong
    (subst IsTrue (sym c.rows.invariant.walked.goes.tells) tells) l
    (reads_on (g.D.Disk.state c.args.disk.now) (g.D.Disk.state c.rows.disk) c.args.engine.now
    c.rows.engine l c.rows.invariant.walked tells reads)
    (c.rows.invariant.ahead tells l reads) (c.rows.invariant.known tells l reads)

pub rows-preserved : goal.rows-preserved
rows-preserved g c = record {
  walked = walk_then (g.D.Disk.state c.args.disk.now) (g.D.Disk.state c.rows.disk)
      (g.D.Disk.state c.read_table.new.disk) c.args.engine.now c.rows.engine
      c.read_table.new.engine c.rows.invariant.walked c.read_table.ensures.walked;
  known = λ tells layout reads.
      subst (IsReadOn layout c.in-Ok.family c.read_table.new.catalog) c.in-Ok-Some.field-0-is
      (c.in-Ok-Some.ensures.read
      (subst IsTrue (sym c.rows.invariant.walked.goes.tells) tells) layout
      (reads_on (g.D.Disk.state c.args.disk.now) (g.D.Disk.state c.rows.disk) c.args.engine.now
      c.rows.engine layout c.rows.invariant.walked tells reads)
      (c.rows.invariant.ahead tells layout reads) (c.rows.invariant.known tells layout reads));
  ahead = λ tells layout reads.
      subst (λ o. IfSome o (λ after. IsAhead layout catalog_family after
      c.read_table.new.ahead.items)) c.in-Ok-Some.field-0-is
      (c.in-Ok-Some.ensures.ahead (subst IsTrue (sym c.rows.invariant.walked.goes.tells) tells) layout
      (reads_on (g.D.Disk.state c.args.disk.now) (g.D.Disk.state c.rows.disk) c.args.engine.now
      c.rows.engine layout c.rows.invariant.walked tells reads)
      (c.rows.invariant.ahead tells layout reads));
}

pub returns-in-Ok-None-clause-walked : goal.returns-in-Ok-None-clause-walked
returns-in-Ok-None-clause-walked g c =
    walk_then (g.D.Disk.state c.args.disk.now) (g.D.Disk.state c.rows.disk) (g.D.Disk.state
    c.read_table.new.disk) c.args.engine.now c.rows.engine c.read_table.new.engine
    c.rows.invariant.walked c.read_table.ensures.walked

pub returns-in-Err-read_table-clause-walked : goal.returns-in-Err-read_table-clause-walked
returns-in-Err-read_table-clause-walked g c =
    walk_then (g.D.Disk.state c.args.disk.now) (g.D.Disk.state c.rows.disk) (g.D.Disk.state
    c.read_table.new.disk) c.args.engine.now c.rows.engine c.read_table.new.engine
    c.rows.invariant.walked c.read_table.ensures.walked
