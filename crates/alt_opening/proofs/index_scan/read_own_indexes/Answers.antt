-- One index more.
use Rattle.std.proofs.Common.{◌<◌, ◌≤◌, sym, ap, subst, length, length-append, IsTrue, arith}
use Rattle.alt_schema.specs.Indexes.{indexes}
use Rattle.alt_opening.proofs.IndexSteps.{indexes_all, indexes_more, own_wrong}
use Rattle.alt_opening.proofs.Scanning.{walk_then, reads_on}
use Rattle.alt_opening.proofs.index_scan.read_own_indexes.Goals as goal

pub returns-in-Err-clause-wrong : goal.returns-in-Err-clause-wrong
returns-in-Err-clause-wrong g c tells l reads made read =
    let within : c.indexes.number < length (indexes c.args.schema.now) = omega (
      arith,
      c.indexes-test.true,
      ap length c.as_slice.ensures.members,
      ap length c.as_slice-2.ensures.members,
      length-append c.args.schema.now.locals c.args.schema.now.globals,
    ) in
    own_wrong l c.args.schema.now c.indexes.number within
    (c.indexes.invariant.read tells l reads made read) c.in-Err.fault
    (λ i at. c.in-Err.ensures.wrong
    (subst IsTrue (sym c.indexes.invariant.walked.goes.tells) tells) l i
    (reads_on (g.D.Disk.state c.args.disk.now) (g.D.Disk.state c.indexes.disk)
    c.args.engine.now c.indexes.engine l c.indexes.invariant.walked tells reads) at made read)

pub indexes-preserved : goal.indexes-preserved
indexes-preserved g c = record {
  walked = walk_then (g.D.Disk.state c.args.disk.now) (g.D.Disk.state c.indexes.disk)
      (g.D.Disk.state c.read_index.new.disk) c.args.engine.now c.indexes.engine
      c.read_index.new.engine c.indexes.invariant.walked c.read_index.ensures.walked;
  read = λ tells l reads made read. indexes_more l c.args.schema.now c.indexes.number
      (c.indexes.invariant.read tells l reads made read)
      (λ i at. c.in-Ok.ensures.read
      (subst IsTrue (sym c.indexes.invariant.walked.goes.tells) tells) l i
      (reads_on (g.D.Disk.state c.args.disk.now) (g.D.Disk.state c.indexes.disk)
      c.args.engine.now c.indexes.engine l c.indexes.invariant.walked tells reads)
      at made read);
}

pub returns-clause-read : goal.returns-clause-read
returns-clause-read g c tells l reads made read =
    let all : length (indexes c.args.schema.now) ≤ c.indexes.number = omega (
      arith,
      c.indexes-test.false,
      ap length c.as_slice.ensures.members,
      ap length c.as_slice-2.ensures.members,
      length-append c.args.schema.now.locals c.args.schema.now.globals,
    ) in
    indexes_all l c.args.schema.now c.indexes.number all
    (c.indexes.invariant.read tells l reads made read)

pub returns-in-Err-clause-walked : goal.returns-in-Err-clause-walked
returns-in-Err-clause-walked g c =
    walk_then (g.D.Disk.state c.args.disk.now) (g.D.Disk.state c.indexes.disk) (g.D.Disk.state
    c.read_index.new.disk) c.args.engine.now c.indexes.engine c.read_index.new.engine
    c.indexes.invariant.walked c.read_index.ensures.walked
