-- The rows of the family are those of the stream, the number is the next one, and what was trimmed is what they tell.
use Rattle.std.proofs.Common.{sym, subst, IsTrue}
use Rattle.alt_opening.proofs.DeviceFaults.{device_stream}
use Rattle.alt_opening.proofs.Scanning.{reads_on, walk_then}
use Rattle.alt_opening.proofs.StreamSteps.{none_told, stream_read, stream_told, stream_wrong}
use Rattle.alt_opening.proofs.change_scan.read_stream.Goals as goal

pub returns-in_default-clause-trimmed : goal.returns-in_default-clause-trimmed
returns-in_default-clause-trimmed g c tells l reads =
    none_told l c.args.schema.now c.in_default.is

pub returns-in-Err-clause-wrong : goal.returns-in-Err-clause-wrong
returns-in-Err-clause-wrong g c tells l reads = device_stream l c.args.schema.now c.in-Err.fault
    (c.in-Err.ensures.fault tells l reads)

pub returns-in-Ok-test_changes-clause-read : goal.returns-in-Ok-test_changes-clause-read
returns-in-Ok-test_changes-clause-read g c tells l reads =
    stream_read l c.args.schema.now c.in-Some.family c.in-Some.is c.next_number-next.result
    c.in-Ok.trimmed
    (c.next_number-next.ensures.layout (g.D.Disk.state c.args.disk.now) l reads)
    (c.in-Ok.ensures.trimmed tells l reads)
    (c.in-Ok-test_changes.ensures.read
    (subst IsTrue (sym c.in-Ok.ensures.walked.goes.tells) tells) l
    (reads_on (g.D.Disk.state c.args.disk.now) (g.D.Disk.state c.read_trimmed.new.disk)
    c.args.engine.now c.read_trimmed.new.engine l c.in-Ok.ensures.walked tells reads))

pub returns-in-Ok-test_changes-clause-trimmed : goal.returns-in-Ok-test_changes-clause-trimmed
returns-in-Ok-test_changes-clause-trimmed g c tells l reads =
    stream_told l c.args.schema.now c.in-Some.family c.in-Some.is c.next_number-next.result
    c.in-Ok.trimmed
    (c.next_number-next.ensures.layout (g.D.Disk.state c.args.disk.now) l reads)
    (c.in-Ok.ensures.trimmed tells l reads)

pub returns-in-Err-test_changes-clause-wrong : goal.returns-in-Err-test_changes-clause-wrong
returns-in-Err-test_changes-clause-wrong g c tells l reads =
    stream_wrong l c.args.schema.now c.in-Some.family c.in-Some.is c.next_number-next.result
    c.in-Ok.trimmed
    (c.next_number-next.ensures.layout (g.D.Disk.state c.args.disk.now) l reads)
    (c.in-Ok.ensures.trimmed tells l reads) c.in-Err-test_changes.fault
    (c.in-Err-test_changes.ensures.wrong
    (subst IsTrue (sym c.in-Ok.ensures.walked.goes.tells) tells) l
    (reads_on (g.D.Disk.state c.args.disk.now) (g.D.Disk.state c.read_trimmed.new.disk)
    c.args.engine.now c.read_trimmed.new.engine l c.in-Ok.ensures.walked tells reads))

pub returns-in-Ok-test_changes-clause-walked : goal.returns-in-Ok-test_changes-clause-walked
returns-in-Ok-test_changes-clause-walked g c = walk_then (g.D.Disk.state c.args.disk.now)
    (g.D.Disk.state c.read_trimmed.new.disk) (g.D.Disk.state c.test_changes.new.disk)
    c.args.engine.now c.read_trimmed.new.engine c.test_changes.new.engine
    c.read_trimmed.ensures.walked c.test_changes.ensures.walked

pub returns-in-Err-test_changes-clause-walked : goal.returns-in-Err-test_changes-clause-walked
returns-in-Err-test_changes-clause-walked g c = walk_then (g.D.Disk.state c.args.disk.now)
    (g.D.Disk.state c.read_trimmed.new.disk) (g.D.Disk.state c.test_changes.new.disk)
    c.args.engine.now c.read_trimmed.new.engine c.test_changes.new.engine
    c.read_trimmed.ensures.walked c.test_changes.ensures.walked
