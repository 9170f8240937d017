-- What was read is the state, or a row is the first wrong one.
use Rattle.std.proofs.Common.{sym, subst, IsTrue}
use Rattle.alt_opening.specs.Scans.{Walked}
use Rattle.alt_opening.proofs.IndexState.{index_fault, shown_state}
use Rattle.alt_opening.proofs.Recovering.{number_within}
use Rattle.alt_opening.proofs.Scanning.{walk_then, reads_on}
use Rattle.alt_opening.proofs.StreamState.{stream_fault}
use Rattle.alt_opening.proofs.recover.read_rows.Goals as goal

pub returns-in-Err-read_streams-clause-wrong : goal.returns-in-Err-read_streams-clause-wrong
returns-in-Err-read_streams-clause-wrong g c tells l reads =
    let tables = c.in-Ok.ensures.read tells l reads in
    stream_fault l c.in-Ok.state.0.family c.in-Ok.state.0.catalog tables
    (number_within (g.D.Disk.state c.args.disk.now) c.args.engine.now l reads)
    c.in-Err-read_streams.fault
    (c.in-Err-read_streams.ensures.wrong
    (subst IsTrue (sym c.in-Ok.ensures.walked.goes.tells) tells) l c.in-Ok.state.0.family
    (reads_on (g.D.Disk.state c.args.disk.now) (g.D.Disk.state c.read_state.new.disk)
    c.args.engine.now c.read_state.new.engine l c.in-Ok.ensures.walked tells reads) tables)

pub returns-in-Ok-read_indexes-clause-read : goal.returns-in-Ok-read_indexes-clause-read
returns-in-Ok-read_indexes-clause-read g c tells l reads =
    let tables = c.in-Ok.ensures.read tells l reads in
    let both : Walked (g.D.Disk.state c.args.disk.now) (g.D.Disk.state c.read_streams.new.disk)
    c.args.engine.now c.read_streams.new.engine = walk_then (g.D.Disk.state c.args.disk.now)
    (g.D.Disk.state c.read_state.new.disk) (g.D.Disk.state c.read_streams.new.disk)
    c.args.engine.now c.read_state.new.engine c.read_streams.new.engine c.in-Ok.ensures.walked
    c.in-Ok-read_streams.ensures.walked in
    let streams = c.in-Ok-read_streams.ensures.read
    (subst IsTrue (sym c.in-Ok.ensures.walked.goes.tells) tells) l c.in-Ok.state.0.family
    (reads_on (g.D.Disk.state c.args.disk.now) (g.D.Disk.state c.read_state.new.disk)
    c.args.engine.now c.read_state.new.engine l c.in-Ok.ensures.walked tells reads) tables in
    shown_state l c.in-Ok.state.0.family c.in-Ok.state.0.catalog tables
    (number_within (g.D.Disk.state c.args.disk.now) c.args.engine.now l reads) streams
    c.in-Ok.state.1 (c.in-Ok.ensures.largest tells l reads) c.in-Ok-read_streams.trimmed.items
    (c.in-Ok-read_streams.ensures.trimmed
    (subst IsTrue (sym c.in-Ok.ensures.walked.goes.tells) tells) l c.in-Ok.state.0.family
    (reads_on (g.D.Disk.state c.args.disk.now) (g.D.Disk.state c.read_state.new.disk)
    c.args.engine.now c.read_state.new.engine l c.in-Ok.ensures.walked tells reads) tables)
    (c.in-Ok-read_indexes.ensures.read (subst IsTrue (sym both.goes.tells) tells) l
    c.in-Ok.state.0.family
    (reads_on (g.D.Disk.state c.args.disk.now) (g.D.Disk.state c.read_streams.new.disk)
    c.args.engine.now c.read_streams.new.engine l both tells reads) tables)

pub returns-in-Err-read_indexes-clause-wrong : goal.returns-in-Err-read_indexes-clause-wrong
returns-in-Err-read_indexes-clause-wrong g c tells l reads =
    let tables = c.in-Ok.ensures.read tells l reads in
    let both : Walked (g.D.Disk.state c.args.disk.now) (g.D.Disk.state c.read_streams.new.disk)
    c.args.engine.now c.read_streams.new.engine = walk_then (g.D.Disk.state c.args.disk.now)
    (g.D.Disk.state c.read_state.new.disk) (g.D.Disk.state c.read_streams.new.disk)
    c.args.engine.now c.read_state.new.engine c.read_streams.new.engine c.in-Ok.ensures.walked
    c.in-Ok-read_streams.ensures.walked in
    let streams = c.in-Ok-read_streams.ensures.read
    (subst IsTrue (sym c.in-Ok.ensures.walked.goes.tells) tells) l c.in-Ok.state.0.family
    (reads_on (g.D.Disk.state c.args.disk.now) (g.D.Disk.state c.read_state.new.disk)
    c.args.engine.now c.read_state.new.engine l c.in-Ok.ensures.walked tells reads) tables in
    index_fault l c.in-Ok.state.0.family c.in-Ok.state.0.catalog tables
    (number_within (g.D.Disk.state c.args.disk.now) c.args.engine.now l reads) streams
    c.in-Err-read_indexes.fault
    (c.in-Err-read_indexes.ensures.wrong (subst IsTrue (sym both.goes.tells) tells) l
    c.in-Ok.state.0.family
    (reads_on (g.D.Disk.state c.args.disk.now) (g.D.Disk.state c.read_streams.new.disk)
    c.args.engine.now c.read_streams.new.engine l both tells reads) tables)

pub returns-in-Err-read_streams-clause-walked : goal.returns-in-Err-read_streams-clause-walked
returns-in-Err-read_streams-clause-walked g c =
    walk_then (g.D.Disk.state c.args.disk.now) (g.D.Disk.state c.read_state.new.disk)
    (g.D.Disk.state c.read_streams.new.disk) c.args.engine.now c.read_state.new.engine
    c.read_streams.new.engine c.read_state.ensures.walked c.read_streams.ensures.walked

pub returns-in-Ok-read_indexes-clause-walked : goal.returns-in-Ok-read_indexes-clause-walked
returns-in-Ok-read_indexes-clause-walked g c = walk_then (g.D.Disk.state c.args.disk.now)
    (g.D.Disk.state c.read_streams.new.disk) (g.D.Disk.state c.read_indexes.new.disk)
    c.args.engine.now c.read_streams.new.engine c.read_indexes.new.engine
    (walk_then (g.D.Disk.state c.args.disk.now) (g.D.Disk.state c.read_state.new.disk)
    (g.D.Disk.state c.read_streams.new.disk) c.args.engine.now c.read_state.new.engine
    c.read_streams.new.engine c.read_state.ensures.walked c.read_streams.ensures.walked) c.read_indexes.ensures.walked

pub returns-in-Err-read_indexes-clause-walked : goal.returns-in-Err-read_indexes-clause-walked
returns-in-Err-read_indexes-clause-walked g c = walk_then (g.D.Disk.state c.args.disk.now)
    (g.D.Disk.state c.read_streams.new.disk) (g.D.Disk.state c.read_indexes.new.disk)
    c.args.engine.now c.read_streams.new.engine c.read_indexes.new.engine
    (walk_then (g.D.Disk.state c.args.disk.now) (g.D.Disk.state c.read_state.new.disk)
    (g.D.Disk.state c.read_streams.new.disk) c.args.engine.now c.read_state.new.engine
    c.read_streams.new.engine c.read_state.ensures.walked c.read_streams.ensures.walked) c.read_indexes.ensures.walked
