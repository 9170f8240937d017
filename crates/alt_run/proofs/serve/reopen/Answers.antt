use Rattle.std.proofs.Common.{IsTrue, subst}
use Rattle.alt_disk.proofs.Runs.{tells_of}
use Rattle.alt_tables.proofs.Left.{stands_read, stands_trusted}
use Rattle.alt_tables.specs.Stands.{bounds_of}
use Rattle.alt_run.proofs.Reopening.{files_again}
use Rattle.alt_run.proofs.Opening.{still_stands, readable_cause, opening_works}
use Rattle.alt_run.proofs.serve.reopen.Goals as goal

pub returns-in-Ok-clause-stands : goal.returns-in-Ok-clause-stands
returns-in-Ok-clause-stands g c = λ s stands.
    let state = g.D.Disk.state in
    still_stands (state c.args.disk.now) (state c.open.new.disk) c.args.tables.now c.in-Ok.opened s
    stands c.in-Ok.ensures.stands

pub returns-in-Ok-clause-readable : goal.returns-in-Ok-clause-readable
returns-in-Ok-clause-readable g c = λ tells.
    let told = subst IsTrue c.in-Ok.ensures.goes.tells tells in
    let stood = c.in-Ok.ensures.reads told in
    (stood.0, c.in-Ok.ensures.files told stood.0 stood.1)

pub returns-in-Ok-clause-works : goal.returns-in-Ok-clause-works
returns-in-Ok-clause-works g c = λ s stands.
    let state = g.D.Disk.state in
    opening_works (state c.args.disk.now) (state c.open.new.disk) c.args.tables.now s stands
    c.in-Ok.ensures.goes c.in-Ok.ensures.leaves

pub returns-in-Err-clause-works : goal.returns-in-Err-clause-works
returns-in-Err-clause-works g c = λ s stands.
    let state = g.D.Disk.state in
    opening_works (state c.args.disk.now) (state c.open.new.disk) c.args.tables.now s stands
    c.in-Err.ensures.goes c.in-Err.ensures.leaves

pub returns-in-Err-clause-fault : goal.returns-in-Err-clause-fault
returns-in-Err-clause-fault g c = λ s stands.
    let old = g.D.Disk.state c.args.disk.now in
    readable_cause c.in-Err.fault old.file s (stands_read old c.args.tables.now s stands)
    (c.in-Err.ensures.unreadable (tells_of old (stands_trusted _ _ _ stands)))

pub returns-in-Ok-clause-files : goal.returns-in-Ok-clause-files
returns-in-Ok-clause-files g c = λ s stands.
    let old = g.D.Disk.state c.args.disk.now in
    files_again old c.args.tables.now s stands (bounds_of c.in-Ok.opened).file
    (c.in-Ok.ensures.next_file (tells_of old (stands_trusted _ _ _ stands)))
