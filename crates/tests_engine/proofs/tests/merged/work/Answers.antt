-- Work leaves an engine that stands for rows.
use Rattle.alt_disk.specs.MemoryState.{state_of}
use Rattle.alt_disk.proofs.Runs.{trusted_back}
use Rattle.tests_engine.proofs.tests.merged.work.Goals as goal

pub returns-in-Ok : goal.returns-in-Ok
returns-in-Ok c = λ trusted.
    let before = trusted_back (state_of c.args.disk.now) (state_of c.work.new.disk)
    c.in-Ok.ensures.goes trusted in
    let found = c.requires before in
    let work = c.in-Ok.ensures.ok before found.0 found.1 in (work.0, work.1)
