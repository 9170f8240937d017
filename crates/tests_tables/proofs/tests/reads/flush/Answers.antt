-- Behind a flush the tables stand for the state that they stood for.
use Rattle.alt_disk.specs.MemoryState.{state_of}
use Rattle.alt_disk.proofs.Runs.{trusted_back}
use Rattle.tests_tables.proofs.tests.reads.flush.Goals as goal

pub returns-in-Ok : goal.returns-in-Ok
returns-in-Ok c = λ trusted.
    let before = trusted_back (state_of c.args.disk.now) (state_of c.work.new.disk)
    c.in-Ok.ensures.goes trusted in
    let found = c.requires before in (found.0, c.in-Ok.ensures.ok found.0 found.1)
