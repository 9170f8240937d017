-- The engine of a store that is opened stands for its rows.
use Rattle.alt_disk.specs.MemoryState.{state_of}
use Rattle.alt_disk.proofs.Runs.{tells_of, trusted_back}
use Rattle.tests_tables.proofs.tests.writers.engine_of.Goals as goal

pub returns-in-Ok : goal.returns-in-Ok
returns-in-Ok c = λ trusted.
    let before = trusted_back (state_of c.args.disk.now) (state_of c.recover.new.disk)
    c.in-Ok.ensures.goes trusted in
    let found = c.in-Ok.ensures.ok (tells_of (state_of c.args.disk.now) before) in
    (found.0, c.in-Ok.ensures.stands before found.0 found.2)
