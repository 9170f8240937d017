-- Writes as one leave an engine that stands for the rows with them.
use Rattle.alt_disk.specs.MemoryState.{state_of}
use Rattle.alt_disk.proofs.Runs.{trusted_back}
use Rattle.tests_engine.proofs.tests.several.put_all.Goals as goal

pub returns-in-Ok : goal.returns-in-Ok
returns-in-Ok c = λ trusted.
    let before = trusted_back (state_of c.args.disk.now) (state_of c.apply_all.new.disk)
    c.in-Ok.ensures.goes trusted in
    let found = c.requires before in
    (_, c.in-Ok.ensures.ok before found.0 found.1)
