-- Behind a request that was answered the tables stand for a state still.
use Rattle.std.proofs.Common.{Option, Some, None}
use Rattle.std.specs.Prelude.{IfSome}
use Rattle.alt_disk.specs.MemoryState.{state_of}
use Rattle.alt_disk.proofs.Runs.{trusted_back}
use Rattle.alt_tables.specs.Stands.{AreReady}
use Rattle.tests_tables.proofs.tests.asking.told_at.Goals as goal

-- what holds anyway holds where there is an answer
anyway : {A P : Type 0} (o : Option A) → P → IfSome o (λ _. P)
anyway None p = tt
anyway (Some x) p = p

pub returns-in-Ok : goal.returns-in-Ok
returns-in-Ok c =
    let ready : AreReady (state_of c.answer.new.disk) c.answer.new.tables = λ trusted.
    let before = trusted_back (state_of c.args.disk.now) (state_of c.answer.new.disk)
    c.in-Ok.ensures.goes trusted in
    let found = c.requires before in
    let settled = c.in-Ok.ensures.settles found.0 found.1 in
    (_, settled.state) in
    anyway c.text_of.result ready
