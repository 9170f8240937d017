use Rattle.alt_disk.specs.MemoryState.{state_of}
use Rattle.tests_engine.specs.Ready.{IsReady}
use Rattle.tests_engine.proofs.tests.merged.steps.Given as goal

abbrev pub invariant-steps : goal.invariant-steps
invariant-steps l = IsReady (state_of l.disk) l.engine
