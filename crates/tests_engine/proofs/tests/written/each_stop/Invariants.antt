use Rattle.alt_disk.specs.MemoryState.{state_of}
use Rattle.tests_engine.specs.Ready.{IsReady}
use Rattle.tests_engine.proofs.tests.written.each_stop.Given as goal

abbrev pub invariant-loop-count : goal.invariant-loop-count
invariant-loop-count l = IsReady (state_of l.disk) l.engine
