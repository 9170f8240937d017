use Rattle.alt_disk.specs.MemoryState.{state_of}
use Rattle.tests_engine.specs.Ready.{IsReady}
use Rattle.tests_engine.proofs.tests.merged.layered.Given as goal

abbrev pub invariant-loop-write : goal.invariant-loop-write
invariant-loop-write l = IsReady (state_of l.disk) l.engine
