use Rattle.alt_disk.specs.MemoryState.{state_of}
use Rattle.alt_tables.specs.Stands.{AreReady}
use Rattle.tests_tables.proofs.tests.streams.answered.Given as goal

abbrev pub invariant-loop-number : goal.invariant-loop-number
invariant-loop-number l = AreReady (state_of l.disk) l.tables
