use Rattle.alt_disk.specs.MemoryState.{state_of}
use Rattle.alt_tables.specs.Stands.{AreReady}
use Rattle.tests_tables.proofs.tests.reads.fill.Given as goal

abbrev pub invariant-loop-request : goal.invariant-loop-request
invariant-loop-request l = AreReady (state_of l.disk) l.tables
