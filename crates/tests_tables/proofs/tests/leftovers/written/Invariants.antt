use Rattle.alt_disk.specs.MemoryState.{state_of}
use Rattle.alt_tables.specs.Stands.{AreReady}
use Rattle.tests_tables.proofs.tests.leftovers.written.Given as goal

abbrev pub invariant-loop-put : goal.invariant-loop-put
invariant-loop-put l = AreReady (state_of l.disk) l.tables
