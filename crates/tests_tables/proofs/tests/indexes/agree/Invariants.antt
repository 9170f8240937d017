use Rattle.alt_disk.specs.MemoryState.{state_of}
use Rattle.alt_tables.specs.Stands.{AreReady}
use Rattle.tests_tables.proofs.tests.indexes.agree.Given as goal

abbrev pub invariant-loop-reads : goal.invariant-loop-reads
invariant-loop-reads l = AreReady (state_of l.disk) l.tables
