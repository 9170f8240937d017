-- The tables that were read so far, and the tokens behind them.
use Rattle.std.proofs.Common.{length}
use Rattle.alt_readahead.proofs.Batches.{TablesSoFar}
use Rattle.alt_readahead.proofs.batch.tables_ahead.Given as goal

abbrev pub invariant-tables : goal.invariant-tables
invariant-tables l = TablesSoFar l.depth l.initial.reader l.reader l.tables.items

abbrev pub decreases-tables : goal.decreases-tables
decreases-tables l = length l.reader
