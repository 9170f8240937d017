-- The place is that among the tables that are left, behind those so far.
use Rattle.std.proofs.Common.{◌≡◌, drop}
use Rattle.alt_readahead.specs.Batches.{place_among}
use Rattle.alt_readahead.proofs.Batches.{place_behind}
use Rattle.alt_readahead.proofs.batch.place_among.Given as goal

abbrev pub invariant-loop-table : goal.invariant-loop-table
invariant-loop-table l = (l.at ≡ l.table-index)
    × (place_among l.name l.tables
    ≡ place_behind l.at (place_among l.name (drop l.table-index l.tables)))
