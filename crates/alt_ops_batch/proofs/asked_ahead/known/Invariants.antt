-- All tables are there where those that are left are.
use Rattle.std.proofs.Common.{◌≡◌, drop}
use Rattle.std.specs.FinMap as map
use Rattle.std.specs.List.{list_all}
use Rattle.alt_request.specs.TablesStands.{catalog_of}
use Rattle.alt_ops_batch.proofs.asked_ahead.known.Given as goal

abbrev pub invariant-loop-table : goal.invariant-loop-table
invariant-loop-table l = list_all (λ t. map.contains_key (catalog_of l.tables) t.table) l.asked
    ≡ list_all (λ t. map.contains_key (catalog_of l.tables) t.table) (drop l.table-index l.asked)
