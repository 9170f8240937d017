-- All tables are there where those that are left are.
use Rattle.std.proofs.Common.{◌≡◌}
use Rattle.std.specs.FinMap as map
use Rattle.std.specs.List.{list_all}
use Rattle.serde_json.specs.View.{members_view}
use Rattle.alt_machine.specs.Batches.{pairs_in}
use Rattle.alt_request.specs.TablesStands.{catalog_of}
use Rattle.alt_ops_batch.proofs.members.known.Given as goal

abbrev pub invariant-loop-name : goal.invariant-loop-name
invariant-loop-name l =
    list_all (λ t. map.contains_key (catalog_of l.tables) t.0)
    (pairs_in (members_view l.asked.entries))
    ≡ list_all (λ t. map.contains_key (catalog_of l.tables) t.0)
    (pairs_in (members_view l.name-iterator))
