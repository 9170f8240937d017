-- The first behind the empty name is the first behind the last.
use Rattle.std.proofs.Common.{◌≡◌, [], length}
use Rattle.std.specs.FinMap as map
use denote.Text.{Utf8}
use denote.Shadow.{shadow}
use Rattle.alt_backfill.specs.private.Asked.{builds}
use Rattle.alt_backfill.proofs.Naming.{first_of_those}
use Rattle.alt_backfill.proofs.building.first_building.Given as goal
use Rattle.alt_machine.specs.Ops.ListTables.{names_after}
use Rattle.alt_request.specs.TablesStands.{catalog_of}

abbrev pub invariant-loop-schema : goal.invariant-loop-schema
invariant-loop-schema l = shadow (Utf8 l.last)
    × (first_of_those builds l.last (map.entries (catalog_of l.tables))
    ≡ first_of_those builds [] (map.entries (catalog_of l.tables)))

abbrev pub decreases-loop-schema : goal.decreases-loop-schema
decreases-loop-schema l = length (names_after l.last (catalog_of l.tables))
