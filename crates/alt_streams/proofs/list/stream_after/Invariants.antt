-- What follows the last name is what follows the name.
use Rattle.std.proofs.Common.{◌≡◌, None, length}
use Rattle.std.specs.List.{find}
use denote.Text.{Utf8}
use denote.Shadow.{shadow}
use Rattle.alt_machine.specs.Ops.ListTables.{names_after}
use Rattle.alt_streams.specs.private.Listed.{TablesHaveOwnNames, all_in, is_listed}
use Rattle.alt_streams.proofs.list.stream_after.Given as goal
use Rattle.alt_request.specs.TablesStands.{catalog_of}

abbrev pub invariant-loop-schema : goal.invariant-loop-schema
invariant-loop-schema l = shadow (Utf8 l.last)
    × (TablesHaveOwnNames (catalog_of l.tables) → find (is_listed l.last None) (all_in (catalog_of l.tables))
    ≡ find (is_listed l.name None) (all_in (catalog_of l.tables)))

abbrev pub decreases-loop-schema : goal.decreases-loop-schema
decreases-loop-schema l = length (names_after l.last (catalog_of l.tables))
