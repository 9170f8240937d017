-- The names so far and those after the last of them are the names after the start.
use Rattle.std.proofs.Common.{◌≡◌, ◌++◌, length}
use denote.Text.{Utf8}
use denote.Shadow.{shadow}
use Rattle.alt_machine.specs.Ops.ListTables.{names_after}
use Rattle.alt_request.specs.TablesStands.{catalog_of}
use Rattle.alt_ops_table.proofs.list.page_after.Given as goal

abbrev pub invariant-loop : goal.invariant-loop
invariant-loop l = shadow (Utf8 l.last)
    × (length l.names.items ≡ l.counter)
    × (l.names.items ++ names_after l.last (catalog_of l.tables)
    ≡ names_after l.start (catalog_of l.tables))
