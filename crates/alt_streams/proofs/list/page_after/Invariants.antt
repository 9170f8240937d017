-- The streams so far and those behind the last of them are the streams behind the start.
use Rattle.std.proofs.Common.{◌≡◌, ◌++◌, map, length, option_map}
use denote.Text.{Utf8}
use denote.Shadow.{shadow}
use Rattle.alt_streams.specs.private.Listed.{TablesHaveOwnNames, streams_after}
use Rattle.alt_streams.proofs.list.page_after.Given as goal
use Rattle.alt_request.specs.TablesStands.{catalog_of}

abbrev pub invariant-loop : goal.invariant-loop
invariant-loop l = shadow (Utf8 l.last)
    × (length l.schemas.items ≡ l.counter)
    × (TablesHaveOwnNames (catalog_of l.tables) → map (λ d. d.now) l.schemas.items
    ++ streams_after l.last (option_map (λ w. w.now) l.name) (catalog_of l.tables)
    ≡ streams_after l.start (option_map (λ w. w.now) l.name) (catalog_of l.tables))
