-- With the families of the other tables these are those of all.
use Rattle.std.proofs.Common.{◌≡◌, ◌∷◌, [], drop}
use Rattle.alt_opening.specs.Live.{with_tables}
use Rattle.alt_opening.specs.StateRows.{catalog_family}
use Rattle.alt_opening.proofs.catalog.live_among.Given as goal

abbrev pub invariant-loop-i : goal.invariant-loop-i
invariant-loop-i l =
    with_tables (drop l.i l.entries) l.live ≡ with_tables l.entries (catalog_family ∷ [])
