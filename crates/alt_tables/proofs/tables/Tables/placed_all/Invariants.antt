-- The first of the writes are placed.
use Rattle.std.proofs.Common.{drop}
use Rattle.alt_tables.specs.Stands.{catalog_of}
use Rattle.alt_tables.proofs.ByKeys.{ArePlaced}
use Rattle.alt_tables.proofs.tables.Tables.placed_all.Given as goal

abbrev pub invariant-loop-write : goal.invariant-loop-write
invariant-loop-write l = ArePlaced (catalog_of l.self) l.writes (drop l.write-index l.writes)
    l.changes.items
