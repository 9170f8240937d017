use Rattle.std.proofs.Common.{◌≡◌, ◌++◌, map, drop}
use Rattle.alt_updeval.specs.Shown.{way_of, way_at_index, indexed_edits}
use Rattle.alt_updeval.proofs.stepping.by_index.Given as goal

abbrev pub invariant-loop-way : goal.invariant-loop-way
invariant-loop-way l = map way_at_index l.indexed.items
    ++ indexed_edits (map way_of (drop l.way-index l.ways)) ≡ indexed_edits (map way_of l.ways)
