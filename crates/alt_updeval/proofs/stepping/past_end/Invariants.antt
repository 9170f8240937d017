use Rattle.std.proofs.Common.{◌≡◌, ◌++◌, map, drop}
use Rattle.alt_updeval.specs.Shown.{way_of, way_at_index, indexed_edits, edits_past_end}
use Rattle.alt_updeval.proofs.stepping.past_end.Given as goal

abbrev pub invariant-loop-way : goal.invariant-loop-way
invariant-loop-way l = map way_at_index l.indexed.items
    ++ edits_past_end l.count (indexed_edits (map way_of (drop l.way-index l.ways)))
    ≡ edits_past_end l.count (indexed_edits (map way_of l.ways))
