use Rattle.std.proofs.Common.{◌≡◌, ◌++◌, map, drop}
use Rattle.alt_updeval.specs.Shown.{way_of, way_at_name, named_edits}
use Rattle.alt_updeval.proofs.stepping.by_name.Given as goal

abbrev pub invariant-loop-way : goal.invariant-loop-way
invariant-loop-way l = map way_at_name l.named.items
    ++ named_edits (map way_of (drop l.way-index l.ways)) ≡ named_edits (map way_of l.ways)
