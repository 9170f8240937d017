use Rattle.std.proofs.Common.{◌≡◌, ◌++◌, map, drop}
use Rattle.alt_updeval.specs.Shown.{way_of, way_at_name, named_edits, new_names}
use Rattle.alt_updeval.proofs.stepping.by_new_name.Given as goal

abbrev pub invariant-loop-way : goal.invariant-loop-way
invariant-loop-way l = map way_at_name l.named.items
    ++ new_names l.old (named_edits (map way_of (drop l.way-index l.ways)))
    ≡ new_names l.old (named_edits (map way_of l.ways))
