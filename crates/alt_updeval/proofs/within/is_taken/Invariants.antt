use Rattle.std.proofs.Common.{◌≡◌, map, drop}
use Rattle.alt_expr.specs.Updated.{is_taken}
use Rattle.alt_updeval.specs.Shown.{way_of}
use Rattle.alt_updeval.proofs.within.is_taken.Given as goal

abbrev pub invariant-loop-way : goal.invariant-loop-way
invariant-loop-way l = is_taken (map way_of l.ways)
    ≡ is_taken (map way_of (drop l.way-index l.ways))
