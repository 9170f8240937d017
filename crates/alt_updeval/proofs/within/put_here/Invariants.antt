use Rattle.std.proofs.Common.{◌≡◌, map, drop}
use Rattle.alt_expr.specs.Updated.{put_here}
use Rattle.alt_updeval.specs.Shown.{way_of}
use Rattle.alt_updeval.proofs.within.put_here.Given as goal

abbrev pub invariant-loop-way : goal.invariant-loop-way
invariant-loop-way l = put_here (map way_of l.ways)
    ≡ put_here (map way_of (drop l.way-index l.ways))
