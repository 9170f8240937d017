use Rattle.std.proofs.Common.{◌≡◌, ◌++◌, map, drop}
use Rattle.alt_updeval.specs.Shown.{edit_behind_step, way_of}
use Rattle.alt_updeval.proofs.update.ways_of.Given as goal

abbrev pub invariant-loop-rest : goal.invariant-loop-rest
invariant-loop-rest l = map way_of l.ways.items ++ map edit_behind_step (drop l.rest-index l.rests)
    ≡ map edit_behind_step l.rests
