use Rattle.std.proofs.Common.{◌≡◌, ◌++◌, map}
use Rattle.std.specs.Vec.Iter.{into_iter_items}
use Rattle.alt_disk.specs.Trace.{option_shape, generation_of}
use Rattle.alt_disk.specs.Stopped.{removed_ones}
use Rattle.alt_disk.proofs.pick.add_removed.Given as goal

-- those found so far, and those that are still to be found
abbrev pub invariant-loop-other : goal.invariant-loop-other
invariant-loop-other l = map generation_of l.found.items
    ++ removed_ones (map option_shape (into_iter_items l.other-iterator)) l.rest
    ≡ map generation_of l.fn.found.items ++ removed_ones
    (map option_shape l.fn.others.items) l.fn.lengths
