-- The indexes so far are copied, built so far.
use Rattle.std.proofs.Common.{◌≡◌, map, take}
use Rattle.alt_description.specs.SoFar.{index_so_far}
use Rattle.alt_description.proofs.copies.built_indexes.Given as goal

abbrev pub invariant-loop-index : goal.invariant-loop-index
invariant-loop-index l = l.list ≡ map (index_so_far l.built) (take l.index-index l.indexes)
