-- The indexes so far are copied, that of the family built so far.
use Rattle.std.proofs.Common.{◌≡◌, map, take}
use Rattle.alt_description.specs.SoFar.{index_of_family}
use Rattle.alt_description.proofs.copies.family_indexes.Given as goal

abbrev pub invariant-loop-index : goal.invariant-loop-index
invariant-loop-index l = l.list ≡ map (index_of_family l.family l.built) (take l.index-index l.indexes)
