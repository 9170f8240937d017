-- The indexes so far are copied.
use Rattle.std.proofs.Common.{◌≡◌, take}
use Rattle.alt_description.proofs.copies.copied_indexes.Given as goal

abbrev pub invariant-loop-index : goal.invariant-loop-index
invariant-loop-index l = l.list ≡ take l.index-index l.indexes
