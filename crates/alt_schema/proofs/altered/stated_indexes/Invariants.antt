-- Those so far are stated.
use Rattle.std.proofs.Common.{◌≡◌, map, take}
use Rattle.alt_schema.specs.Altered.{stated_index}
use Rattle.alt_schema.proofs.altered.stated_indexes.Given as goal

abbrev pub invariant-loop-index : goal.invariant-loop-index
invariant-loop-index l = l.list ≡ map stated_index (take l.index-index l.indexes)
