-- The paths of the names so far.
use Rattle.std.proofs.Common.{◌≡◌, map, take}
use Rattle.alt_legacy.specs.Trees.{attribute_path}
use Rattle.alt_legacy.proofs.names.paths_of.Given as goal

abbrev pub invariant-loop-name : goal.invariant-loop-name
invariant-loop-name l = l.found ≡ map attribute_path (take l.name-index l.names)
