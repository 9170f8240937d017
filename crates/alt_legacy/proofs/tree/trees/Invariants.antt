-- The trees so far, and those of the entries that are left.
use Rattle.std.proofs.Common.{◌≡◌, ◌++◌, map}
use Rattle.std.specs.Vec.Iter.{into_iter_items}
use Rattle.alt_legacy.specs.Trees.{condition_of_entry}
use Rattle.alt_legacy.proofs.tree.trees.Given as goal

abbrev pub invariant-loop-entry : goal.invariant-loop-entry
invariant-loop-entry l =
    l.found ++ map condition_of_entry (into_iter_items l.entry-iterator) ≡ map condition_of_entry l.fn.entries.items
