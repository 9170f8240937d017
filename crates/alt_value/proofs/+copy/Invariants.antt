-- What is copied and what is left are the whole.
use Rattle.std.proofs.Common.{◌≡◌, ◌++◌, map, drop}
use Rattle.alt_value.specs.Stands.{tree_of, pair_of}
use Rattle.alt_value.proofs.+copy.Given as goal

abbrev pub invariant-attr::Item::copy-loop-entry : goal.invariant-attr::Item::copy-loop-entry
invariant-attr::Item::copy-loop-entry l = map pair_of l.entries.items
    ++ map pair_of (drop l.entry-index l.entry-items) ≡ l.self

abbrev pub invariant-copies::copy_of_list-loop-element :
    goal.invariant-copies::copy_of_list-loop-element
invariant-copies::copy_of_list-loop-element l =
    map tree_of l.elements.items ++ map tree_of (drop l.element-index l.element-items) ≡ l.list
