-- The families of the indexes so far are behind those before.
use Rattle.std.proofs.Common.{◌≡◌, ◌++◌, take, map}
use Rattle.alt_tablerows.proofs.families.push_families.Given as goal

abbrev pub invariant-loop-index : goal.invariant-loop-index
invariant-loop-index l = l.families.items
    ≡ l.fn.families.items ++ map (λ i. i.family) (take l.index-index l.indexes)
