-- The indexes so far, and those to come.
use Rattle.std.proofs.Common.{◌≡◌, ◌++◌, ◌+◌, drop}
use Rattle.alt_schema.specs.Described.{indexes_from}
use Rattle.alt_schema.proofs.described.indexes_from.Given as goal

abbrev pub invariant-loop-i : goal.invariant-loop-i
invariant-loop-i l = l.list ++ indexes_from l.definitions (l.family + l.i) (drop l.i l.indexes)
    ≡ indexes_from l.definitions l.family l.indexes
