use Rattle.std.proofs.Common.{◌≡◌, ◌++◌}
use Rattle.std.specs.BTreeSet.{keys}
use Rattle.alt_disk.proofs.stopped.keys_of.Given as goal

-- the numbers so far and those left are those of the set
abbrev pub invariant-loop-f : goal.invariant-loop-f
invariant-loop-f l = l.numbers.items ++ l.f-iterator ≡ keys l.fn.set
