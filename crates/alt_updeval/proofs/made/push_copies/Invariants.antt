use Rattle.std.proofs.Common.{◌≡◌, ◌++◌, take}
use Rattle.alt_updeval.proofs.made.push_copies.Given as goal

abbrev pub invariant-loop-i : goal.invariant-loop-i
invariant-loop-i l = l.list ≡ l.fn.list ++ take l.i l.more
