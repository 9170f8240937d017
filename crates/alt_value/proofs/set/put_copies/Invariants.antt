-- Behind what stood there, copies of those so far.
use Rattle.std.proofs.Common.{◌≡◌, ◌++◌, take}
use Rattle.alt_value.proofs.set.put_copies.Given as goal

abbrev pub invariant-loop-member : goal.invariant-loop-member
invariant-loop-member g l = l.out.items ≡ l.initial.out.items ++ take l.member-index l.members
