use Rattle.std.proofs.Common.{take}
use Rattle.alt_condeval.specs.Settled.{EachAs}
use Rattle.alt_condeval.proofs.settling.+settled.Given as goal

-- Each so far holds of the same items.
abbrev pub invariant-settled_each-loop-member : goal.invariant-settled_each-loop-member
invariant-settled_each-loop-member l = EachAs (take l.member-index l.members) l.list
