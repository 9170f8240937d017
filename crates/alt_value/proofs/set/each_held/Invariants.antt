-- Each so far is a member.
use Rattle.std.proofs.Common.{take}
use Rattle.std.specs.List.{AllByRecursion}
use Rattle.alt_value.proofs.set.each_held.Given as goal

abbrev pub invariant-loop-member : goal.invariant-loop-member
invariant-loop-member g l = AllByRecursion g.K.Member.IsMember (take l.member-index l.members)
