-- What was put out, and what both sets give from the places on.
use Rattle.std.proofs.Common.{◌+◌, ◌-◌, ◌≤◌, length}
use Rattle.alt_value.specs.Members.{with_members}
use Rattle.alt_value.proofs.Merged.{Gives}
use Rattle.alt_value.proofs.merge.merged.Given as goal

abbrev pub invariant-loop-i : goal.invariant-loop-i
invariant-loop-i g l = record {
  left : l.i ≤ length l.more;
  right : l.j ≤ length l.set;
  gives : Gives g.K.Ord.cmp g.met.K.Ord.total
      (with_members g.K.Ord.cmp) l.more l.set l.out.items l.i l.j;
}

abbrev pub decreases-loop-i : goal.decreases-loop-i
decreases-loop-i g l = (length l.more - l.i) + (length l.set - l.j)
