-- Both sets rise, and so does what they give.
use Rattle.std.proofs.Common.{sym, subst, arith}
use Rattle.alt_value.specs.Members.{IsSet}
use Rattle.alt_value.specs.Values.{AreMembers}
use Rattle.alt_value.proofs.Merged.{are-without_members}
use Rattle.alt_value.proofs.set.Set.without.Goals as goal

pub parted-requires : goal.parted-requires
parted-requires g c = (
  subst (IsSet g.K.Ord.cmp) (sym c.as_slice.ensures.same) c.as_slice.ensures.members.1,
  subst (IsSet g.K.Ord.cmp) (sym c.as_slice-2.ensures.same) c.as_slice-2.ensures.members.1,
)

pub invariant_of-result : goal.invariant_of-result
invariant_of-result g c =
    are-without_members g.K.Ord.cmp g.met.K.Ord.total g.K.Member.IsMember c.as_slice.result.now
    c.as_slice-2.result.now c.in_ok-members.members.items c.in_ok-members.ensures
    (subst (AreMembers g.K.Member.IsMember g.K.Ord.cmp)
    (sym c.as_slice-2.ensures.same) c.as_slice-2.ensures.members)
    (omega (arith, c.len-count.type_inv, c.len-count.ensures))
