-- What was gathered is a set of members.
use Rattle.std.proofs.Common.{subst, arith}
use Rattle.std.specs.List.{AllByRecursion}
use Rattle.alt_value.proofs.Gathered.{is_rising-told}
use Rattle.alt_value.proofs.set.Set.from_members.Goals as goal

pub invariant_of-result : goal.invariant_of-result
invariant_of-result g c = (
  subst (AllByRecursion g.K.Member.IsMember) c.as_slice.ensures.value c.each_held.ensures,
  is_rising-told g.K.Ord.cmp g.met.K.Ord.total _ _ c.gather-risen.result c.if-risen.true
      c.gather-risen.ensures,
  omega (arith, c.as_slice.ensures.len, c.as_slice.type_inv),
)
