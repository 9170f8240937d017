-- The search finds the member, or the one place where it rises.
use Rattle.std.proofs.Common.{◌≡◌, refl, sym, ap, subst, ◌∙◌, not, T, false, arith}
use Rattle.std.specs.List.{insert, AllByRecursion}
use Rattle.alt_value.specs.Members.{is_rising, has_member, with_member}
use Rattle.alt_value.specs.Values.{AreMembers}
use Rattle.alt_value.proofs.Merged.{all-with_member}
use Rattle.alt_value.proofs.Places.{found, missed, is_rising-with_member}
use Rattle.alt_value.proofs.set.Set.put.Given as given
use Rattle.alt_value.proofs.set.Set.put.Goals as goal

new : (g : given.Over) (c : goal.After-len-count g)
    → (with_member g.K.Ord.cmp c.args.m c.args.self.now
    ≡ insert c.self.inside.members.items c.in-Err.place c.args.m)
    × (has_member g.K.Ord.cmp c.args.m c.args.self.now ≡ false)
new g c =
    missed g.K.Ord.cmp g.met.K.Ord.total _ _ _ _ _ _ refl c.deref.ensures.value c.self.view_is
    c.self.invariant.1 c.in-Err.ensures.bound c.in-Err.ensures.position

items : (g : given.Over) (c : goal.After-len-count g)
    → c.insert.new.self.items ≡ with_member g.K.Ord.cmp c.args.m c.args.self.now
items g c = c.in_ok-insert-in-Err.ensures.items ∙ sym (new g c).0

pub invariant_of-self-in-Err : goal.invariant_of-self-in-Err
invariant_of-self-in-Err g c =
    let set : AreMembers g.K.Member.IsMember g.K.Ord.cmp c.args.self.now =
    subst (AreMembers g.K.Member.IsMember g.K.Ord.cmp) c.self.view_is c.self.invariant in (
      subst (AllByRecursion g.K.Member.IsMember) (sym (items g c))
          (all-with_member g.K.Ord.cmp g.met.K.Ord.total g.K.Member.IsMember _ _
          c.member_held.ensures set.0),
      subst (λ l. T (is_rising g.K.Ord.cmp l)) (sym (items g c))
          (is_rising-with_member g.K.Ord.cmp g.met.K.Ord.total _ _ set.1),
      omega (arith, c.len-count.type_inv, c.len-count.ensures),
    )

pub returns-in-Ok-clause-fresh : goal.returns-in-Ok-clause-fresh
returns-in-Ok-clause-fresh g c =
    sym (ap not (found g.K.Ord.cmp g.met.K.Ord.total _ _ _ _ _ _ refl c.deref.ensures.value
    c.self.view_is c.self.invariant.1 c.in-Ok.ensures.bound c.in-Ok.ensures.ok).1)

pub returns-in-Ok-clause-ok : goal.returns-in-Ok-clause-ok
returns-in-Ok-clause-ok g c =
    sym (found g.K.Ord.cmp g.met.K.Ord.total _ _ _ _ _ _ refl c.deref.ensures.value c.self.view_is
    c.self.invariant.1 c.in-Ok.ensures.bound c.in-Ok.ensures.ok).0

pub returns-in_ok-insert-in-Err-clause-fresh : goal.returns-in_ok-insert-in-Err-clause-fresh
returns-in_ok-insert-in-Err-clause-fresh g c = sym (ap not (new g c).1)

pub returns-in_ok-insert-in-Err-clause-ok : goal.returns-in_ok-insert-in-Err-clause-ok
returns-in_ok-insert-in-Err-clause-ok g c = items g c
