-- None of all has many files.
use Rattle.std.proofs.Common.{length, subst, sym}
use Rattle.std.specs.List.{AllByRecursion}
use Rattle.std.specs.Ordering.{is_eq, nat_cmp}
use Rattle.alt_families.specs.declared.family.Family.{Family}
use Rattle.alt_hand.specs.Merging.{AreMany}
use Rattle.alt_hand.proofs.ManyLaws.{found_few}
use Rattle.alt_hand.proofs.hand.Hand.any_many.Goals as goal

pub returns : goal.returns
returns c none family =
    let merge = c.args.self.now.limits.merge in
    found_few (λ k. is_eq (nat_cmp family k)) c.args.self.now.families.entries merge
    (c.loop-family.invariant
    (subst (AllByRecursion (λ (f : Family). AreMany merge (length f.files.items) → ⊥))
    (sym c.in-None.ensures.steps.0) tt))
