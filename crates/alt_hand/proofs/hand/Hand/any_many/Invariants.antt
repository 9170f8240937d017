-- None has many where none of those to come has.
use Rattle.std.proofs.Common.{length}
use Rattle.std.specs.BTreeMap.{values}
use Rattle.std.specs.List.{AllByRecursion}
use Rattle.alt_families.specs.declared.family.Family.{Family}
use Rattle.alt_hand.specs.Merging.{AreMany}
use Rattle.alt_hand.proofs.hand.Hand.any_many.Given as goal

abbrev pub invariant-loop-family : goal.invariant-loop-family
invariant-loop-family l =
    AllByRecursion (λ (f : Family). AreMany l.self.limits.merge (length f.files.items) → ⊥)
    l.family-iterator
    → AllByRecursion (λ (f : Family). AreMany l.self.limits.merge (length f.files.items) → ⊥)
    (values l.self.families)
