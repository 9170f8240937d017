-- None so far has many files.
use Rattle.std.proofs.Common.{take}
use Rattle.std.specs.List.{AllByRecursion}
use Rattle.alt_hand.specs.Merging.{HasMany}
use Rattle.alt_hand.proofs.hand.Hand.first_many.Given as goal

abbrev pub invariant-loop-family : goal.invariant-loop-family
invariant-loop-family l =
    AllByRecursion (λ family. HasMany l.self family → ⊥) (take l.family-index l.live)
