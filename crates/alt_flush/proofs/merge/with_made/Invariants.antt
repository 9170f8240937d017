-- The families so far, and what is made of the others.
use Rattle.std.proofs.Common.{◌≡◌, ◌++◌, ◌∷◌, [], drop}
use Rattle.alt_layout.specs.Merged.{with_made}
use Rattle.alt_flush.proofs.merge.with_made.Given as goal

abbrev pub invariant-loop-i : goal.invariant-loop-i
invariant-loop-i l =
    l.out ++ with_made l.family l.taken (l.made ∷ []) (drop l.i l.families)
    ≡ with_made l.family l.taken (l.made ∷ []) l.families
