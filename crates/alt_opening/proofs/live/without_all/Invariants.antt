-- Those so far, and what is made of the others.
use Rattle.std.proofs.Common.{◌≡◌, ◌++◌, drop}
use Rattle.alt_opening.specs.Live.{without_all}
use Rattle.alt_opening.proofs.live.without_all.Given as goal

abbrev pub invariant-loop-i : goal.invariant-loop-i
invariant-loop-i l =
    l.out.items ++ without_all l.families (drop l.i l.live) ≡ without_all l.families l.live
