-- Those so far, and what is made of the others.
use Rattle.std.proofs.Common.{◌≡◌, ◌++◌, drop}
use Rattle.alt_opening.specs.Live.{with_one}
use Rattle.alt_opening.proofs.live.with_one.Given as goal

abbrev pub invariant-loop-i : goal.invariant-loop-i
invariant-loop-i l =
    l.out.items ++ with_one l.family (drop l.i l.live) ≡ with_one l.family l.live
