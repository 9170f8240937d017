-- With the other families these are all.
use Rattle.std.proofs.Common.{◌≡◌, drop}
use Rattle.alt_opening.specs.Live.{with_all}
use Rattle.alt_opening.proofs.live.with_all.Given as goal

abbrev pub invariant-loop-i : goal.invariant-loop-i
invariant-loop-i l =
    with_all (drop l.i l.families) l.all.items ≡ with_all l.families l.fn.live
