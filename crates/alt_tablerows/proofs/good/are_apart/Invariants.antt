-- No family stands twice where none does from here on.
use Rattle.std.proofs.Common.{◌≡◌, drop}
use Rattle.alt_tablerows.specs.private.Tests.{are_apart}
use Rattle.alt_tablerows.proofs.good.are_apart.Given as goal

abbrev pub invariant-loop-i : goal.invariant-loop-i
invariant-loop-i l = are_apart l.families ≡ are_apart (drop l.i l.families)
