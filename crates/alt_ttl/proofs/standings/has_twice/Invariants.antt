-- One stands twice where one does from here on.
use Rattle.std.proofs.Common.{◌≡◌, drop}
use Rattle.alt_ttl.specs.private.Searched.{has_twice}
use Rattle.alt_ttl.proofs.standings.has_twice.Given as goal

abbrev pub invariant-loop-i : goal.invariant-loop-i
invariant-loop-i l = has_twice l.standings ≡ has_twice (drop l.i l.standings)
