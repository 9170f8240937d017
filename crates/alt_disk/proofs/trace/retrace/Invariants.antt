use Rattle.std.proofs.Common.{◌≡◌, drop}
use Rattle.alt_disk.specs.Memory.{replay, calls_until, at_moment}
use Rattle.alt_disk.specs.Trace.{track_of}
use Rattle.alt_disk.proofs.trace.retrace.Given as goal

-- what is found so far goes on to what is found in all
abbrev pub invariant-loop-made : goal.invariant-loop-made
invariant-loop-made l = replay l.f (track_of l.found) (calls_until l.moment (drop l.made-index l.calls))
    ≡ at_moment l.moment l.f l.calls
