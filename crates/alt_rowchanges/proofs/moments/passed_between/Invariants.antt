-- The number is between the two moments.
use Rattle.std.proofs.Common.{◌≡◌, ◌<◌, ◌-◌, true, false}
use Rattle.alt_rowchanges.proofs.MomentLaws.{is_passed}
use Rattle.alt_rowchanges.proofs.moments.passed_between.Given as goal

abbrev pub invariant-loop-high : goal.invariant-loop-high
invariant-loop-high l = record {
  low : is_passed l.time l.low ≡ false;
  high : is_passed l.time l.high ≡ true;
  rise : l.low < l.high;
}

abbrev pub decreases-loop-high : goal.decreases-loop-high
decreases-loop-high l = l.high - l.low
