use Rattle.std.proofs.Common.{◌≡◌, ◌*◌, ◌^◌, ◌<◌}
use Rattle.alt_decimal.proofs.digits.stripped_half.Given as goal

abbrev pub invariant-loop-c : goal.invariant-loop-c
invariant-loop-c l = record {
  value : l.n ≡ l.c * 10 ^ l.zeros;
  above : 0 < l.c;
  few : l.zeros < 19;
}

abbrev pub decreases-loop-c : goal.decreases-loop-c
decreases-loop-c l = l.c
