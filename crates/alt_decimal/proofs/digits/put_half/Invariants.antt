use Rattle.std.proofs.Common.{◌≡◌, ◌≤◌, ◌-◌, ◌/◌, ◌^◌, length, drop}
use Rattle.alt_decimal.specs.Digits.{padded, glyphs}
use Rattle.alt_decimal.proofs.digits.put_half.Given as goal

abbrev pub invariant-loop-at : goal.invariant-loop-at
invariant-loop-at l = record {
  written : drop l.at l.out ≡ glyphs l.zero (padded (length l.out - l.at) l.n);
  left : l.rest ≡ l.n / 10 ^ (length l.out - l.at);
  within : l.at ≤ length l.out;
}

abbrev pub decreases-loop-at : goal.decreases-loop-at
decreases-loop-at l = l.at
