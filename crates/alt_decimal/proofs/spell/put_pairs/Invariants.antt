use Rattle.std.proofs.Common.{◌≡◌, ◌≤◌, ◌-◌, ◌*◌, length, take}
use Rattle.alt_decimal.specs.Spelled.{digit_pairs}
use Rattle.alt_decimal.proofs.spell.put_pairs.Given as goal

abbrev pub invariant-loop-i : goal.invariant-loop-i
invariant-loop-i l = record {
  written : take l.i l.out ≡ digit_pairs (take (2 * l.i) l.digits);
  within : l.i ≤ length l.out;
}

abbrev pub decreases-loop-i : goal.decreases-loop-i
decreases-loop-i l = length l.initial.out - l.i
