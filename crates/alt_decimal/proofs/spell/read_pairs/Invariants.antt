use Rattle.std.proofs.Common.{◌≡◌, ◌≤◌, ◌<◌, ◌*◌, ◌^◌, ℕ, take, get_or}
use Rattle.alt_decimal.specs.Unspelled.{raws, pairs_value_after, IsPair}
use Rattle.alt_decimal.proofs.spell.read_pairs.Given as goal

abbrev pub invariant-loop-i : goal.invariant-loop-i
invariant-loop-i l = record {
  value : l.c ≡ pairs_value_after 0 (take l.i (raws l.negative l.bytes));
  below : l.c < 10 ^ (2 * l.i);
  few : l.i ≤ 19;
  pairs : (k : ℕ) → k < l.i → IsPair (get_or (raws l.negative l.bytes) k 0);
}
