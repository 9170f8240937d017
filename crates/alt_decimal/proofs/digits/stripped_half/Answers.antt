use Rattle.std.proofs.Common.{◌≡◌, ◌<◌, ◌*◌, ◌/◌, ◌+◌, ◌^◌, ◌∙◌, arith}
use Rattle.alt_decimal.proofs.Widths.{zeros-lt, mul-ten_less}
use Rattle.alt_decimal.proofs.digits.stripped_half.Goals as goal

pub loop-c-preserved : goal.loop-c-preserved
loop-c-preserved c =
    let n = c.loop-c.c in
    let z = c.loop-c.zeros in
    let above : 0 < n / 10 = omega (arith, c.loop-c.invariant.above) in
    let value : c.args.n ≡ n / 10 * 10 ^ (z + 1) =
    c.loop-c.invariant.value ∙ mul-ten_less n z c.loop-c-test.true in
    record {
      value = value;
      above = above;
      few = zeros-lt (n / 10) (z + 1) 19 above (rw (← value) c.requires.few);
    }
