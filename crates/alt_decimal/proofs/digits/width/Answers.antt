use Rattle.std.proofs.Common.{sym, ◌∙◌, ap, arith}
use Rattle.alt_decimal.specs.Digits.{width as width_of}
use Rattle.alt_decimal.proofs.Widths.{width_is, width-zero}
use Rattle.alt_decimal.proofs.digits.width.Goals as goal

pub returns-then-n-eq0 : goal.returns-then-n-eq0
returns-then-n-eq0 c = record {
  digits = sym (ap width_of c.if-n-eq0.true ∙ width-zero);
  bound =
      omega arith;
}

pub returns-else-n-eq0 : goal.returns-else-n-eq0
returns-else-n-eq0 c = record {
  digits = sym (width_is _ _ c.ilog10.ensures.power_le
      c.ilog10.ensures.next_power_gt);
  bound = omega arith;
}
