use Rattle.std.proofs.Common.{◌∙◌, sym, refl, arith, ◌<◌}
use Rattle.alt_decimal.specs.Digits.{digit_count}
use Rattle.alt_decimal.proofs.Widths.{width-le}
use Rattle.alt_decimal.proofs.Magnitudes.{units_of-zero, digit_count-units_of, Fits-units_of}
use Rattle.alt_decimal.proofs.Decimal.digits.Goals as goal

pub returns-then-self-eq0-clause-count : goal.returns-then-self-eq0-clause-count
unfolding digit_count
returns-then-self-eq0-clause-count c =
    rw (← c.self.view_is, units_of-zero c.self.inside c.self.invariant c.if-self-eq0.true) refl

pub returns-else-self-eq0-clause-count : goal.returns-else-self-eq0-clause-count
returns-else-self-eq0-clause-count c =
    let above : 0 < c.self.inside.coefficient = omega arith in
    rw (← c.self.view_is) (c.width.ensures.digits
    ∙ sym (digit_count-units_of c.self.inside c.self.invariant above))

pub returns-else-self-eq0-clause-few : goal.returns-else-self-eq0-clause-few
returns-else-self-eq0-clause-few c =
    omega (
      arith,
      width-le 38 c.self.inside.coefficient c.self.invariant.digits,
      c.width.ensures.digits,
    )

pub returns-else-self-eq0-clause-fits : goal.returns-else-self-eq0-clause-fits
returns-else-self-eq0-clause-fits c = rw (← c.self.view_is)
    (Fits-units_of c.self.inside c.self.invariant)
