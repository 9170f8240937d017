use Rattle.std.proofs.Common.{◌≡◌, sym}
use Rattle.std.specs.Prelude.{pos, ◌+ℤ◌, Ok}
use Rattle.alt_decimal.specs.declared.Decimal.TheInside.{Inside}
use Rattle.alt_decimal.specs.Form.{units_of, IsNormal}
use Rattle.alt_decimal.specs.Number.{fitted_units}
use Rattle.alt_decimal.proofs.Magnitudes.{units_of-zero, Fits-units_of}
use Rattle.alt_decimal.proofs.Signs.{zero_plus, plus_zero}
use Rattle.alt_decimal.proofs.Fitting.{fitted_units-Fits}
use Rattle.alt_decimal.proofs.Decimal.add.Goals as goal

zero_sum : (d : Inside) → IsNormal d → fitted_units (pos 0 +ℤ units_of d) ≡ Ok (units_of d)
zero_sum d n = rw (zero_plus (units_of d)) (fitted_units-Fits (units_of d) (Fits-units_of d n))

sum_zero : (d : Inside) → IsNormal d → fitted_units (units_of d +ℤ pos 0) ≡ Ok (units_of d)
sum_zero d n = rw (plus_zero (units_of d)) (fitted_units-Fits (units_of d) (Fits-units_of d n))

pub returns-then-self-eq0 : goal.returns-then-self-eq0
returns-then-self-eq0 c =
    rw (
      ← c.self.view_is,
      ← c.other.view_is,
      units_of-zero c.self.inside c.self.invariant
          c.if-self-eq0.true,
    )
    (sym (zero_sum c.other.inside c.other.invariant))

pub returns-then-other-eq0 : goal.returns-then-other-eq0
returns-then-other-eq0 c =
    rw (
      ← c.self.view_is,
      ← c.other.view_is,
      units_of-zero c.other.inside c.other.invariant
          c.if-other-eq0.true,
    )
    (sym (sum_zero c.self.inside c.self.invariant))
