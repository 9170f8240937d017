use Rattle.std.proofs.Common.{◌<◌, ◌∙◌, ◌+◌, ap, sym, arith, ℕ, length}
use Rattle.std.specs.Str.Parse.{digits_value}
use Rattle.alt_decimal.specs.Number.{fitted}
use Rattle.alt_decimal.proofs.Fitting.{number}
use Rattle.alt_decimal.proofs.Coefficients.{number_many, number_none, number_below, number_above}
use Rattle.alt_decimal.proofs.read.number.Goals as goal

pub returns-in-None : goal.returns-in-None
returns-in-None c = sym (number_many c.args.negative _ _ _ c.in-None.ensures)

pub returns-then-c-eq0 : goal.returns-then-c-eq0
returns-then-c-eq0 c = sym (number_none c.args.negative _ _ _ c.in-Some.ensures _ _ c.if-c-eq0.true)

pub returns-then-below : goal.returns-then-below
returns-then-below c =
    let places = length c.args.fraction.now in
    let above : 0 < c.in-Some.c.0 = omega (arith, c.if-c-eq0.false) in
    rw c.if-below.true
    (c.fit.ensures ∙ ap (λ (tens : ℕ). fitted
    (number c.args.negative c.in-Some.c.0 c.in-Some.c.1 (tens + places)))
    c.exponent_value-tens.ensures
    ∙ number_below c.args.negative _ _ _ c.in-Some.ensures
    (digits_value 10 c.args.exponent.now) places (omega arith) above)

pub returns-else-below : goal.returns-else-below
returns-else-below c =
    let places = length c.args.fraction.now in
    let above : 0 < c.in-Some.c.0 = omega (arith, c.if-c-eq0.false) in
    rw c.if-below.false
    (c.fit-else-below.ensures ∙ ap (λ (tens : ℕ). fitted
    (number c.args.negative c.in-Some.c.0 (c.in-Some.c.1 + tens) places))
    c.exponent_value-tens.ensures
    ∙ number_above c.args.negative _ _ _ c.in-Some.ensures
    (digits_value 10 c.args.exponent.now) places (omega arith) above)
