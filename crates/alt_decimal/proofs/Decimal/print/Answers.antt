use Rattle.std.proofs.Common.{◌≡◌, ◌<◌, ◌≤◌, ◌+◌, ◌*◌, ◌-◌, ◌^◌, ◌++◌, ℕ, List, length, take, refl, ap, sym, ◌∙◌, arith, length-append, length-take}
use Rattle.std.specs.Prelude.{ℤ}
use Rattle.alt_decimal.specs.declared.Decimal.TheInside.{Inside}
use Rattle.alt_decimal.specs.Form.{units_of, IsNormal}
use Rattle.std.specs.Fmt.{sign_text as minus_if}
use Rattle.alt_decimal.specs.Digits.{width, padded, glyphs}
use Rattle.alt_decimal.specs.Layout.{magnitude_text}
use Rattle.alt_decimal.specs.Printed.{printed}
use Rattle.alt_decimal.proofs.Printing.{printed-units_of, printed-zero, front_digits, digits_text}
use Rattle.alt_decimal.proofs.Denoting.{reads_units, reads_zero}
use Rattle.alt_decimal.proofs.Padded.{length-glyphs, length-padded}
use Rattle.alt_decimal.proofs.Magnitudes.{units_of-zero}
use Rattle.alt_decimal.proofs.Widths.{width-le, width-pos, mul-lt, mul-width_gt, mul-width_le}
use Rattle.alt_decimal.proofs.Decimal.print.Goals as goal

pub overflow_sub-count : goal.overflow_sub-count
overflow_sub-count c = omega (
  arith,
  width-le 38 c.self.inside.coefficient c.self.invariant.digits,
  c.width-count.ensures.digits,
)

pub filled-requires : goal.filled-requires
filled-requires c = omega (
  arith,
  width-le 38 c.self.inside.coefficient c.self.invariant.digits,
  c.width-count.ensures.digits,
)

pub spread-digits-requires-clause-few : goal.spread-digits-requires-clause-few
spread-digits-requires-clause-few c =
    let k = 38 - c.width-count.result in
    let few : width c.self.inside.coefficient + k ≤ 38 =
    omega (
      arith,
      width-le 38 c.self.inside.coefficient c.self.invariant.digits,
      c.width-count.ensures.digits,
    ) in
    rw c.filled.ensures (mul-lt c.self.inside.coefficient k 38 few)

spread_length : (ds : List ℕ) (n : ℕ) → ds ≡ glyphs 48 (padded 38 n) → length ds ≡ 38
spread_length ds n e = ap length e ∙ length-glyphs 48 (padded 38 n) ∙ length-padded 38 n

front_is : (c w f : ℕ) (ds : List ℕ) → w ≡ width c → w ≤ 38 → f ≡ c * 10 ^ (38 - w)
    → ds ≡ glyphs 48 (padded 38 f) → take w ds ≡ digits_text c
front_is c w f ds e few filled is = rw (is, filled) (front_digits c w e few)

pub slice_bounds-digits-end : goal.slice_bounds-digits-end
slice_bounds-digits-end c =
    omega (
      arith,
      spread_length c.spread-digits.result _ c.spread-digits.ensures,
      width-le 38 c.self.inside.coefficient c.self.invariant.digits,
      c.width-count.ensures.digits,
    )

pub slice_bounds-put_magnitude-end-2 : goal.slice_bounds-put_magnitude-end-2
slice_bounds-put_magnitude-end-2 c =
    omega (
      arith,
      length-take c.width-count.result c.spread-digits.result,
      spread_length c.spread-digits.result _ c.spread-digits.ensures,
      width-le 38 c.self.inside.coefficient c.self.invariant.digits,
      c.width-count.ensures.digits,
    )

pub put_magnitude-requires-clause-some : goal.put_magnitude-requires-clause-some
put_magnitude-requires-clause-some c =
    omega (
      arith,
      length-take c.width-count.result c.spread-digits.result,
      spread_length c.spread-digits.result _ c.spread-digits.ensures,
      width-pos c.self.inside.coefficient (omega arith),
      c.width-count.ensures.digits,
    )

pub put_magnitude-requires-clause-least : goal.put_magnitude-requires-clause-least
put_magnitude-requires-clause-least c =
    let above : 0 < c.self.inside.coefficient = omega arith in
    omega (
      arith,
      length-take c.width-count.result c.spread-digits.result,
      spread_length c.spread-digits.result _ c.spread-digits.ensures,
      width-le 38 c.self.inside.coefficient c.self.invariant.digits,
      c.width-count.ensures.digits,
      mul-width_gt c.self.inside.coefficient c.self.inside.zeros 37 (c.self.invariant.least above),
    )

pub put_magnitude-requires-clause-below : goal.put_magnitude-requires-clause-below
put_magnitude-requires-clause-below c =
    let above : 0 < c.self.inside.coefficient = omega arith in
    omega (
      arith,
      length-take c.width-count.result c.spread-digits.result,
      spread_length c.spread-digits.result _ c.spread-digits.ensures,
      width-le 38 c.self.inside.coefficient c.self.invariant.digits,
      c.width-count.ensures.digits,
      mul-width_le c.self.inside.coefficient c.self.inside.zeros 293 above c.self.invariant.below,
    )

-- what was written, piece by piece
pieces : (d : Inside) (z : ℤ) (n : IsNormal d) (front digits : List ℕ) → units_of d ≡ z
    → 0 < d.coefficient → front ≡ minus_if d.negative → digits ≡ digits_text d.coefficient
    → front ++ magnitude_text digits d.zeros ≡ printed z
pieces d z n front digits view above e1 e2 = rw (e1, e2, ← view) (sym (printed-units_of d n above))

pub returns-clause-text : goal.returns-clause-text
returns-clause-text c =
    let above : 0 < c.self.inside.coefficient = omega arith in
    let few : c.width-count.result ≤ 38 = omega (
      arith,
      width-le 38 c.self.inside.coefficient c.self.invariant.digits,
      c.width-count.ensures.digits,
    ) in
    let digits = front_is c.self.inside.coefficient c.width-count.result c.filled.result
    c.spread-digits.result
    c.width-count.ensures.digits few c.filled.ensures c.spread-digits.ensures in
    c.put_magnitude.ensures.text ∙ pieces c.self.inside c.args.self.now c.self.invariant _ _
    c.self.view_is above c.put_sign-at.ensures.text digits

pub returns-clause-length : goal.returns-clause-length
returns-clause-length c =
    let above : 0 < c.self.inside.coefficient = omega arith in
    let few : c.width-count.result ≤ 38 = omega (
      arith,
      width-le 38 c.self.inside.coefficient c.self.invariant.digits,
      c.width-count.ensures.digits,
    ) in
    let digits = front_is c.self.inside.coefficient c.width-count.result c.filled.result
    c.spread-digits.result
    c.width-count.ensures.digits few c.filled.ensures c.spread-digits.ensures in
    let front = take c.width-count.result c.spread-digits.result in
    let whole : minus_if c.self.inside.negative ++ magnitude_text front c.self.inside.zeros
    ≡ printed c.args.self.now =
    pieces c.self.inside c.args.self.now c.self.invariant
    (minus_if c.self.inside.negative) front c.self.view_is above refl digits in
    omega (
      arith,
      c.put_magnitude.ensures.end,
      c.put_sign-at.ensures.end,
      ap length whole,
      length-append (minus_if c.self.inside.negative) (magnitude_text front c.self.inside.zeros),
    )

pub returns-then-self-eq0-clause-length : goal.returns-then-self-eq0-clause-length
returns-then-self-eq0-clause-length c =
    c.put.ensures.end ∙ sym (ap length (ap printed
    (sym c.self.view_is ∙ units_of-zero c.self.inside c.self.invariant c.if-self-eq0.true)
    ∙ printed-zero))

pub returns-then-self-eq0-clause-text : goal.returns-then-self-eq0-clause-text
returns-then-self-eq0-clause-text c =
    c.put.ensures.text ∙ sym (ap printed (sym c.self.view_is
    ∙ units_of-zero c.self.inside c.self.invariant c.if-self-eq0.true) ∙ printed-zero)

pub returns-clause-denotes : goal.returns-clause-denotes
returns-clause-denotes c = rw (← c.self.view_is)
    (reads_units c.self.inside c.self.invariant (omega arith))

pub returns-then-self-eq0-clause-denotes : goal.returns-then-self-eq0-clause-denotes
returns-then-self-eq0-clause-denotes c =
    rw (← c.self.view_is, units_of-zero c.self.inside c.self.invariant c.if-self-eq0.true)
    reads_zero
