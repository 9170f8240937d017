use Rattle.std.proofs.Common.{◌≤◌, ◌^◌, ◌%◌, ◌<◌, ℕ, sym, ◌∙◌, ap, arith, Ok}
use Rattle.alt_decimal.specs.Number.{with_sign}
use Rattle.alt_decimal.specs.Digits.{digit_count}
use Rattle.alt_decimal.proofs.Widths.{width-le, width-pos}
use Rattle.alt_decimal.proofs.Magnitudes.{IsNormal-from, digit_count-trimmed}
use Rattle.alt_decimal.proofs.Fitting.{fitted-large, fitted-small, fitted-ok, ok_units}
use Rattle.alt_decimal.proofs.sum.fit.Goals as goal

few : (c : ℕ) → c < 10 ^ 38 → 0 < c % 10 → digit_count c ≤ 38
few c small last = omega (arith, digit_count-trimmed c last, width-le 38 c small)

pub overflow_sub-result : goal.overflow_sub-result
overflow_sub-result c = omega (arith, width-le 38 c.args.c c.requires.few, c.width.ensures.digits)

pub invariant_of-result : goal.invariant_of-result
invariant_of-result c =
    IsNormal-from c.args.negative c.args.c _ c.requires.few c.requires.last
    (omega (arith, c.width.ensures.digits))
    (omega (arith, c.width.ensures.digits, width-pos c.args.c (omega (arith, c.requires.last))))

pub returns-then-first-down : goal.returns-then-first-down
returns-then-first-down c =
    sym (fitted-large c.args.negative c.args.c c.args.up c.args.down
    (omega (arith, c.requires.last))
    (few c.args.c c.requires.few c.requires.last) (omega (arith, c.width.ensures.digits)))

pub returns-then-first-down-2 : goal.returns-then-first-down-2
returns-then-first-down-2 c =
    sym (fitted-small c.args.negative c.args.c c.args.up c.args.down
    (omega (arith, c.requires.last))
    (few c.args.c c.requires.few c.requires.last) (omega (arith, c.width.ensures.digits))
    (omega (arith, c.width.ensures.digits)))

pub returns-else-first-down-2 : goal.returns-else-first-down-2
returns-else-first-down-2 c =
    let n = c.args.c in
    ap (λ (u : ℕ). Ok (with_sign c.args.negative u))
    (ok_units n c.args.up c.args.down (omega
    (arith, width-le 38 n c.requires.few, c.width.ensures.digits)))
    ∙ sym (fitted-ok c.args.negative n c.args.up c.args.down (omega (arith, c.requires.last))
    (few n c.requires.few c.requires.last) (omega (arith, c.width.ensures.digits))
    (omega (arith, c.width.ensures.digits)))
