use Rattle.std.proofs.Common.{◌<◌, ◌≤◌, ◌%◌, ◌^◌, ℕ, ◌∙◌, sym, ap, arith}
use Rattle.alt_decimal.specs.Number.{with_sign, fitted_units}
use Rattle.alt_decimal.proofs.Widths.{mul-ten_less}
use Rattle.alt_decimal.proofs.Fitting.{fitted_units-many, fitted_units-none}
use Rattle.alt_decimal.proofs.sum.fit_units.Goals as goal

pub returns-then-n-eq0 : goal.returns-then-n-eq0
returns-then-n-eq0 c = sym (fitted_units-none c.args.negative c.args.n
    (10 ^ c.args.zeros) c.if-n-eq0.true)

pub returns-then-n-eq0-2 : goal.returns-then-n-eq0-2
returns-then-n-eq0-2 c =
    c.fit_short-then-n-eq0-2.ensures
    ∙ ap (λ (m : ℕ). fitted_units (with_sign c.args.negative m))
    (sym (mul-ten_less c.args.n c.args.zeros c.if-n-eq0-2.true))

pub returns-else-n-eq0-2 : goal.returns-else-n-eq0-2
returns-else-n-eq0-2 c =
    let long : 10 ^ 38 ≤ c.args.n = c.if-n-lt-ROOM.false in
    let last : 0 < c.args.n % 10 = omega (arith, c.if-n-eq0-2.false) in
    sym (fitted_units-many c.args.negative c.args.n c.args.zeros long last)
