use Rattle.std.proofs.Common.{◌+◌, ℕ, ◌∙◌, sym, ap}
use Rattle.alt_decimal.specs.Number.{with_sign, fitted_units}
use Rattle.alt_decimal.proofs.Widths.{mul-zeros}
use Rattle.alt_decimal.proofs.Fitting.{fitted_units-mul}
use Rattle.alt_decimal.proofs.sum.fit_short.Goals as goal

pub returns : goal.returns
returns c =
    let part = c.stripped-c in
    c.fit.ensures ∙ sym (fitted_units-mul c.args.negative part.result.0
    (part.result.1 + c.args.zeros) part.ensures.last)
    ∙ ap (λ (m : ℕ). fitted_units (with_sign c.args.negative m))
    (sym (mul-zeros c.args.n part.result.0 part.result.1 c.args.zeros part.ensures.value))
