use Rattle.std.proofs.Common.{◌^◌, ◌∙◌, sym, ap}
use Rattle.alt_decimal.specs.Number.{fitted_units}
use Rattle.alt_decimal.proofs.Totals.{many_widened, many_sum, sum_at-widened}
use Rattle.alt_decimal.proofs.sum.total.Goals as goal

pub returns-in-None : goal.returns-in-None
returns-in-None c =
    sym (many_widened c.args.a_negative c.args.a c.args.shift c.args.b_negative c.args.b
    c.args.zeros
    c.requires.few_a c.requires.few_b c.requires.last_b c.in-None.ensures)

pub returns-in-None-signed_sum : goal.returns-in-None-signed_sum
returns-in-None-signed_sum c =
    let none = c.in-None-signed_sum.ensures in
    sym (many_sum c.args.a_negative c.args.a c.args.shift c.args.b_negative c.args.b c.args.zeros
    c.requires.few_a c.requires.few_b c.requires.last_b none.0 (rw (← c.in-Some.ensures) none.1))

pub returns-in-Some-signed_sum : goal.returns-in-Some-signed_sum
returns-in-Some-signed_sum c =
    c.fit_units.ensures
    ∙ ap fitted_units (sym (sum_at-widened c.args.a_negative c.args.a c.args.shift c.args.b_negative
    c.args.b c.args.zeros c.in-Some.x c.in-Some.ensures
    ∙ c.in-Some-signed_sum.ensures (10 ^ c.args.zeros)))
