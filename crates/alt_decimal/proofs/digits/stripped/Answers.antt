use Rattle.std.proofs.Common.{◌≡◌, ◌+◌, ◌*◌, ◌/◌, ◌%◌, ◌^◌, ◌∙◌, arith}
use Rattle.alt_decimal.proofs.Halves.{strip_low, strip_high, last_high}
use Rattle.alt_decimal.proofs.digits.stripped.Goals as goal

pub returns-then-low-eq0-clause-value : goal.returns-then-low-eq0-clause-value
returns-then-low-eq0-clause-value c =
    let split : c.args.n ≡ c.args.n / 10 ^ 19 * 10 ^ 19 = omega (arith, c.if-low-eq0.true) in
    split ∙ strip_low _ _ _ c.stripped_half-c.ensures.value

pub returns-else-low-eq0-clause-value : goal.returns-else-low-eq0-clause-value
returns-else-low-eq0-clause-value c =
    let half = c.stripped_half-c-else-low-eq0 in
    let split : c.args.n ≡ c.args.n / 10 ^ 19 * 10 ^ 19 + c.args.n % 10 ^ 19 = omega arith in
    rw c.power.ensures (split ∙ strip_high _ _ _ _ half.ensures.value half.ensures.bound)

pub returns-else-low-eq0-clause-last : goal.returns-else-low-eq0-clause-last
returns-else-low-eq0-clause-last c =
    let half = c.stripped_half-c-else-low-eq0 in
    rw c.power.ensures (last_high (c.args.n / 10 ^ 19) half.result.0 half.result.1 half.ensures.last
    half.ensures.bound)
