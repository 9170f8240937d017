use Rattle.std.proofs.Common.{◌≡◌, ◌*◌, ◌^◌, ◌<◌, ◌+◌, ap, ◌∙◌, sym, arith, pos}
use Rattle.std.proofs.Math.Nat.{mul_assoc}
use Rattle.std.proofs.lemmas.Nat.{pow-add}
use Rattle.alt_decimal.proofs.Widths.{width-le, width-pos}
use Rattle.alt_decimal.specs.Digits.{width}
use Rattle.alt_decimal.proofs.Magnitudes.{IsNormal-from}
use Rattle.alt_decimal.proofs.Decimal.from_count.Goals as goal

pub invariant_of-result-2 : goal.invariant_of-result-2
invariant_of-result-2 c =
    let s = c.stripped-coefficient in
    let low : s.result.0 < 10 ^ 38 = grind (arith, s.ensures.value) in
    let some : 0 < s.result.0 = omega (arith, s.ensures.last) in
    IsNormal-from _ s.result.0 (s.result.1 + 167) low s.ensures.last
    (omega (arith, width-pos s.result.0 some))
    (omega (arith, width-le 38 s.result.0 low, s.ensures.bound))

pub returns : goal.returns
returns c =
    let s = c.stripped-coefficient in
    let split : s.result.0 * 10 ^ (s.result.1 + 167) ≡ s.result.0 * 10 ^ s.result.1 * 10 ^ 167 =
    ap (λ p. s.result.0 * p) (pow-add 10 s.result.1 167)
    ∙ sym (mul_assoc s.result.0 (10 ^ s.result.1) (10 ^ 167)) in
    record { units = ap pos (split ∙ ap (λ n. n * 10 ^ 167) (sym s.ensures.value)) }
