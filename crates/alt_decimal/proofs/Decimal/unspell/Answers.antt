use Rattle.std.proofs.Common.{true, false, inl, inr, arith}
use Rattle.alt_decimal.proofs.ReadBack.{every_signed, every_zero, first_bytes, zero_bytes}
use Rattle.alt_decimal.proofs.Decimal.unspell.Goals as goal

pub returns-in-empty-clause-every : goal.returns-in-empty-clause-every
returns-in-empty-clause-every c = λ z rest fits is. let one =
    first_bytes c.args.bytes.now rest z fits is in absurd (omega (arith, one.0))

pub returns-then-first-eq-AT_ZERO-clause-spelling :
    goal.returns-then-first-eq-AT_ZERO-clause-spelling
returns-then-first-eq-AT_ZERO-clause-spelling c =
    zero_bytes c.args.bytes.now c.zero.result c.in-len1-up.len_at_least c.if-first-eq-AT_ZERO.true
    c.zero.ensures

pub returns-then-first-eq-AT_ZERO-clause-every : goal.returns-then-first-eq-AT_ZERO-clause-every
returns-then-first-eq-AT_ZERO-clause-every c = λ z rest fits is.
    every_zero c.args.bytes.now rest z c.zero.result c.in-len1-up.len_at_least
    c.if-first-eq-AT_ZERO.true fits is c.zero.ensures

pub returns-then-first-eq-BELOW_ZERO-clause-every :
    goal.returns-then-first-eq-BELOW_ZERO-clause-every
returns-then-first-eq-BELOW_ZERO-clause-every c = λ z rest fits is.
    every_signed true c.args.bytes.now rest z c.read_magnitude.result c.in-len1-up.len_at_least
    c.if-first-eq-BELOW_ZERO.true fits is
    c.read_magnitude.ensures.every

pub returns-then-first-eq-ABOVE_ZERO-clause-every :
    goal.returns-then-first-eq-ABOVE_ZERO-clause-every
returns-then-first-eq-ABOVE_ZERO-clause-every c = λ z rest fits is.
    every_signed false c.args.bytes.now rest z c.read_magnitude-then-first-eq-ABOVE_ZERO.result
    c.in-len1-up.len_at_least c.if-first-eq-ABOVE_ZERO.true fits is
    c.read_magnitude-then-first-eq-ABOVE_ZERO.ensures.every

pub returns-else-first-eq-ABOVE_ZERO-clause-every :
    goal.returns-else-first-eq-ABOVE_ZERO-clause-every
returns-else-first-eq-ABOVE_ZERO-clause-every c = λ z rest fits is.
    let one = first_bytes c.args.bytes.now rest z fits is in
    absurd (elim one.1 [
      | inl two ↦ c.if-first-eq-AT_ZERO.false two
      | inr odd ↦ elim odd [
        | inl low ↦ c.if-first-eq-BELOW_ZERO.false low
        | inr high ↦
            c.if-first-eq-ABOVE_ZERO.false high
      ]
    ])
