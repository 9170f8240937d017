use Rattle.std.proofs.Common.{◌≡◌, ◌∙◌, sym, ap, ℕ, length, arith, Some, List}
use Rattle.alt_decimal.specs.Reading.{sign_of, behind_sign, front_digits, behind_digits}
use Rattle.std.proofs.lemmas.Bool.{eqb-true, eqb-false}
use Rattle.alt_decimal.proofs.Exponents.{exponent_some}
use Rattle.alt_decimal.proofs.read.exponent_behind.Goals as goal

pub returns-then-is_empty-2 : goal.returns-then-is_empty-2
returns-then-is_empty-2 c = λ upper.
    let bs : List ℕ = behind_sign c.args.text.now in
    let rest : c.split_sign-below.result.1.now ≡ bs = c.split_sign-below.ensures.rest in
    let front : c.split_digits.result.0.now ≡ front_digits bs =
    c.split_digits.ensures.digits ∙ ap front_digits rest in
    let behind : c.split_digits.result.1.now ≡ behind_digits bs =
    c.split_digits.ensures.rest ∙ ap behind_digits rest in
    let some : length c.split_digits.result.0.now ≡ 0
    → ⊥ = eqb-false _ 0 (sym c.if-is_empty.ensures) in
    let none : length c.split_digits.result.1.now ≡ 0 =
    eqb-true _ 0 (sym c.if-is_empty-2.ensures) in
    let e = exponent_some upper (sign_of c.args.text.now) bs (rw (← front) (omega (arith, some)))
    (rw (← behind) none) in (
      Some (record { upper = upper; sign = sign_of c.args.text.now; digits = bs }),
      e,
      c.split_sign-below.ensures.sign,
      c.split_sign-below.ensures.rest,
    )
