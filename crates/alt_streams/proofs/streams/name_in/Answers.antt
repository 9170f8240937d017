-- A stream's name may be cut at both ends of the table's name.
use Rattle.std.proofs.Common.{rules, ◌≡◌, ◌-◌, sym, ap, subst, ◌∙◌, length, take, Some, false, true, arith, List, ℕ}
use Rattle.std.specs.Str.{IsCharBoundary}
use Rattle.alt_streams.proofs.Naming.{begins_there, rest_long, name_taken, ends_there}
use Rattle.alt_streams.proofs.streams.name_in.Goals as goal

pub returns-in_err-rest : goal.returns-in_err-rest
returns-in_err-rest c name n small is =
    absurd (let no : false ≡ true = c.in_err-rest.ensures.variant.1
    (begins_there n small name c.args.arn.now is c.utf8.arn) in cc no)

pub returns-in_err-checked_sub : goal.returns-in_err-checked_sub
returns-in_err-checked_sub c name n small is = absurd (c.in_err-checked_sub.ensures (omega (
  arith,
  rest_long n small name c.args.arn.now is c.in_ok-rest.rest.now c.in_ok-rest.ensures.back,
)))

pub returns-in_err-name : goal.returns-in_err-name
returns-in_err-name c name n small is =
    let rest : List ℕ = c.in_ok-rest.rest.now in
    let place : c.in_ok-checked_sub.field-0 ≡ length rest - 29 = search rules in
    absurd (let no : false ≡ true = c.in_err-name.ensures.variant.1
    (subst (λ k. IsCharBoundary rest k) (sym place)
    (ends_there n small name c.args.arn.now is rest c.in_ok-rest.ensures.back)) in cc no)

pub returns : goal.returns
returns c name n small is =
    let rest : List ℕ = c.in_ok-rest.rest.now in
    let place : c.in_ok-checked_sub.field-0 ≡ length rest - 29 = search rules in
    ap (λ s. Some s) (c.in_ok-name.ensures.front ∙ ap (λ k. take k rest) place
    ∙ name_taken n small name c.args.arn.now is rest c.in_ok-rest.ensures.back)
