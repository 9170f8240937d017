-- Nothing stands behind the field, or the bytes are no field.
use Rattle.std.proofs.Common.{[], ◌++◌, ◌∙◌, ℕ, List, length, ap, sym, arith}
use Rattle.std.proofs.lemmas.List.{append-nil}
use Rattle.alt_base.proofs.Lists.{length-zero}
use Rattle.alt_base.proofs.Numbers.{zero_from_test, above_zero_from_test}
use Rattle.alt_fields.specs.Field.{field}
use Rattle.alt_fields.proofs.Apart.{field-apart}
use Rattle.alt_rowblocks.proofs.decode.whole_field.Goals as goal

pub returns-then-is_empty-clause-some : goal.returns-then-is_empty-clause-some
returns-then-is_empty-clause-some c =
    let f = c.in-Some.ensures.some in
    let content = c.in-Some.content.now in
    let rest = c.in-Some.rest.now in (
      f.0,
      f.1
          ∙ ap (λ (l : List ℕ). field content ++ l)
          (length-zero rest (zero_from_test (length rest) c.if-is_empty.ensures))
          ∙ append-nil (field content),
    )

pub returns-else-is_empty-clause-none : goal.returns-else-is_empty-clause-none
returns-else-is_empty-clause-none c = λ s short is.
    let f = c.in-Some.ensures.some in
    let rest = c.in-Some.rest.now in
    let none = (field-apart c.in-Some.content.now s rest [] f.0 short
    (sym f.1 ∙ is ∙ sym (append-nil (field s)))).1 in
    omega (arith, above_zero_from_test (length rest) c.if-is_empty.ensures, ap length none)

pub returns-in-None-clause-none : goal.returns-in-None-clause-none
returns-in-None-clause-none c =
    λ s short is. c.in-None.ensures.none s [] short (is ∙ sym (append-nil (field s)))
